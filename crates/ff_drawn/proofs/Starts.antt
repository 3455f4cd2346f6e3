-- One dart before another.
use Rattle.std.proofs.Common.{inl, inr, arith, ◌∙◌}
use Rattle.ff_drawn.specs.declared.darts.Dart.{Dart}
use Rattle.ff_drawn.specs.Darts.{ComesBefore}

pub before_trans : (p q r : Dart) → ComesBefore p q → ComesBefore q r → ComesBefore p r
before_trans p q r (inl a) (inl b) = inl (omega (arith, a, b))
before_trans p q r (inl a) (inr b) = let e = b.0 in inl (omega (arith, a))
before_trans p q r (inr a) (inl b) = let e = a.0 in inl (omega (arith, b))
before_trans p q r (inr a) (inr b) = let l = a.1 in let m = b.1 in inr (a.0 ∙ b.0, omega arith)

pub not_before_itself : (p : Dart) → ComesBefore p p → ⊥
not_before_itself p (inl l) = omega (arith, l)
not_before_itself p (inr h) = let l = h.1 in omega arith
