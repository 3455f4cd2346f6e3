-- Places added up with weights: their heights are added up with the same weights.
use Rattle.std.proofs.Common.{◌≡◌, refl, arith, ◌∙◌, ℤ, pos, ◌+ℤ◌, ◌*ℤ◌, ◌<ℤ◌, [], ◌∷◌}
use lib.IntN.{neg_ℤ}
use Rattle.ff_whole.proofs.Formulas.{PlaceE, place_e, place_env, line_e, line_env, height_e}
use Rattle.ff_whole.proofs.Ring.{Expr, var, num, ◌⊕◌, ◌⊗◌, opp, solve}
use Rattle.ff_whole.proofs.Signs.{linear, pos-mul}
use Rattle.ff_whole.specs.Places.{height}
use Rattle.ff_whole.specs.declared.lines.Line.{Line}
use Rattle.ff_whole.specs.declared.places.Place.{Place}

-- a times p and b times q
abbrev pub combine : ℤ → Place → ℤ → Place → Place
combine a p b q = record { x = a *ℤ p.x +ℤ b *ℤ q.x; y = a *ℤ p.y +ℤ b *ℤ q.y; w = a *ℤ p.w +ℤ b *ℤ q.w }

-- the same as expressions
abbrev pub combine_e : Expr → PlaceE → Expr → PlaceE → PlaceE
combine_e a p b q = record { x = a ⊗ p.x ⊕ b ⊗ q.x; y = a ⊗ p.y ⊕ b ⊗ q.y; w = a ⊗ p.w ⊕ b ⊗ q.w }

-- heights are added up with the same weights
pub height-combine : (l : Line) (a : ℤ) (p : Place) (b : ℤ) (q : Place)
    → height l (combine a p b q) ≡ a *ℤ height l p +ℤ b *ℤ height l q
height-combine l a p b q =
    let l' = line_e 0 in let p' = place_e 3 in let q' = place_e 6 in let a' = var 9 in let b' = var 10 in
    solve (line_env l (place_env p (place_env q (a ∷ b ∷ []))))
    (height_e l' (combine_e a' p' b' q'))
    (a' ⊗ height_e l' p' ⊕ b' ⊗ height_e l' q') refl

-- places left of a line add up to a place left of it, with positive weights
pub left-combine : (l : Line) (a : ℤ) (p : Place) (b : ℤ) (q : Place) → pos 0 <ℤ a → pos 0 <ℤ b
    → pos 0 <ℤ height l p → pos 0 <ℤ height l q → pos 0 <ℤ height l (combine a p b q)
left-combine l a p b q f g h k =
    let e = height-combine l a p b q in
    let u = pos-mul a (height l p) f h in
    let v = pos-mul b (height l q) g k in
    omega (arith, linear)

-- ---- where a segment crosses a line

-- where the segment from p to q crosses the line l
abbrev pub crossing : Line → Place → Place → Place
crossing l p q = combine (neg_ℤ (height l q)) p (height l p) q

-- it is on the line
pub height-crossing : (l : Line) (p q : Place) → height l (crossing l p q) ≡ pos 0
height-crossing l p q = height-combine l (neg_ℤ (height l q)) p (height l p) q ∙ cancel (height l p) (height l q)
  where
    cancel : (u v : ℤ) → neg_ℤ v *ℤ u +ℤ u *ℤ v ≡ pos 0
    cancel u v = solve (u ∷ v ∷ []) (opp (var 1) ⊗ var 0 ⊕ var 0 ⊗ var 1) (num (pos 0)) refl
