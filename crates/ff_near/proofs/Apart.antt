-- No variable stands in two parts.
use Rattle.std.proofs.Common.{◌≡◌, ℕ, suc, ◌<◌, inl, inr, List, [], ◌∷◌, slice_get, refl, arith, Option, Some}
use Rattle.ff_tables.specs.declared.orders.Order.{Order}
use Rattle.ff_tables.specs.declared.terms.Constraint.{Constraint}
use Rattle.ff_propagate.specs.Parts.{IsPart, AreParts}
use Rattle.ff_propagate.proofs.Joining.{Stands}
use Rattle.ff_parts.proofs.Factoring.{AllParts, InSome, parts_apart}

-- which of the parts it is
shows : (ps : List (List ℕ)) (v : ℕ) → InSome ps v → (k : ℕ) × (part : List ℕ) × (slice_get ps k ≡ Some part) × Stands part v
shows [] v st = absurd st
shows (part ∷ ps) v (inl st) = (0, part, refl, st)
shows (part ∷ ps) v (inr st) = let r = shows ps v st in (suc r.0, r.1, r.2, r.3)

all_parts : (vars : ℕ) (cons : List Constraint) (value : ℕ → Option Order) (ps : List (List ℕ))
    → ((k : ℕ) (part : List ℕ) → slice_get ps k ≡ Some part → IsPart vars cons value part)
    → ((k m : ℕ) (p q : List ℕ) → k < m → slice_get ps k ≡ Some p → slice_get ps m ≡ Some q → (v : ℕ) → Stands p v → Stands q v → ⊥)
    → AllParts vars cons value ps
all_parts vars cons value [] each apart = tt
all_parts vars cons value (part ∷ ps) each apart = (
  each 0 part refl,
  (λ v st later. let r = shows ps v later in apart 0 (suc r.0) part r.1 (omega arith) refl r.2 v st r.3),
  all_parts vars cons value ps (λ k p e. each (suc k) p e)
      (λ k m p q l e f. apart (suc k) (suc m) p q (omega (arith, l)) e f),
)

pub parts_all : (vars : ℕ) (cons : List Constraint) (value : ℕ → Option Order) (parts : List (List ℕ))
    → AreParts vars cons value parts → AllParts vars cons value parts
parts_all vars cons value parts are = all_parts vars cons value parts are.each
    (λ k m p q l e f. parts_apart vars cons value p q (are.each k p e) (are.each m q f) (are.sorted k m p q l e f))
