-- Whether a variable is of a part, and whether a constraint touches it.
use Rattle.std.proofs.Common.{◌≡◌, ℕ, zero, suc, ◌<◌, ◌⊎◌, inl, inr, List, [], ◌∷◌, subst, arith}
use Rattle.std.proofs.lemmas.Bool.{cases_eq}
use Rattle.ff_tables.specs.declared.terms.Term.{Term}
use Rattle.ff_tables.specs.Orders.{term_at}
use Rattle.ff_propagate.proofs.Joining.{Stands}

none_later : (part : List ℕ) (u v : ℕ) → (u ≡ v → ⊥) → (Stands part v → ⊥) → Stands (u ∷ part) v → ⊥
none_later part u v ne out (zero, l, e) = ne e
none_later part u v ne out (suc i, l, e) = out (i, omega (arith, l), e)

pub stands_or_not : (part : List ℕ) (v : ℕ) → Stands part v ⊎ (Stands part v → ⊥)
stands_or_not [] v = inr (λ (i, l, e). omega (arith, l))
stands_or_not (u ∷ part) v = elim (cases_eq u v) [
  | inl e ↦ inl (0, omega arith, e)
  | inr ne ↦ elim (stands_or_not part v) [
    | inl s ↦ inl (suc s.0, omega (arith, s.1), s.2)
    | inr out ↦ inr (λ s. none_later part u v ne out s)
  ]
]

-- some term is of the part, or none is
pub touches_or_not : (part : List ℕ) (ts : List Term) (n : ℕ)
    → ((i : ℕ) × (i < n) × Stands part (term_at ts i).var)
    ⊎ ((i : ℕ) → i < n → Stands part (term_at ts i).var → ⊥)
touches_or_not part ts zero = inr (λ i l s. omega (arith, l))
touches_or_not part ts (suc n) = elim (touches_or_not part ts n) [
  | inl t ↦ inl (t.0, omega (arith, t.1), t.2)
  | inr none ↦ elim (stands_or_not part (term_at ts n).var) [
    | inl s ↦ inl (n, omega arith, s)
    | inr out ↦ inr (λ i l s. elim (cases_eq i n) [ inl e ↦ out (subst (λ k. Stands part (term_at ts k).var) e s) | inr ne ↦ none i (omega (arith, l, ne)) s ])
  ]
]
