-- Where the items of a list behind another stand.
use Rattle.std.proofs.Common.{◌≡◌, ◌⊎◌, inl, inr, ℕ, zero, suc, ◌+◌, ◌∙◌, List, [], ◌∷◌, ◌++◌, length, slice_get, Some, ap, arith}
use Rattle.std.proofs.lemmas.Option.{slice_get_within}

pub in_first : {A : Type 0} (xs ys : List A) (n : ℕ) (x : A) → slice_get xs n ≡ Some x → slice_get (xs ++ ys) n ≡ Some x
in_first [] ys n x e = absurd (omega (arith, slice_get_within [] n x e))
in_first (y ∷ xs) ys zero x e = e
in_first (y ∷ xs) ys (suc n) x e = in_first xs ys n x e

pub in_second : {A : Type 0} (xs ys : List A) (n : ℕ) (x : A) → slice_get ys n ≡ Some x → slice_get (xs ++ ys) (length xs + n) ≡ Some x
in_second {A} [] ys n x e = let z : 0 + n ≡ n = omega arith in ap (slice_get ys) z ∙ e
in_second {A} (y ∷ xs) ys n x e = let z : suc (length xs) + n ≡ suc (length xs + n) = omega arith in ap (slice_get (y ∷ (xs ++ ys))) z ∙ in_second xs ys n x e

-- where an item of the two stands
unfoldable pub Where : {A : Type 0} → List A → List A → ℕ → A → Type 0
Where xs ys n x = (slice_get xs n ≡ Some x) ⊎ ((k : ℕ) × (n ≡ length xs + k) × (slice_get ys k ≡ Some x))

pub in_either : {A : Type 0} (xs ys : List A) (n : ℕ) (x : A) → slice_get (xs ++ ys) n ≡ Some x → Where xs ys n x
unfolding Where
in_either [] ys n x e = inr (n, omega arith, e)
in_either (y ∷ xs) ys zero x e = inl e
in_either (y ∷ xs) ys (suc n) x e = elim (in_either xs ys n x e) [
  | inl l ↦ inl l
  | inr r ↦ inr (r.0, omega (arith, r.1), r.2)
]
