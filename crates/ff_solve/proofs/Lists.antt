-- Lists by their places.
use Rattle.std.proofs.Common.{◌≡◌, ◌⊎◌, inl, inr, ℕ, zero, suc, ◌+◌, ◌<◌, ◌≤◌, ◌∙◌, List, [], ◌∷◌, ◌++◌, length, get_or, slice_get, slice_index, Option, Some, refl, ap, sym, subst, arith, length-append}
use Rattle.std.proofs.Math.ListN.{get_or-append}
use Rattle.std.proofs.Math.Seq.{get_or-append_seam}
use Rattle.std.proofs.lemmas.List.{length-map, get_or-map}
use Rattle.std.proofs.lemmas.Option.{slice_get_within, slice_get-get_or, get_or_from_slice_get}
use Rattle.ff_basics.proofs.Numbers.{last_or}
use Rattle.ff_tables.specs.declared.orders.Order.{Order}
use Rattle.ff_tables.specs.declared.terms.Constraint.{Constraint}
use Rattle.ff_propagate.specs.declared.parts.Part.{Part}
use Rattle.ff_propagate.specs.Parts.{AreParts}
use Rattle.ff_parts.specs.Lists.{vars_of}

-- one item more
pub each_more : {A : Type 0} (P : ℕ → A → Type 0) (xs ys : List A) (x : A) (n : ℕ) → ys ≡ xs ++ x ∷ [] → length xs ≡ n → ((k : ℕ) (y : A) → slice_get xs k ≡ Some y → P k y)
    → P n x → (k : ℕ) (y : A) → slice_get ys k ≡ Some y → P k y
each_more P xs ys x n e as_many old new k y there =
    let inside : k < length xs + 1 = subst (λ (m : ℕ). k < m) (ap length e ∙ length-append xs (x ∷ [])) (slice_get_within ys k y there) in
    let is : get_or (xs ++ x ∷ []) k y ≡ y = ap (λ l. get_or l k y) (sym e) ∙ get_or_from_slice_get ys k y y there in
    elim (last_or k (length xs) inside) [
      | inl l ↦ old k y (slice_get-get_or xs k y l ∙ ap Some (sym (get_or-append xs (x ∷ []) y k l) ∙ is))
      | inr s ↦ subst (λ (m : ℕ). P m y) (sym (s ∙ as_many)) (subst (λ z. P n z) (sym (get_or-append_seam xs x [] y) ∙ ap (λ m. get_or (xs ++ x ∷ []) m y) (sym s) ∙ is) new)
    ]

-- what stands at a place is one
pub one_there : {A : Type 0} (xs : List A) (k : ℕ) (x y : A) → slice_get xs k ≡ Some x → slice_get xs k ≡ Some y → x ≡ y
one_there xs k x y a b = sym (get_or_from_slice_get xs k x x a) ∙ get_or_from_slice_get xs k y x b

-- the variables of a part in a list
pub vars_at : (parts : List Part) (k : ℕ) (part : Part) → slice_get parts k ≡ Some part → slice_get (vars_of parts) k ≡ Some part.vars
vars_at parts k part there =
    let l = slice_get_within parts k part there in
    let m : k < length (vars_of parts) = omega (arith, l, length-map parts (λ (p : Part). p.vars)) in
    slice_get-get_or (vars_of parts) k part.vars m ∙ ap Some (get_or-map (λ (p : Part). p.vars) parts k part part.vars l ∙ ap (λ (p : Part). p.vars) (get_or_from_slice_get parts k part part there))

-- there are no more parts than variables
module _ (vars : ℕ) (cons : List Constraint) (value : ℕ → Option Order) (parts : List (List ℕ)) (are : AreParts vars cons value parts) where
  rising : (k : ℕ) (p : List ℕ) → slice_get parts k ≡ Some p → k ≤ slice_index p 0
  rising zero p there = omega arith
  rising (suc k) p there =
      let l : suc k < length parts = slice_get_within parts (suc k) p there in
      let before = slice_get-get_or parts k p (omega (arith, l)) in
      let low = rising k (get_or parts k p) before in
      let next = are.sorted k (suc k) (get_or parts k p) p (omega arith) before there in
      omega (arith, low, next)

  pub few_parts : length parts ≤ vars
  few_parts = by (length parts) refl where
    by : (n : ℕ) → length parts ≡ n → n ≤ vars
    by zero e = omega arith
    by (suc n) e =
        let there = slice_get-get_or parts n [] (omega (arith, e)) in
        let low = rising n (get_or parts n []) there in
        let part = are.each n (get_or parts n []) there in
        let high = (part.undecided 0 part.some).variable in
        omega (arith, low, high)
