-- Constraints are put in the lists of their variables.
use Rattle.std.proofs.Common.{◌≡◌, ℕ, ◌+◌, ◌<◌, ◌≤◌, inl, inr, refl, sym, ap, ◌∙◌, subst, arith, List, [], ◌∷◌, ◌++◌, length, set, slice_index, slice_get, Some}
use Rattle.std.proofs.lemmas.Bool.{cases_eq}
use Rattle.std.proofs.lemmas.List.{get_or-set_same, get_or-set_other, get_or_append_left, get_or_push, length-append}
use Rattle.ff_basics.specs.NumberedLists.{list_at}
use Rattle.ff_tables.specs.declared.terms.Constraint.{Constraint}
use Rattle.ff_tables.specs.declared.terms.Term.{Term}
use Rattle.ff_tables.specs.Orders.{term_at}
use Rattle.ff_propagate.specs.Uses.{IsUse, IsIn, AreListed}

-- ---- one list

kept_in : (xs : List ℕ) (n d : ℕ) → IsIn xs d → IsIn (xs ++ n ∷ []) d
kept_in xs n d (k, z, l, e) = (k, z, omega (arith, l, length-append xs (n ∷ [])), get_or_append_left xs (n ∷ []) 0 k l ∙ e)

pushed_in : (xs : List ℕ) (n : ℕ) → IsIn (xs ++ n ∷ []) n
pushed_in xs n = (length xs, omega arith, omega (arith, length-append xs (n ∷ [])), get_or_push xs n 0 (length xs) refl)

pushed_below : (xs : List ℕ) (n m : ℕ) → n < m → ((k : ℕ) → k < length xs → slice_index xs k < m) → (k : ℕ)
    → k < length (xs ++ n ∷ []) → slice_index (xs ++ n ∷ []) k < m
pushed_below xs n m l below k b = elim (cases_eq k (length xs)) [
  | inl e ↦ (let is = get_or_push xs n 0 k (sym e) in omega (arith, is, l))
  | inr ne ↦ (let c : k < length xs = omega (arith, b, ne, length-append xs (n ∷ [])) in
      let is = get_or_append_left xs (n ∷ []) 0 k c in let m = below k c in omega (arith, is, m))
]

-- ---- one constraint

-- the constraint c has joined the lists of its first j variables
pub record IsPut (cons : List Constraint) (terms : List Term) (c j : ℕ) (lists : List (List ℕ)) : Type 0 where
  pub below : (v k : ℕ) → k < length (list_at lists v) → slice_index (list_at lists v) k < c + 1
  pub each : (d v : ℕ) → d < c → IsUse cons d v → IsIn (list_at lists v) d
  pub here : (i : ℕ) → i < j → IsIn (list_at lists (term_at terms i).var) c

pub put_none : (cons : List Constraint) (terms : List Term) (c : ℕ) (lists : List (List ℕ)) → AreListed cons c lists
    → IsPut cons terms c 0 lists
put_none cons terms c lists a = record {
  below = λ v k l. (let b = a.below v k l in omega (arith, b));
  each = a.each;
  here = λ i l. absurd (omega (arith, l));
}

pub put_more : (cons : List Constraint) (terms : List Term) (c j : ℕ) (old new : List (List ℕ))
    → (term_at terms j).var < length old → IsPut cons terms c j old
    → new ≡ set old (term_at terms j).var (list_at old (term_at terms j).var ++ c ∷ [])
    → IsPut cons terms c (j + 1) new
put_more cons terms c j old new l a e = record {
  below = λ v. elim (cases_eq v p) [
    | inl s ↦ subst (λ xs. (k : ℕ) → k < length xs → slice_index xs k < c + 1) (sym (at_p v s))
        (pushed_below (list_at old p) c (c + 1) (omega arith) (a.below p))
    | inr ne ↦ subst (λ xs. (k : ℕ) → k < length xs → slice_index xs k < c + 1) (sym (other v ne)) (a.below v)
  ];
  each = λ d v b has. grown v d (a.each d v b has);
  here = λ i b. elim (cases_eq i j) [
    | inl s ↦ subst (λ xs. IsIn xs c) (sym (at_p (term_at terms i).var (ap (λ n. (term_at terms n).var) s)))
        (pushed_in (list_at old p) c)
    | inr ne ↦ grown (term_at terms i).var c (a.here i (omega (arith, b, ne)))
  ];
}
  where
    p : ℕ
    p = (term_at terms j).var

    at_p : (v : ℕ) → v ≡ p → list_at new v ≡ list_at old p ++ c ∷ []
    at_p v s = ap (λ ls. list_at ls v) e ∙ ap (list_at (set old p (list_at old p ++ c ∷ []))) s
        ∙ get_or-set_same old p (list_at old p ++ c ∷ []) [] l

    other : (v : ℕ) → (v ≡ p → ⊥) → list_at new v ≡ list_at old v
    other v ne = ap (λ ls. list_at ls v) e ∙ get_or-set_other old p v (list_at old p ++ c ∷ []) [] ne

    grown : (v d : ℕ) → IsIn (list_at old v) d → IsIn (list_at new v) d
    grown v d i = elim (cases_eq v p) [
      | inl s ↦ subst (λ xs. IsIn xs d) (sym (at_p v s))
          (kept_in (list_at old p) c d (subst (λ n. IsIn (list_at old n) d) s i))
      | inr ne ↦ subst (λ xs. IsIn xs d) (sym (other v ne)) i
    ]

same_con : (cons : List Constraint) (d : ℕ) (a b : Constraint) → slice_get cons d ≡ Some a → slice_get cons d ≡ Some b → a ≡ b
same_con cons d a b p q = cc

pub put_all : (cons : List Constraint) (con : Constraint) (terms : List Term) (c j : ℕ) (lists : List (List ℕ))
    → slice_get cons c ≡ Some con → terms ≡ con.terms → length terms ≤ j → IsPut cons terms c j lists
    → AreListed cons (c + 1) lists
put_all cons con terms c j lists at same long a = record {
  below = a.below;
  each = λ d v b has. elim (cases_eq d c) [
    | inl s ↦ subst (λ n. IsIn (list_at lists v) n) (sym s) (own v has.con (ap (slice_get cons) (sym s) ∙ has.there) has.place has.within has.var)
    | inr ne ↦ a.each d v (omega (arith, b, ne)) has
  ];
}
  where
    own : (v : ℕ) (d : Constraint) → slice_get cons c ≡ Some d → (i : ℕ) → i < length d.terms → (term_at d.terms i).var ≡ v
        → IsIn (list_at lists v) c
    own v d there i l var =
        let is : d.terms ≡ terms = ap (λ (z : Constraint). z.terms) (same_con cons c d con there at) ∙ sym same in
        subst (λ n. IsIn (list_at lists n) c) (ap (λ ts. (term_at ts i).var) (sym is) ∙ var)
        (a.here i (omega (arith, ap length is, l, long)))
