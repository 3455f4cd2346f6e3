-- Variables are put to the lists of their labels.
use Rattle.std.proofs.Common.{◌≡◌, ℕ, zero, suc, ◌-◌, ◌<◌, ◌≤◌, ◌⊎◌, inl, inr, List, [], ◌∷◌, ◌++◌, length, get_or, set, slice_index, slice_get, Some, refl, sym, ap, ◌∙◌, subst, arith, if◌then◌else◌, Vec}
use Rattle.std.specs.declared.alloc.Global.{Global}
use Rattle.std.proofs.lemmas.Option.{slice_get_within, get_or_from_slice_get}
use Rattle.std.proofs.lemmas.Bool.{cases_eq, eq-eqb, ne_eqb}
use Rattle.std.proofs.lemmas.List.{get_or-map, get_or_append_left, get_or_push, length-append}
use Rattle.ff_basics.specs.NumberedLists.{lists_in}
use Rattle.ff_parts.specs.Gathers.{members, Gathers, putting}
use Rattle.ff_propagate.proofs.Joining.{Stands}

pub put_one : (lists : List (Vec ℕ Global)) (label v : ℕ) (old new : Vec ℕ Global) → 0 < label
    → label ≤ length lists → old ≡ get_or lists (label - 1) old
    → new.items ≡ (get_or lists (label - 1) old).items ++ v ∷ []
    → lists_in (set lists (label - 1) new) ≡ putting label v (lists_in lists)
put_one lists zero v old new some l read is = absurd (omega (arith, some))
put_one lists (suc p) v old new some l read is =
    let e : suc p - 1 ≡ p = omega arith in
    let here : get_or (lists_in lists) p [] ≡ (get_or lists (suc p - 1) old).items = get_or-map (λ v. v.items)
    lists p old [] (omega (arith, l)) ∙ ap (λ k. (get_or lists k old).items) (sym e) in
    ap (λ k. lists_in (set lists k new)) e ∙ map-set' lists p new
    ∙ ap (set (lists_in lists) p) (is ∙ ap (λ xs. xs ++ v ∷ []) (sym here))
  where
    map-set' : (ls : List (Vec ℕ Global)) (k : ℕ) (n : Vec ℕ Global)
        → lists_in (set ls k n) ≡ set (lists_in ls) k n.items
    map-set' [] k n = refl
    map-set' (x ∷ ls) zero n = refl
    map-set' (x ∷ ls) (suc k) n = ap (λ r. x.items ∷ r) (map-set' ls k n)

pub put_none : (lists : List (List ℕ)) (label v : ℕ) → label ≡ 0 → lists ≡ putting label v lists
put_none lists zero v e = refl
put_none lists (suc p) v e = absurd (omega (arith, e))

member_is : (labels : List ℕ) (n k : ℕ) → slice_index labels n ≡ k
    → members labels (suc n) k ≡ members labels n k ++ n ∷ []
member_is labels n k e = ap (λ b. if b then members labels n k ++ n ∷ [] else members labels n k)
    (eq-eqb (slice_index labels n) k e)

member_isnt : (labels : List ℕ) (n k : ℕ) → (slice_index labels n ≡ k → ⊥)
    → members labels (suc n) k ≡ members labels n k
member_isnt labels n k ne = ap (λ b. if b then members labels n k ++ n ∷ [] else members labels n k)
    (ne_eqb (slice_index labels n) k ne)

-- what a member is
abbrev pub IsMember : List ℕ → ℕ → ℕ → ℕ → Type 0
IsMember labels n k v = (v < n) × (slice_index labels v ≡ k)

push_index : (xs : List ℕ) (n i : ℕ) → i < length (xs ++ n ∷ [])
    → ((i < length xs) × (slice_index (xs ++ n ∷ []) i ≡ slice_index xs i))
    ⊎ ((i ≡ length xs) × (slice_index (xs ++ n ∷ []) i ≡ n))
push_index xs n i l = elim (cases_eq i (length xs)) [
  | inl e ↦ inr (e, get_or_push xs n 0 i (sym e))
  | inr ne ↦ (let m : i < length xs = omega (arith, l, ne, length-append xs (n ∷ [])) in inl (m, get_or_append_left xs (n ∷ []) 0 i m))
]

pub member_within : (labels : List ℕ) (n k i : ℕ) → i < length (members labels n k)
    → IsMember labels n k (slice_index (members labels n k) i)
member_within labels zero k i l = absurd (omega (arith, l))
member_within labels (suc n) k i l = elim (cases_eq (slice_index labels n) k) [
  | inl e ↦ subst (λ xs. i < length xs → IsMember labels (suc n) k (slice_index xs i))
      (sym (member_is labels n k e)) (λ m. elim (push_index (members labels n k) n i m) [
        | inl old ↦ subst (λ v. IsMember labels (suc n) k v) (sym old.1)
            (let r = member_within labels n k i old.0 in (omega (arith, r.0), r.1))
        | inr last ↦ subst (λ v. IsMember labels (suc n) k v) (sym last.1) (omega arith, e)
      ]) l
  | inr ne ↦ subst (λ xs. i < length xs → IsMember labels (suc n) k (slice_index xs i))
      (sym (member_isnt labels n k ne))
      (λ m. let r = member_within labels n k i m in (omega (arith, r.0), r.1)) l
]

pub member_stands : (labels : List ℕ) (n k v : ℕ) → v < n → slice_index labels v ≡ k
    → Stands (members labels n k) v
member_stands labels zero k v l e = absurd (omega (arith, l))
member_stands labels (suc n) k v l e = elim (cases_eq (slice_index labels n) k) [
  | inl here ↦ subst (λ xs. Stands xs v) (sym (member_is labels n k here)) (elim (cases_eq v n) [
    | inl same ↦ (length (members labels n k), omega (arith, length-append (members labels n k) (n ∷ [])), get_or_push (members labels n k) n 0 (length (members labels n k)) refl ∙ sym same)
    | inr ne ↦ (let r = member_stands labels n k v (omega (arith, l, ne)) e in (
      r.0,
      omega (arith, r.1, length-append (members labels n k) (n ∷ [])),
      get_or_append_left
          (members labels n k) (n ∷ []) 0 r.0 r.1 ∙ r.2,
    ))
  ])
  | inr away ↦ subst (λ xs. Stands xs v) (sym (member_isnt labels n k away))
      (member_stands labels n k v
      (elim (cases_eq v n)
      [ inl same ↦ absurd (away (ap (slice_index labels) (sym same) ∙ e)) | inr ne ↦ omega (arith, l, ne) ])
      e)
]

abbrev Rises : List ℕ → Type 0
Rises xs = (i j : ℕ) → i < j → j < length xs → slice_index xs i < slice_index xs j

pub members_rise : (labels : List ℕ) (n k : ℕ) → Rises (members labels n k)
members_rise labels zero k = λ i j l m. absurd (omega (arith, m))
members_rise labels (suc n) k = elim (cases_eq (slice_index labels n) k) [
  | inl e ↦ subst Rises (sym (member_is labels n k e))
      (λ i j l m. elim (push_index (members labels n k) n j m) [
        | inl old ↦ (let before : i < length (members labels n k) = omega (arith, l, old.0) in
            let a = get_or_append_left (members labels n k) (n ∷ []) 0 i before in
            omega (arith, a, old.1, members_rise labels n k i j l old.0))
        | inr last ↦ (let before : i < length (members labels n k) = omega (arith, l, last.0) in
            let a = get_or_append_left (members labels n k) (n ∷ []) 0 i before in
            let r = member_within labels n k i before in
            omega (arith, a, last.1, r.0))
      ])
  | inr ne ↦ subst Rises (sym (member_isnt labels n k ne)) (members_rise labels n k)
]

-- a list that was gathered
pub listed : (labels : List ℕ) (n many : ℕ) (lists : List (List ℕ)) → Gathers labels n many lists → (k : ℕ)
    (list : List ℕ) → slice_get lists k ≡ Some list → (k < many) × (list ≡ members labels n (suc k))
listed labels n many lists g k list there =
    let m : k < many = omega (arith, slice_get_within lists k list there, g.as_many) in
    (m, sym (get_or_from_slice_get lists k list [] there) ∙ g.each k m)

-- the same of equal labels
pub gathered : (n : ℕ) (labels slice : List ℕ) (lists : List (List ℕ)) (many parts : ℕ) → length labels ≡ n
    → slice ≡ labels → many ≡ parts → Gathers slice (length slice) many lists → Gathers labels n parts lists
gathered n labels slice lists many parts long same count g = subst (λ k. Gathers labels k parts lists) long
    (subst (λ m. Gathers labels (length labels) m lists) count
    (subst (λ xs. Gathers xs (length xs) many lists) same g))
