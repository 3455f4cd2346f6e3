-- Marks on the facts that a clash rests on.
use Rattle.std.proofs.Common.{◌≡◌, ℕ, zero, suc, ◌+◌, ◌-◌, ◌<◌, ◌≤◌, inl, inr, Bool, List, [], ◌∷◌, ◌++◌, length, take, slice_index_or, refl, sym, ap, ◌∙◌, subst, arith, Option, Some, None, Contains}
use Rattle.std.proofs.lemmas.Bool.{cases_lt}
use Rattle.std.proofs.lemmas.List.{get_or_default}
use Rattle.std.proofs.lemmas.List.Elements.{Contains-push, Contains-push_cases, Contains-append_left, Contains-get_or}
use Rattle.std.proofs.lemmas.List.Sorted.{Contains-permutation, IsPermutation-sym}
use Rattle.std.specs.List.Sorted.{IsPermutation, IsNonDecreasingBy}
use Rattle.ff_tables.specs.declared.terms.Constraint.{Constraint}
use Rattle.ff_propagate.specs.declared.facts.Fact.{Fact}
use Rattle.ff_propagate.specs.Facts.{fact_at}
use Rattle.ff_refute.specs.declared.ordering.Ordered.{Ordered}
use Rattle.ff_refute.specs.Marks.{entry_at, IsEntry, AreEntries, HasAll, IsOrderOf, IsMarked, HasMarks, OnlyBase, IsBased, AreBased, AreClosed}

pub fact_within : (fs : List (Option Fact)) (v : ℕ) (h : Fact) → fact_at fs v ≡ Some h → v < length fs
fact_within [] v h e = cc
fact_within (x ∷ fs) zero h e = omega arith
fact_within (x ∷ fs) (suc v) h e = let r = fact_within fs v h e in omega (arith, r)

-- the entry at a place is one of the list
pub entry_in : (order : List Ordered) (j : ℕ) → j < length order → Contains order (entry_at order j)
entry_in order j l = Contains-get_or order j (record { level = 0; var = 0 }) l

pub entry_within : (fs : List (Option Fact)) (order : List Ordered) → AreEntries fs order → (j : ℕ) (d : Ordered) → j < length order
    → (slice_index_or order j d).var < length fs
entry_within fs order each j d l =
    let e = each (slice_index_or order j d) (Contains-get_or order j d l) in
    fact_within fs (slice_index_or order j d).var e.fact e.there

one_fact : (a b : Fact) → ◌≡◌ {A = Option Fact} (Some a) (Some b) → a ≡ b
one_fact a b e = cc

-- the level of an entry is that of the fact
pub level_is : (fs : List (Option Fact)) (order : List Ordered) → AreEntries fs order → (j : ℕ) → j < length order → (h : Fact)
    → fact_at fs (entry_at order j).var ≡ Some h → (entry_at order j).level ≡ h.level
level_is fs order each j l h at =
    let e = each (entry_at order j) (entry_in order j l) in
    sym e.level ∙ ap (λ f. f.level) (one_fact e.fact h (sym e.there ∙ at))

pub based_step : (cons : List Constraint) (fs : List (Option Fact)) (order : List Ordered) → IsOrderOf fs order
    → (k : ℕ) → 0 < k → k ≤ length order → (old new : List Bool) → AreBased cons fs order k old → HasMarks new old
    → IsBased cons fs new (entry_at order (k - 1)).var → OnlyBase fs (entry_at order (k - 1)).var old new
    → AreBased cons fs order (k - 1) new
based_step cons fs order is k pos within old new based has here only j low l marked = elim (cases_lt j k) [
  | inl lt ↦ let same : k - 1 ≡ j = omega (arith, low, lt, pos) in subst (λ i. IsBased cons fs new (entry_at order i).var) same here
  | inr le ↦ elim (only (entry_at order j).var marked) [
    | inl before ↦ λ h d con at by there t g tl gat less. has _ (based j le l before h d con at by there t g tl gat less)
    | inr now ↦ (
        let at : k - 1 < length order = omega (arith, pos, within) in
        let up = is.sorted (k - 1) j (record { level = 0; var = 0 }) (omega (arith, le)) l in
        let a = level_is fs order is.each j l now.0 now.2 in
        let b = level_is fs order is.each (k - 1) at now.1 now.3 in
        absurd (omega (arith, up, a, b, now.4)))
  ]
]

pub all_closed : (cons : List Constraint) (fs : List (Option Fact)) (order : List Ordered) → IsOrderOf fs order
    → (k : ℕ) → k ≡ 0 → (marks : List Bool) → AreBased cons fs order k marks → AreClosed cons fs marks
all_closed cons fs order is k none marks based v marked h d con at =
    let c = is.all v h (fact_within fs v h at) at in
    let e : entry_at order c.0 ≡ record { level = h.level; var = v } = get_or_default order c.0 _ _ c.1 ∙ c.2 in
    let f : (entry_at order c.0).var ≡ v = ap (λ q. q.var) e in
    subst (λ u. IsBased cons fs marks u) f (based c.0 (omega (arith, none)) c.1 (subst (IsMarked marks) (sym f) marked)) h d con at

-- one entry more
pub entries_more : (fs : List (Option Fact)) (order : List Ordered) (n : ℕ) → AreEntries fs order → HasAll fs order n
    → (h : Fact) → fact_at fs n ≡ Some h
    → AreEntries fs (order ++ record { level = h.level; var = n } ∷ []) × HasAll fs (order ++ record { level = h.level; var = n } ∷ []) (n + 1)
entries_more fs order n each all h at = (
  λ e c. elim (Contains-push_cases order _ e c) [
    | inl old ↦ each e old
    | inr new ↦ subst (IsEntry fs) new (record { fact = h; there = at; level = refl })
  ],
  λ v g l gat. elim (cases_lt v n) [
    | inl lt ↦ Contains-append_left order _ _ (all v g lt gat)
    | inr le ↦ (
        let same : n ≡ v = omega (arith, l, le) in
        let fact : h ≡ g = one_fact h g (sym at ∙ ap (fact_at fs) same ∙ gat) in
        subst (Contains (order ++ record { level = h.level; var = n } ∷ []))
        (ap (λ f. record { level = f.level; var = n }) fact ∙ ap (λ u. record { level = g.level; var = u }) same)
        (Contains-push order (record { level = h.level; var = n })))
  ],
)

none_some : {A : Type 0} (h : Fact) → ◌≡◌ {A = Option Fact} None (Some h) → A
none_some h e = cc

pub entries_same : (fs : List (Option Fact)) (order : List Ordered) (n : ℕ) → AreEntries fs order → HasAll fs order n
    → fact_at fs n ≡ None
    → AreEntries fs order × HasAll fs order (n + 1)
entries_same fs order n each all none = (
  each,
  λ v g l gat. elim (cases_lt v n) [
    | inl lt ↦ all v g lt gat
    | inr le ↦ let same : v ≡ n = omega (arith, l, le) in none_some g (sym none ∙ ap (fact_at fs) (sym same) ∙ gat)
  ],
)

take_front : (xs ys : List Ordered) (n : ℕ) → n ≡ length xs → take n (xs ++ ys) ≡ xs
take_front [] ys zero e = refl
take_front [] ys (suc n) e = absurd (omega (arith, e))
take_front (x ∷ xs) ys zero e = absurd (omega (arith, e))
take_front (x ∷ xs) ys (suc n) e = ap (λ zs. x ∷ zs) (take_front xs ys n (omega (arith, e)))

pub sorted_order : (fs : List (Option Fact)) (old new rest : List Ordered) (n : ℕ) → n ≡ length new → AreEntries fs old → HasAll fs old (length fs)
    → IsPermutation old new → IsNonDecreasingBy (λ e. e.level) new → IsOrderOf fs (take n (new ++ rest))
sorted_order fs old new rest n long each all moved up = subst (IsOrderOf fs) (sym (take_front new rest n long)) (record {
  each = λ e c. each e (Contains-permutation new old e (IsPermutation-sym old new moved) c);
  all = λ v h l at. Contains-permutation old new _ moved (all v h l at);
  sorted = up;
})
