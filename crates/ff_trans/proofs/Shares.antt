-- The cells that a face shares with each face above it, cell by cell.
use Rattle.std.proofs.Common.{◌≡◌, ℕ, zero, suc, ◌+◌, ◌<◌, ◌≤◌, ◌⊎◌, inl, inr, refl, sym, ap, ◌∙◌, subst, arith, List, [], ◌∷◌, ◌++◌, length, set, slice_index, slice_set, slice_get, Some, Vec}
use Rattle.std.specs.declared.alloc.Global.{Global}
use Rattle.std.specs.List.{Contains}
use Rattle.std.specs.List.Sorted.{IsStrictlyIncreasing}
use Rattle.std.proofs.lemmas.Bool.{cases_eq}
use Rattle.std.proofs.lemmas.List.{length-set, get_or-set_same, get_or-set_other, get_or_append_left, get_or_push, length-append}
use Rattle.std.proofs.lemmas.List.Kept.{AllPairs-from_increasing}
use Rattle.std.proofs.lemmas.Option.{slice_get_within, same_Some}
use Rattle.ff_basics.specs.NumberedLists.{list_at, lists_in}
use Rattle.ff_basics.proofs.Numbers.{last_or}
use Rattle.ff_whole.proofs.Searches.{search}
use Rattle.ff_cells.specs.declared.cell.Cell.{Cell}
use Rattle.ff_trans.specs.Rows.{HasFace, AreCellsOf, AreNumbered, HoldBoth, IsPut, IsPutAbove, AreAmong, AreSharedTo, AreShared}
use Rattle.ff_trans.proofs.Marks.{first_or, place_in, member_at}
use Rattle.ff_trans.proofs.Indexes.{push_index}

-- ---- lists without cells

pub empty_one : (lists : List (Vec ℕ Global)) (p : ℕ) (new : Vec ℕ Global) → new.items ≡ [] → lists_in (set lists p new) ≡ set (lists_in lists) p []
empty_one lists p new none = at lists p ∙ ap (set (lists_in lists) p) none where
  at : (ls : List (Vec ℕ Global)) (k : ℕ) → lists_in (set ls k new) ≡ set (lists_in ls) k new.items
  at [] k = refl
  at (x ∷ ls) zero = refl
  at (x ∷ ls) (suc k) = ap (λ r. x.items ∷ r) (at ls k)

pub emptied : (k : ℕ) (old new : List (List ℕ)) → k < length old → new ≡ slice_set old k [] → ((d : ℕ) → d < k → list_at old d ≡ []) → (d : ℕ) → d < k + 1 → list_at new d ≡ []
emptied k old new l e before d m = elim (last_or d k m) [
  | inl b ↦ ap (λ ls. list_at ls d) e ∙ get_or-set_other old k d [] [] (λ s. omega (arith, s, b)) ∙ before d b
  | inr b ↦ ap (λ ls. list_at ls d) e ∙ ap (list_at (set old k [])) b ∙ get_or-set_same old k [] [] l
]

-- ---- one cell

-- one more before those to which it was put
pub put_less : (faces : List ℕ) (to from cell f : ℕ) (old mid new : List (List ℕ)) → IsStrictlyIncreasing faces → to + 1 ≡ from → to < length faces → f ≡ slice_index faces to → f < length old
    → IsPut faces from (length faces) cell old mid → new ≡ slice_set mid f (list_at mid f ++ cell ∷ []) → IsPut faces to (length faces) cell old new
put_less faces to from cell f old mid new up next l is below a e = record {
  long = ap length e ∙ length-set mid f (list_at mid f ++ cell ∷ []) ∙ a.long;
  put = λ i g m. elim (first_or to i g) [
    | inl n ↦ ap (λ ls. list_at ls (slice_index faces i)) e ∙ get_or-set_other mid f (slice_index faces i) (list_at mid f ++ cell ∷ []) [] (different i n m) ∙ a.put i (omega (arith, n, next)) m
    | inr n ↦ ap (λ ls. list_at ls (slice_index faces i)) e ∙ ap (λ k. list_at (set mid f (list_at mid f ++ cell ∷ [])) k) (here i n)
        ∙ get_or-set_same mid f (list_at mid f ++ cell ∷ []) [] within ∙ ap (λ xs. xs ++ cell ∷ []) (fresh ∙ ap (list_at old) (sym (here i n)))
  ];
  same = λ k none. ap (λ ls. list_at ls k) e ∙ get_or-set_other mid f k (list_at mid f ++ cell ∷ []) [] (λ d. none to (omega arith) l (sym is ∙ sym d))
      ∙ a.same k (λ i g m. none i (omega (arith, g, next)) m);
} where
  within : f < length mid
  within = subst (λ n. f < n) (sym a.long) below

  here : (i : ℕ) → i ≡ to → slice_index faces i ≡ f
  here i n = ap (slice_index faces) n ∙ sym is

  different : (i : ℕ) → to + 1 ≤ i → i < length faces → slice_index faces i ≡ f → ⊥
  different i g m d = let r = AllPairs-from_increasing faces up to i 0 (omega (arith, g)) m in omega (arith, r, d, is)

  fresh : list_at mid f ≡ list_at old f
  fresh = a.same f (λ i g m. different i (omega (arith, g, next)) m)

-- ---- cell by cell

module _ (cells : List Cell) (list : List ℕ) (of : AreNumbered cells list) (n : ℕ) (within : n < length list) where
  module _ (h : ℕ) (some : List ℕ) (are : AreAmong cells list n h some) where
    abbrev i : ℕ
    i = slice_index list n

    longer : length (some ++ i ∷ []) ≡ length some + 1
    longer = length-append some (i ∷ [])

    kept : (x : ℕ) → x < length some → slice_index (some ++ i ∷ []) x ≡ slice_index some x
    kept x l = get_or_append_left some (i ∷ []) 0 x l

    earlier : (x : ℕ) → x < length some → slice_index some x < i
    earlier x l = let r = (are.each x l).0 in let e = r.2 in let b = of.rising r.0 n r.1 within in omega (arith, e, b)

    with_cell : HasFace cells i h → AreAmong cells list (n + 1) h (some ++ i ∷ [])
    with_cell has = record {
      rising = λ x y l m. elim (push_index some i y m) [
        | inl d ↦ (let b = d.0 in let k = kept x (omega (arith, l, b)) in let r = are.rising x y l d.0 in let e = d.1 in omega (arith, k, r, e))
        | inr d ↦ (let b = d.0 in let k = kept x (omega (arith, l, b)) in let r = earlier x (omega (arith, l, b)) in let e = d.1 in omega (arith, k, r, e))
      ];
      each = λ x m. elim (push_index some i x m) [
        | inl d ↦ subst (λ v. ((y : ℕ) × (y < n + 1) × (slice_index list y ≡ v)) × HasFace cells v h) (sym d.1)
            (let r = are.each x d.0 in let b = r.0.1 in ((r.0.0, omega (arith, b), r.0.2), r.1))
        | inr d ↦ subst (λ v. ((y : ℕ) × (y < n + 1) × (slice_index list y ≡ v)) × HasFace cells v h) (sym d.1) ((n, omega arith, refl), has)
      ];
      all = λ y l face. elim (last_or y n l) [
        | inl m ↦ (let r = are.all y m face in let b = r.1 in (r.0, (let s = longer in omega (arith, b, s)), kept r.0 r.1 ∙ r.2))
        | inr m ↦ (length some, (let s = longer in omega (arith, s)), get_or_push some i 0 (length some) refl ∙ ap (slice_index list) (sym m))
      ];
    }

    without_cell : (HasFace cells i h → ⊥) → AreAmong cells list (n + 1) h some
    without_cell not = record {
      rising = are.rising;
      each = λ x m. (let r = are.each x m in let b = r.0.1 in ((r.0.0, omega (arith, b), r.0.2), r.1));
      all = λ y l face. elim (last_or y n l) [ inl m ↦ are.all y m face | inr m ↦ absurd (not (subst (λ j. HasFace cells (slice_index list j) h) m face)) ];
    }

  pub share_more : (f w : ℕ) (c : Cell) (old new : List (List ℕ)) → slice_get cells (slice_index list n) ≡ Some c → AreSharedTo cells list n f w old → IsPutAbove c.faces f (slice_index list n) old new
      → AreSharedTo cells list (n + 1) f w new
  share_more f w c old new at s (from, place, p) = record { long = p.long ∙ s.long; each = each } where
    behind : (j h : ℕ) → slice_index c.faces j ≡ h → f < h → from ≤ j
    behind j h e a = elim (either from j) [ inl b ↦ b | inr b ↦ (let q = place.low j b in absurd (omega (arith, q, a, e))) ] where
      either : (p j : ℕ) → (p ≤ j) ⊎ (j < p)
      either p j = grind arith

    each : (h : ℕ) → f < h → h < w → AreAmong cells list (n + 1) h (list_at new h)
    each h a l = elim (search (length c.faces) (λ j. slice_index c.faces j ≡ h) (λ j. slice_index c.faces j ≡ h → ⊥) (λ j m. cases_eq (slice_index c.faces j) h)) [
      | inl r ↦ subst (AreAmong cells list (n + 1) h) (sym (subst (λ k. list_at new k ≡ list_at old k ++ slice_index list n ∷ []) r.2 (p.put r.0 (behind r.0 h r.2 a) r.1)))
          (with_cell h (list_at old h) (s.each h a l) (record { cell = c; there = at; face = member_at c.faces h r.0 r.1 r.2 }))
      | inr none ↦ subst (AreAmong cells list (n + 1) h) (sym (p.same h (λ j g. none j)))
          (without_cell h (list_at old h) (s.each h a l) (λ has. (let q = place_in c.faces h (subst (λ (z : Cell). Contains z.faces h) (same_Some has.cell c (sym has.there ∙ at)) has.face) in none q.0 q.1 q.2)))
    ]

-- ---- all of them

pub cells_numbered : (cells : List Cell) (f : ℕ) (list : List ℕ) → AreCellsOf cells (length cells) f list → AreNumbered cells list
cells_numbered cells f list of = record { rising = of.rising; within = λ x l. (of.each x l).0 }

pub share_done : (cells : List Cell) (f w n : ℕ) (list : List ℕ) (lists : List (List ℕ)) → length list ≤ n → AreCellsOf cells (length cells) f list → AreSharedTo cells list n f w lists → n ≤ length list → AreShared cells f w lists
share_done cells f w n list lists far of s near = record { long = s.long; each = each } where
  each : (h : ℕ) → f < h → h < w → HoldBoth cells f h (list_at lists h)
  each h a l = let are = s.each h a l in record {
    rising = are.rising;
    each = λ x m. (let r = are.each x m in let b = r.0.1 in
        (subst (λ j. HasFace cells j f) r.0.2 (of.each r.0.0 (omega (arith, b, near))).1, r.1));
    all = λ i one two. (let y = of.all i (slice_get_within cells i one.cell one.there) one in let b = y.1 in
        let x = are.all y.0 (omega (arith, b, far)) (subst (λ j. HasFace cells j h) (sym y.2) two) in (x.0, x.1, x.2 ∙ y.2));
  }
