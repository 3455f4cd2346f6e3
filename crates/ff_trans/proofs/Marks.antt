-- The row of a pair, cell by cell.
use Rattle.std.proofs.Common.{◌≡◌, ℕ, zero, suc, ◌+◌, ◌<◌, ◌≤◌, ◌⊎◌, inl, inr, refl, sym, ap, ◌∙◌, subst, arith, List, [], ◌∷◌, length, slice_index, slice_get, Option, Some, None}
use Rattle.std.specs.List.{Contains}
use Rattle.std.proofs.lemmas.List.{get_or_default}
use Rattle.ff_cells.specs.declared.cell.Cell.{Cell}
use Rattle.ff_trans.specs.Triples.{HasThree}
use Rattle.std.specs.List.Sorted.{IsStrictlyIncreasing}
use Rattle.std.proofs.lemmas.List.Kept.{AllPairs-from_increasing}
use Rattle.std.proofs.lemmas.Option.{same_Some, slice_get_within}
use Rattle.ff_basics.proofs.Numbers.{last_or}
use Rattle.ff_trans.specs.Rows.{HasFace, AreNumbered, HoldBoth, row_at, IsPlaceAbove, IsMarked, IsMarkedAbove, IsReach, AreSameFrom, IsFirstOf, IsRowTo, IsFirst, IsRow}

apart : {A : Type 0} (o : Option A) (x : A) → o ≡ None → o ≡ Some x → ⊥
apart o x e f = cc

-- the place of a member, and a member by its place
pub place_in : (xs : List ℕ) (f : ℕ) → Contains xs f → (j : ℕ) × (j < length xs) × (slice_index xs j ≡ f)
place_in xs f (j, l, e) = (j, l, get_or_default xs j 0 f l ∙ e)

pub member_at : (xs : List ℕ) (f j : ℕ) → j < length xs → slice_index xs j ≡ f → Contains xs f
member_at xs f j l e = (j, l, get_or_default xs j f 0 l ∙ e)

-- ---- the faces of one cell

pub first_or : (a b : ℕ) → a ≤ b → (a + 1 ≤ b) ⊎ (b ≡ a)
first_or a b l = grind (arith, l)

-- one more before those that are marked
pub marked_less : (faces : List ℕ) (to from n cell x : ℕ) (old mid new : List (Option ℕ)) → to + 1 ≡ from → from ≤ n → x ≡ slice_index faces to → IsMarked faces from n cell old mid → IsMarked (x ∷ []) 0 1 cell mid new
    → IsMarked faces to n cell old new
marked_less faces to from n cell x old mid new next le e a b = record {
  long = b.long ∙ a.long;
  kept = λ k y s. b.kept k y (a.kept k y s);
  marked = λ i g l none. elim (first_or to i g) [
    | inl m ↦ b.kept (slice_index faces i) cell (a.marked i (omega (arith, m, next)) l none)
    | inr m ↦ at_first i m none
  ];
  only = λ k none. elim (a.only k none) [
    | inr s ↦ inr (b.kept k cell s.0, (s.1.0, (let g = s.1.1 in omega (arith, g, next)), s.1.2, s.1.3))
    | inl s ↦ elim (b.only k s) [
      | inl t ↦ inl t
      | inr t ↦ inr (t.0, (to, omega arith, omega (arith, next, le), sym e ∙ first t.1.0 k t.1.2 t.1.3))
    ]
  ];
} where
  first : (i k : ℕ) → i < 1 → slice_index (x ∷ []) i ≡ k → x ≡ k
  first zero k l d = d
  first (suc i) k l d = absurd (omega (arith, l))

  at_first : (i : ℕ) → i ≡ to → row_at old (slice_index faces i) ≡ None → row_at new (slice_index faces i) ≡ Some cell
  at_first i m none = elim (a.only (slice_index faces i) none) [
    | inr s ↦ b.kept (slice_index faces i) cell s.0
    | inl s ↦ (let at : x ≡ slice_index faces i = e ∙ ap (slice_index faces) (sym m) in
        subst (λ k. row_at new k ≡ Some cell) at (b.marked 0 (omega arith) (omega arith) (subst (λ k. row_at mid k ≡ None) (sym at) s)))
  ]

-- the faces up to one that isn't above h aren't
pub place_above : (faces : List ℕ) → IsStrictlyIncreasing faces → (h p from : ℕ) → p < length faces → slice_index faces p ≤ h → from ≡ p + 1 → ((j : ℕ) → from ≤ j → j < length faces → h < slice_index faces j) → IsPlaceAbove faces h from
place_above faces up h p from l le e high = record { low = low; high = high } where
  low : (j : ℕ) → j < from → slice_index faces j ≤ h
  low j m = elim (last_or j p (omega (arith, m, e))) [
    | inl b ↦ (let q = AllPairs-from_increasing faces up j p 0 b l in omega (arith, q, le))
    | inr b ↦ (let q = ap (slice_index faces) b in omega (arith, q, le))
  ]

-- so it is with one more
pub above_more : (faces : List ℕ) (h to from : ℕ) → to + 1 ≡ from → h < slice_index faces to → ((j : ℕ) → from ≤ j → j < length faces → h < slice_index faces j) → (j : ℕ) → to ≤ j → j < length faces → h < slice_index faces j
above_more faces h to from next a b j g l = elim (first_or to j g) [
  | inl m ↦ b j (omega (arith, m, next)) l
  | inr m ↦ subst (λ i. h < slice_index faces i) (sym m) a
]

-- what is marked is below a number above the faces
pub marked_below : (faces : List ℕ) (from n cell past : ℕ) (old new : List (Option ℕ)) → ((j : ℕ) → j < n → slice_index faces j < past) → IsMarked faces from n cell old new → AreSameFrom past old new
marked_below faces from n cell past old new below m k le = by (row_at old k) refl where
  by : (o : Option ℕ) → row_at old k ≡ o → row_at new k ≡ row_at old k
  by (Some x) e = m.kept k x e ∙ sym e
  by None e = elim (m.only k e) [
    | inl s ↦ s ∙ sym e
    | inr s ↦ (let b = below s.1.0 s.1.2 in let i = s.1.3 in absurd (omega (arith, b, i, le)))
  ]

pub reach_more : (old new : List (Option ℕ)) (reach past next : ℕ) → length new ≡ length old → IsReach old reach → past ≤ length old → AreSameFrom past old new → reach ≤ next → past ≤ next → next ≤ length old
    → IsReach new next
reach_more old new reach past next long r few same a b c = record { within = omega (arith, long, c); none = λ k l. same k (omega (arith, b, l)) ∙ r.none k (omega (arith, a, l)) }

-- ---- cell by cell

module _ (cells : List Cell) (list : List ℕ) (h w : ℕ) (of : AreNumbered cells list) where
  next_some : (n k y : ℕ) → n < length list → IsFirstOf cells list n k (Some y) → IsFirstOf cells list (n + 1) k (Some y)
  next_some n k y l (at, has, before) = (
    (at.0, (let m = at.1 in omega (arith, m)), at.2),
    has,
    λ x m less face. elim (last_or x n m) [
      | inl b ↦ before x b less face
      | inr b ↦ (let r = of.rising at.0 n at.1 l in let e = at.2 in
          absurd (later (slice_index list x) (slice_index list n) (slice_index list at.0) y (ap (slice_index list) b) r e less))
    ],
  ) where
    later : (a b c d : ℕ) → a ≡ b → c < b → c ≡ d → a < d → ⊥
    later a b c d e l m n = omega (arith, e, l, m, n)

  module _ (n : ℕ) (c : Cell) (within : n < length list) (at : slice_get cells (slice_index list n) ≡ Some c) (mid new : List (Option ℕ)) where
    -- what the next cell has
    of_next : (x k : ℕ) → x ≡ n → HasFace cells (slice_index list x) k → Contains c.faces k
    of_next x k e has =
        let same : has.cell ≡ c = same_Some has.cell c (sym has.there ∙ ap (λ i. slice_get cells (slice_index list i)) e ∙ at) in
        subst (λ (z : Cell). Contains z.faces k) same has.face

    now_none : (k : ℕ) → IsFirstOf cells list n k None → (Contains c.faces k → ⊥) → IsFirstOf cells list (n + 1) k None
    now_none k none not x m face = elim (last_or x n m) [
      | inl b ↦ none x b face
      | inr b ↦ not (of_next x k b face)
    ]

    now_some : (k : ℕ) → IsFirstOf cells list n k None → Contains c.faces k → IsFirstOf cells list (n + 1) k (Some (slice_index list n))
    now_some k none has = (
      (n, omega arith, refl),
      record { cell = c; there = at; face = has },
      λ x m less face. elim (last_or x n m) [
        | inl b ↦ none x b face
        | inr b ↦ absurd (not_less (slice_index list x) (slice_index list n) (ap (slice_index list) b) less)
      ],
    ) where
      not_less : (a b : ℕ) → a ≡ b → a < b → ⊥
      not_less a b e l = omega (arith, e, l)

    -- the faces above h are marked, and the others are not
    pub row_next : IsMarkedAbove c.faces h (slice_index list n) mid new → IsRowTo cells list n h w mid → IsRowTo cells list (n + 1) h w new
    row_next (from, place, marks) r = record { long = marks.long ∙ r.long; each = λ k a l. by k a (row_at mid k) refl (r.each k a l); low = low } where
      behind : (j : ℕ) → h < slice_index c.faces j → from ≤ j
      behind j a = elim (either from j) [ inl b ↦ b | inr b ↦ (let q = place.low j b in absurd (omega (arith, q, a))) ] where
        either : (p j : ℕ) → (p ≤ j) ⊎ (j < p)
        either p j = grind arith

      low : (k : ℕ) → k ≤ h → row_at new k ≡ None
      low k l = elim (marks.only k (r.low k l)) [
        | inl s ↦ s
        | inr s ↦ (let q = place.high s.1.0 s.1.1 s.1.2 in let i = s.1.3 in absurd (omega (arith, q, i, l)))
      ]

      by : (k : ℕ) → h < k → (o : Option ℕ) → row_at mid k ≡ o → IsFirstOf cells list n k o → IsFirstOf cells list (n + 1) k (row_at new k)
      by k a (Some y) e found = subst (IsFirstOf cells list (n + 1) k) (sym (marks.kept k y e)) (next_some n k y within found)
      by k a None e found = elim (marks.only k e) [
        | inr s ↦ subst (IsFirstOf cells list (n + 1) k) (sym s.0) (now_some k found (member_at c.faces k s.1.0 s.1.2 s.1.3))
        | inl s ↦ subst (IsFirstOf cells list (n + 1) k) (sym s) (now_none k found (λ face. (let p = place_in c.faces k face in let i = p.2 in
            apart (row_at new k) (slice_index list n) s (subst (λ i. row_at new i ≡ Some (slice_index list n)) p.2
            (marks.marked p.0 (behind p.0 (omega (arith, a, i))) p.1 (subst (λ i. row_at mid i ≡ None) (sym p.2) e))))))
      ]

-- ---- the cells that a pair shares

module _ (cells : List Cell) (f h : ℕ) (list : List ℕ) (of : HoldBoth cells f h list) where
  pub are_numbered : AreNumbered cells list
  are_numbered = record { rising = of.rising; within = λ x l. (let b = (of.each x l).0 in slice_get_within cells (slice_index list x) b.cell b.there) }

  three_of : (i k : ℕ) → HasFace cells i f → HasFace cells i h → HasFace cells i k → HasThree cells i f h k
  three_of i k a b d = record {
    cell = a.cell;
    there = a.there;
    first = a.face;
    second = subst (λ (z : Cell). Contains z.faces h) (same_Some b.cell a.cell (sym b.there ∙ a.there)) b.face;
    third = subst (λ (z : Cell). Contains z.faces k) (same_Some d.cell a.cell (sym d.there ∙ a.there)) d.face;
  }

  -- a cell with all three faces is one of the list
  listed_at : (i k : ℕ) → HasThree cells i f h k → (x : ℕ) × (x < length list) × (slice_index list x ≡ i) × HasFace cells (slice_index list x) k
  listed_at i k three =
      let x = of.all i (record { cell = three.cell; there = three.there; face = three.first }) (record { cell = three.cell; there = three.there; face = three.second }) in
      (x.0, x.1, x.2, subst (λ j. HasFace cells j k) (sym x.2) (record { cell = three.cell; there = three.there; face = three.third }))

  pub row_done : (w : ℕ) (row : List (Option ℕ)) → IsRowTo cells list (length list) h w row → IsRow cells f h w row
  row_done w row r = record { long = r.long; each = λ k a l. by k (row_at row k) (r.each k a l); low = r.low } where
    by : (k : ℕ) (o : Option ℕ) → IsFirstOf cells list (length list) k o → IsFirst cells f h k o
    by k None none = λ i three. (let x = listed_at i k three in none x.0 x.1 x.3)
    by k (Some i) (at, has, before) = (
      (let both = of.each at.0 at.1 in three_of i k (subst (λ j. HasFace cells j f) at.2 both.0) (subst (λ j. HasFace cells j h) at.2 both.1) has),
      λ j less three. (let x = listed_at j k three in let e = x.2 in before x.0 x.1 (omega (arith, e, less)) x.3),
    )
