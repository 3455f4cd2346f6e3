-- Rows of cells from border to border, and one row after another.
use Rattle.std.proofs.Common.{ℕ, zero, suc, ◌≡◌, inl, inr, ◌+◌, ◌-◌, ◌<◌, List, [], ◌∷◌, ◌++◌, map, length, arith, refl, sym, ap, subst, pos, ◌<ℤ◌, ◌≤ℤ◌}
use Rattle.std.specs.List.{All, Contains}
use Rattle.std.specs.List.Sorted.{IsStrictlyIncreasing}
use Rattle.std.proofs.lemmas.List.Elements.{Contains-append_left, Contains-append_right, Contains-append_cases}
use Rattle.ff_basics.proofs.Memberships.{by_member, first_member, in_map, later_member, no_member}
use Rattle.ff_whole.proofs.Signs.{linear, by_sign}
use Rattle.ff_whole.specs.declared.places.Place.{Place}
use Rattle.ff_types.specs.Sheets.{Sheet}
use Rattle.ff_types.specs.Inside.{over}
use Rattle.ff_cells.specs.declared.bars.Bar.{Bar}
use Rattle.ff_cells.specs.declared.cell.Cell.{Cell}
use Rattle.ff_cells.specs.Gap.{run}
use Rattle.ff_cells.specs.Sheet.{IsCut, total}
use Rattle.ff_cells.specs.Next.{IsAmong, IsAfter}
use Rattle.ff_cells.specs.Emits.{IsCellAt, IsEmitted}
use Rattle.ff_cells.specs.SlabCells.{PassesBelow, PassesAbove, IsInCell, IsBefore, AreInOrder, IsSlabCell, middle}
use Rattle.ff_cells.proofs.Cuts.{run-opposite, run-trans_first, run-trans_last}
use Rattle.ff_cells.proofs.Exact as exact
use Rattle.ff_cells.proofs.BarEdges.{AreEnds, passes_below, passes_above}
use Rattle.ff_cells.proofs.Drawn.{IsDrawn}
use Rattle.ff_cells.proofs.Slices as slices
use Rattle.ff_cells.proofs.Slices.{IsSlice, HasBorder, run_same, run_same_back, one_place}
use Rattle.ff_cells.proofs.SliceCells as cells

-- ---- lists in order

abbrev pub mid : Cell → Place
mid c = middle c.at

all_nil : (P : Place → Type 0) → All P []
all_nil P k d lt = absurd (omega (arith, lt))

all_of_members : (P : Place → Type 0) (xs : List Place) → ((x : Place) → Contains xs x → P x) → All P xs
all_of_members P [] h k d lt = absurd (omega (arith, lt))
all_of_members P (x ∷ xs) h zero d lt = h x (first_member x xs x refl)
all_of_members P (x ∷ xs) h (suc k) d lt = all_of_members P xs (λ y m. h y (later_member x xs y m)) k d
    (omega (arith, lt))

pub member_of_all : (P : Place → Type 0) (xs : List Place) → All P xs → (x : Place) → Contains xs x → P x
member_of_all P xs h x (k, lt, e) = subst P e (h k x lt)

pub in_order_append : (g : Sheet) (xs ys : List Place) → AreInOrder g xs → AreInOrder g ys
    → ((x y : Place) → Contains xs x → Contains ys y → IsBefore g x y) → AreInOrder g (xs ++ ys)
in_order_append g [] ys h k c = k
in_order_append g (x ∷ xs) ys (a, h) k c = (
  all_of_members (IsBefore g x) (xs ++ ys) (λ y m. elim (Contains-append_cases xs ys y m)
      [ inl l ↦ member_of_all (IsBefore g x) xs a y l | inr r ↦ c x y (first_member x xs x refl) r ]),
  in_order_append g xs ys h k (λ z y m n. c z y (later_member x xs z m) n),
)

map_append : (f : Cell → Place) (xs ys : List Cell) → map f (xs ++ ys) ≡ map f xs ++ map f ys
map_append f [] ys = refl
map_append f (x ∷ xs) ys = ap (λ zs. f x ∷ zs) (map_append f xs ys)

pub cells_append : (g : Sheet) (xs ys : List Cell) → AreInOrder g (map mid xs) → AreInOrder g (map mid ys)
    → ((x y : Cell) → Contains xs x → Contains ys y → IsBefore g (mid x) (mid y))
    → AreInOrder g (map mid (xs ++ ys))
cells_append g xs ys h k c = subst (AreInOrder g) (sym (map_append mid xs ys))
    (in_order_append g (map mid xs) (map mid ys) h k (λ p q m n.
    (let a = in_map mid xs p m in let b = in_map mid ys q n in
    subst (λ z. IsBefore g z q) a.2 (subst (λ z. IsBefore g (mid a.0) z) b.2 (c a.0 b.0 a.1 b.1)))))

-- ---- rows

pub record IsGood (g : Sheet) (c : Cell) : Type 0 where
  pub slab_cell : IsSlabCell g c
  pub in_cell : IsInCell g (mid c)
  pub rising : IsStrictlyIncreasing c.faces

-- one of the cells is the slab cell in which the place is
pub record IsMet (g : Sheet) (cs : List Cell) (p : Place) : Type 0 where
  pub cell : Cell
  pub there : Contains cs cell
  pub not_before : IsBefore g p (mid cell) → ⊥
  pub not_after : IsBefore g (mid cell) p → ⊥
  pub faces : cell.faces ≡ over g p

-- all cells between two x
pub record IsRow (g : Sheet) (from to : Place) (cs : List Cell) : Type 0 where
  pub each : (c : Cell) → Contains cs c → IsGood g c
  pub after : (c : Cell) → Contains cs c → pos 0 <ℤ run from (mid c)
  pub before : (c : Cell) → Contains cs c → pos 0 <ℤ run (mid c) to
  pub in_order : AreInOrder g (map mid cs)
  pub all : (p : Place) → IsInCell g p → pos 0 <ℤ run from p → pos 0 <ℤ run p to → IsMet g cs p

pub row_empty : (g : Sheet) (s : Place) → IsRow g s s []
row_empty g s = record {
  each = λ c m. absurd (no_member c m);
  after = λ c m. absurd (no_member c m);
  before = λ c m. absurd (no_member c m);
  in_order = tt;
  all = λ p c a b. (let o = run-opposite s p in absurd (omega (arith, linear)));
}

pub row_append : (g : Sheet) (from at to : Place) (xs ys : List Cell) → pos 0 <ℤ from.w → pos 0 <ℤ at.w
    → pos 0 <ℤ to.w → pos 0 ≤ℤ run from at → pos 0 ≤ℤ run at to → HasBorder g at → IsRow g from at xs
    → IsRow g at to ys → IsRow g from to (xs ++ ys)
row_append g from at to xs ys hf ha ht fwd onw (b, place, on, z) r s = record {
  each = λ c m. elim (Contains-append_cases xs ys c m) [ inl l ↦ r.each c l | inr n ↦ s.each c n ];
  after = λ c m. elim (Contains-append_cases xs ys c m) [
    | inl l ↦ r.after c l
    | inr n ↦ run-trans_last from at
        (mid c) hf ha (s.each c n).in_cell.place fwd (s.after c n)
  ];
  before = λ c m. elim (Contains-append_cases xs ys c m) [
    | inl l ↦ run-trans_first (mid c) at to
        (r.each c l).in_cell.place ha ht (r.before c l) onw
    | inr n ↦ s.before c n
  ];
  in_order = cells_append g xs ys r.in_order s.in_order (λ x y m n. inl (
    b,
    place,
    on,
    (let o = run-opposite b at in run_same (mid x) at b (r.each x m).in_cell.place ha place
        (omega (arith, linear)) (r.before x m)),
    (let o = run-opposite b at in run_same_back (mid y) at b (s.each y n).in_cell.place ha place
        (omega (arith, linear)) (s.after y n)),
  ));
  all = λ p c f t. by_sign (run at p)
      (λ l. (let o = run-opposite at p in left (r.all p c f (omega (arith, linear)))))
      (λ e. absurd (c.between b place on (same_x p c e)))
      (λ l. right (s.all p c l t));
}
  where
    left : {p : Place} → IsMet g xs p → IsMet g (xs ++ ys) p
    left m = record {
      cell = m.cell;
      there = Contains-append_left xs ys m.cell m.there;
      not_before = m.not_before;
      not_after = m.not_after;
      faces = m.faces;
    }

    right : {p : Place} → IsMet g ys p → IsMet g (xs ++ ys) p
    right m = record {
      cell = m.cell;
      there = Contains-append_right xs ys m.cell m.there;
      not_before = m.not_before;
      not_after = m.not_after;
      faces = m.faces;
    }

    same_x : (p : Place) → IsInCell g p → run at p ≡ pos 0 → run b p ≡ pos 0
    same_x p c e = by_sign (run b p)
        (λ l. (let o = run-opposite b p in let q = run_same p b at c.place place ha z
        (omega (arith, linear)) in let k = run-opposite p at in absurd (omega (arith, linear))))
        (λ q. q)
        (λ l. (let q = run_same_back p b at c.place place ha z l in absurd (omega (arith, linear))))

-- the end of a row may be any place with its x
pub row_moved : (g : Sheet) (from to on : Place) (cs : List Cell) → pos 0 <ℤ to.w → pos 0 <ℤ on.w
    → run to on ≡ pos 0 → IsRow g from to cs → IsRow g from on cs
row_moved g from to on cs ht ho e r = record {
  each = r.each;
  after = r.after;
  before = λ c m. run_same (mid c) to on (r.each c m).in_cell.place ht ho e (r.before c m);
  in_order = r.in_order;
  all = λ p c f t. (let o = run-opposite to on in r.all p c f
      (run_same p on to c.place ho ht (omega (arith, linear)) t));
}

-- ---- the row of a slab

emitted_at : (v : List Bar) (left right : Place) (n : ℕ) (cs : List Cell) → IsEmitted v left right n cs
    → (c : Cell) → Contains cs c → (m : ℕ) × (m < n) × IsCellAt v left right m c
emitted_at v left right zero cs e c h = absurd (no_member c (subst (λ zs. Contains zs c) e h))
emitted_at v left right (suc n) cs (inl (e, none)) c h = let r = emitted_at v left right n cs e c h in
    (r.0, omega (arith, r.1), r.2)
emitted_at v left right (suc n) cs (inr (before, last, is, e, cell)) c h =
    elim (Contains-append_cases before (last ∷ []) c (subst (λ zs. Contains zs c) is h)) [
      | inl m ↦ (let r = emitted_at v left right n before e c m in (r.0, omega (arith, r.1), r.2))
      | inr m ↦ by_member last [] c (λ q. (n, omega arith, subst (IsCellAt v left right n) q cell))
          (λ k. absurd (no_member c k)) m
    ]

module _ {g : Sheet} {bars : List Bar} (d : IsDrawn g bars) {left right : Place} {v : List Bar}
    {cs : List Cell} (c : IsSlice g bars left right v cs) where
  in_at : (m : ℕ) (x : Cell) (h : IsCellAt v left right m x) → slices.IsWithin d c (mid x)
  in_at m x h = subst (slices.IsWithin d c) (sym (cells.middle_is d c m x h)) (cells.mid_within d c m x h)

  -- of two gaps the lower one comes first
  lower_first : (m n : ℕ) (x y : Cell) → m < n → IsCellAt v left right m x → IsCellAt v left right n y
      → IsBefore g (mid x) (mid y)
  lower_first m n x y lt hx hy = inr (
    slices.not_left d c (mid y) (mid x) (in_at n y hy) (in_at m x hx),
    (e.0, e.1, above, below),
  )
    where
      low_at : IsAfter v ((m - 1) + 1) hy.low
      low_at = (
        n - 1,
        (let a = hy.within in omega (arith, a)),
        (let f = hx.first in omega (arith, f, lt)),
        hy.low_is (n - 1) (exact.number d.faces c.strip c.left_positive c.right_positive c.after c.starts
            c.next n y hy),
      )

      cut_x : IsCut (Contains bars) (IsAmong v ((m - 1) + 1)) (IsAfter v ((m - 1) + 1)) left right
          (total hx.low_left hx.low_right hx.top)
      cut_x = cells.cut_is d c m x hx

      cut_y : IsCut (Contains bars) (IsAmong v ((n - 1) + 1)) (IsAfter v ((n - 1) + 1)) left right
          (total hy.low_left hy.low_right hy.top)
      cut_y = cells.cut_is d c n y hy

      e : (e : ℕ) × (e < length g.edges) × AreEnds g e hy.low
      e = d.bar_edge hy.low (cut_x.high_has hy.low low_at)

      above : PassesAbove g e.0 (mid x)
      above = subst (PassesAbove g e.0) (sym (cells.middle_is d c m x hx))
          (passes_above hy.low (total hx.low_left hx.low_right hx.top) cut_x.positive
          (slices.reaches_within d c hy.low (cut_x.high_spans hy.low low_at)
          (total hx.low_left hx.low_right hx.top) (cells.mid_within d c m x hx)) g e.0 e.2
          (cut_x.high hy.low low_at))

      below : PassesBelow g e.0 (mid y)
      below = subst (PassesBelow g e.0) (sym (cells.middle_is d c n y hy))
          (passes_below hy.low (total hy.low_left hy.low_right hy.top) cut_y.positive
          (slices.reaches_within d c hy.low (cut_x.high_spans hy.low low_at)
          (total hy.low_left hy.low_right hy.top) (cells.mid_within d c n y hy)) g e.0 e.2
          (cut_y.low hy.low (exact.low_among d.faces c.strip c.left_positive c.right_positive c.after c.starts
          c.next n y hy)))

  ordered : (n : ℕ) (xs : List Cell) → IsEmitted v left right n xs → AreInOrder g (map mid xs)
  ordered zero xs e = subst (λ zs. AreInOrder g (map mid zs)) (sym e) tt
  ordered (suc n) xs (inl (e, none)) = ordered n xs e
  ordered (suc n) xs (inr (before, last, is, e, cell)) = subst (λ zs. AreInOrder g (map mid zs)) (sym is)
      (cells_append g before (last ∷ []) (ordered n before e) (all_nil (IsBefore g (mid last)), tt)
      (λ x y m k. (let a = emitted_at v left right n before e x m in
      by_member last [] y (λ q. subst (λ z. IsBefore g (mid x) (mid z)) q
      (lower_first a.0 n x last a.1 a.2 cell)) (λ z. absurd (no_member y z)) k)))

  good : (x : Cell) → Contains cs x → IsGood g x
  good x k = let a = emitted_at v left right (length v) cs c.emitted x k in record {
    slab_cell = cells.slab_cell d c a.0 x a.2;
    in_cell = subst (IsInCell g) (sym (cells.middle_is d c a.0 x a.2)) (cells.in_cell d c a.0 x a.2);
    rising = a.2.rising;
  }

  met : (p : Place) → IsInCell g p → pos 0 <ℤ run left p → pos 0 <ℤ run p right → IsMet g cs p
  met p i a b = by (slices.placed d c p w i.off i.some)
    where
      w : slices.IsWithin d c p
      w = record { place = i.place; after = a; before = b }

      by : exact.IsPlaced d.faces c.strip c.left_positive c.right_positive c.after c.starts c.next cs p
          → IsMet g cs p
      by t = record {
        cell = t.cell;
        there = t.there;
        not_before = λ o. elim o [
          | inl l ↦ slices.not_left d c p (mid t.cell) w
              (in_at t.gap_number t.cell t.at) l
          | inr (n, l) ↦ slices.not_below d c p
              (mid t.cell) t.cut cut l
        ];
        not_after = λ o. elim o [
          | inl l ↦ slices.not_left d c (mid t.cell) p
              (in_at t.gap_number t.cell t.at) w l
          | inr (n, l) ↦ slices.not_below d c
              (mid t.cell) p cut t.cut l
        ];
        faces = slices.placed_over d c p t;
      }
        where
          cut : IsCut (Contains bars) (IsAmong v t.gap_number) (IsAfter v t.gap_number) left right
              (mid t.cell)
          cut = subst (IsCut (Contains bars) (IsAmong v t.gap_number) (IsAfter v t.gap_number) left right)
              (sym (cells.middle_is d c t.gap_number t.cell t.at))
              (subst (λ k. IsCut (Contains bars) (IsAmong v k) (IsAfter v k) left right
              (total t.at.low_left t.at.low_right t.at.top))
              (exact.number d.faces c.strip c.left_positive c.right_positive c.after c.starts c.next
              t.gap_number t.cell t.at) (cells.cut_is d c t.gap_number t.cell t.at))

  pub row_slab : IsRow g left right cs
  row_slab = record {
    each = good;
    after = λ x k. (let a = emitted_at v left right (length v) cs c.emitted x k in (in_at a.0 x a.2).after);
    before = λ x k. (let a = emitted_at v left right (length v) cs c.emitted x k in (in_at a.0 x a.2).before);
    in_order = ordered (length v) cs c.emitted;
    all = met;
  }
