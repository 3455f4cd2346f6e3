-- From strip to strip: the cells of a sweep are a row.
use Rattle.std.proofs.Common.{ℕ, zero, suc, ◌≡◌, ◌⊎◌, inl, inr, ◌+◌, ◌<◌, List, [], ◌∷◌, ◌++◌, length, get_or, filter, arith, refl, sym, ap, subst, ℤ, pos, ◌-ℤ◌, ◌*ℤ◌, ◌<ℤ◌, ◌≤ℤ◌, Bool, true, false, true≢false, Ordering}
use Rattle.std.proofs.Common.Ordering.{Less, Equal, Greater}
use Rattle.std.specs.Ordering.{int_cmp, is_lt, MatchOrdering}
use Rattle.std.specs.Cmp.{int_ranks}
use Rattle.std.specs.List.{Contains}
use Rattle.std.proofs.lemmas.Bool.Decides.{Decides-int_eq}
use Rattle.ff_whole.proofs.Ring.{var, num, ◌⊖◌, ◌⊗◌, solve}
use Rattle.ff_whole.proofs.Signs.{linear}
use Rattle.ff_whole.specs.Places.{height, slant, place_of}
use Rattle.ff_whole.specs.Convex.{point_at}
use Rattle.ff_whole.specs.declared.points.Pt.{Pt}
use Rattle.ff_whole.specs.declared.lines.Line.{Line}
use Rattle.ff_whole.specs.declared.places.Place.{Place}
use Rattle.ff_types.specs.Patterns.{edge_at}
use Rattle.ff_types.specs.Sheets.{Sheet, line_of}
use Rattle.ff_types.specs.Borders.{are_parallel}
use Rattle.ff_cells.specs.declared.bars.Bar.{Bar}
use Rattle.ff_cells.specs.declared.cell.Cell.{Cell}
use Rattle.ff_cells.specs.Before.{x_before}
use Rattle.ff_cells.specs.Gap.{run, spot}
use Rattle.ff_cells.specs.Sheet.{Spans}
use Rattle.ff_cells.specs.Next.{IsStrip, Meeting}
use Rattle.ff_cells.specs.Swept.{IsSwept, IsSlabOf}
use Rattle.ff_cells.specs.Strip.{spans_strip, at_x, IsCells}
use Rattle.ff_cells.specs.Stopped.{AreBegun}
use Rattle.ff_cells.specs.Xs.{AreXs}
use Rattle.ff_cells.proofs.Cuts.{run-opposite}
use Rattle.ff_cells.proofs.Corners.{run-trans}
use Rattle.ff_cells.proofs.Strips.{strip_of, IsFree, run_to, run_from}
use Rattle.ff_cells.proofs.BarEdges.{IsOnBar, AreEnds, on_edge, parallel_bars}
use Rattle.ff_cells.proofs.Drawn.{IsDrawn}
use Rattle.ff_cells.proofs.Slices.{IsSlice, HasBorder, one_place}
use Rattle.ff_cells.proofs.Rows.{IsRow, row_empty, row_append, row_moved, row_slab}
use Rattle.ff_cells.proofs.AllXs as all

-- for whole x `run` is the difference
run_xs : (a c : ℤ) → run (at_x a) (at_x c) ≡ c -ℤ a
run_xs a c = solve (a ∷ c ∷ []) (var 1 ⊗ num (pos 1) ⊖ var 0 ⊗ num (pos 1)) (var 1 ⊖ var 0) refl

not_before : (p q : Place) → x_before p q ≡ false → pos 0 ≤ℤ run q p
not_before p q h = by (int_cmp (p.x *ℤ q.w) (q.x *ℤ p.w)) (int_ranks (p.x *ℤ q.w) (q.x *ℤ p.w)) h
  where
    by : (r : Ordering) → MatchOrdering r ((p.x *ℤ q.w) <ℤ (q.x *ℤ p.w)) (p.x *ℤ q.w ≡ q.x *ℤ p.w)
        ((q.x *ℤ p.w) <ℤ (p.x *ℤ q.w)) → is_lt r ≡ false → pos 0 ≤ℤ run q p
    by Less m h = absurd (true≢false h)
    by Equal m h = omega (arith, linear)
    by Greater m h = omega (arith, linear)

self_level : (s : Place) → run s s ≡ pos 0
self_level s = omega (arith, linear)

module _ {g : Sheet} {bars : List Bar} (d : IsDrawn g bars) where
  -- ---- one strip

  module _ (a c : ℤ) (free : IsFree bars a c) (clear : (u : ℕ) → u < length g.images
      → ((point_at g.images u).x ≤ℤ a) ⊎ (c ≤ℤ (point_at g.images u).x)) (a_border : HasBorder g (at_x a))
      (c_border : HasBorder g (at_x c)) (le : a ≤ℤ c) where
    abbrev inner : List Bar
    inner = filter (spans_strip a c) bars

    -- two neighbours that meet make a border
    meeting_border : (left right : Place) (v : List Bar) → IsStrip (Contains bars) (at_x a) (at_x c) v
        → pos 0 <ℤ left.w → pos 0 <ℤ right.w → pos 0 ≤ℤ run (at_x a) left → pos 0 <ℤ run left right
        → pos 0 ≤ℤ run right (at_x c) → Meeting left right v → HasBorder g right
    meeting_border left right v s hl hr after ahead within m = (
      right,
      hr,
      inr (
        e.0,
        k.0,
        record {
          first = e.1;
          second = k.1;
          across = across;
          on_first = on_edge g e.0 m.low e.2 right (on m.low low_has.1 m.closes.on_k);
          on_second = on_edge g k.0 m.high k.2 right (on m.high high_has.1 m.closes.on_l);
        },
      ),
      self_level right,
    )
      where
        low_has : Contains bars m.low × Spans (at_x a) (at_x c) m.low
        low_has = let b = m.within in let i = m.index in (
          subst (Contains bars) (sym m.low_is)
              (s.only_has i m.low (omega (arith, b))),
          subst (Spans (at_x a) (at_x c)) (sym m.low_is)
              (s.only_spans i m.low (omega (arith, b))),
        )

        high_has : Contains bars m.high × Spans (at_x a) (at_x c) m.high
        high_has = (
          subst (Contains bars) (sym m.high_is) (s.only_has (m.index + 1) m.high m.within),
          subst (Spans (at_x a) (at_x c)) (sym m.high_is) (s.only_spans (m.index + 1) m.high m.within),
        )

        e : (e : ℕ) × (e < length g.edges) × AreEnds g e m.low
        e = d.bar_edge m.low low_has.0

        k : (e : ℕ) × (e < length g.edges) × AreEnds g e m.high
        k = d.bar_edge m.high high_has.0

        from_right : pos 0 ≤ℤ run (at_x a) right
        from_right = run-trans (at_x a) left right one_place hl hr after (let w = ahead in
            omega (arith, linear))

        on : (b : Bar) → Spans (at_x a) (at_x c) b → height b.line right ≡ pos 0 → IsOnBar b right
        on b sp z = record {
          on = subst (λ (l : Line). height l right ≡ pos 0) b.ok.through z;
          after = run-trans (spot b.lo) (at_x a) right one_place one_place hr sp.after from_right;
          before = run-trans right (at_x c) (spot b.hi) hr one_place one_place within sp.before;
        }

        across : are_parallel g e.0 k.0 ≡ false
        across = by (are_parallel g e.0 k.0) refl
          where
            by : (t : Bool) → are_parallel g e.0 k.0 ≡ t → are_parallel g e.0 k.0 ≡ false
            by false q = q
            by true q =
                let z = parallel_bars g e.0 k.0 m.low m.high e.2 k.2
                ((Decides-int_eq (slant (line_of g e.0) (line_of g k.0)) (pos 0)).0 q) in
                let n = m.closes.closing in
                absurd (omega (arith, linear))

    -- what holds of the slabs up to a border
    record IsUpTo (left : Place) (cs : List Cell) : Type 0 where
      positive : pos 0 <ℤ left.w
      border : HasBorder g left
      after : pos 0 ≤ℤ run (at_x a) left
      within : pos 0 ≤ℤ run left (at_x c)
      row : IsRow g (at_x a) left cs

    one_more : (left right : Place) (before more cs : List Cell) → cs ≡ before ++ more → IsUpTo left before
        → IsSlabOf inner (at_x c) left right more → IsUpTo right cs
    one_more left right before more cs is u slab = record {
      positive = slab.ends;
      border = border;
      after = run-trans (at_x a) left right one_place u.positive slab.ends u.after (let w = slab.next.ahead in
          omega (arith, linear));
      within = slab.next.within;
      row = subst (IsRow g (at_x a) right) (sym is) (row_append g (at_x a) left right before more one_place
          u.positive slab.ends u.after (let w = slab.next.ahead in omega (arith, linear)) u.border u.row
          (row_slab d slice));
    }
      where
        strip : IsStrip (Contains bars) (at_x a) (at_x c) slab.stack
        strip = strip_of bars slab.stack a c free slab.same

        border : HasBorder g right
        border = elim slab.next.from [
          | inl e ↦ subst (HasBorder g) (sym e) c_border
          | inr m ↦ meeting_border left right slab.stack strip u.positive slab.ends u.after slab.next.ahead
              slab.next.within m
        ]

        slice : IsSlice g bars left right slab.stack more
        slice = record {
          from = at_x a;
          limit = at_x c;
          strip = strip;
          left_positive = u.positive;
          right_positive = slab.ends;
          after = u.after;
          starts = slab.starts;
          next = slab.next;
          emitted = slab.emitted;
          left_border = u.border;
          right_border = border;
          clear = λ k lt. elim (clear k lt) [
            | inl l ↦ inl (run-trans (spot (point_at g.images k)) (at_x a) left one_place one_place u.positive
                (let e = run_to (point_at g.images k) a in omega (arith, linear)) u.after)
            | inr l ↦ inr (run-trans right (at_x c) (spot (point_at g.images k)) slab.ends one_place one_place
                slab.next.within (let e = run_from (point_at g.images k) c in omega (arith, linear)))
          ];
        }

    swept : (n : ℕ) (left : Place) (cs : List Cell) → IsSwept inner (at_x a) (at_x c) n left cs
        → IsUpTo left cs
    swept zero left cs (el, ec) = subst (λ p. IsUpTo p cs) (sym el)
        (subst (IsUpTo (at_x a)) (sym ec) (record {
          positive = one_place;
          border = a_border;
          after = (let e = run_xs a a in omega (arith, linear));
          within = (let e = run_xs a c in omega (arith, linear));
          row = row_empty g (at_x a);
        }))
    swept (suc n) right cs (left, before, more, is, done, slab) = one_more left right before more cs is
        (swept n left before done) slab

    -- all slabs of the strip
    strip_row : (n : ℕ) (last : Place) (cs : List Cell) → x_before last (at_x c) ≡ false
        → IsSwept inner (at_x a) (at_x c) n last cs → IsRow g (at_x a) (at_x c) cs
    strip_row n last cs ends s =
        let u = swept n last cs s in
        let b = not_before last (at_x c) ends in
        let o = run-opposite last (at_x c) in
        let w = u.within in
        row_moved g (at_x a) last (at_x c) cs u.positive one_place (omega (arith, linear)) u.row

    -- the first slabs of it
    begun_row : (n : ℕ) (last : Place) (cs : List Cell) → IsSwept inner (at_x a) (at_x c) n last cs
        → (pos 0 <ℤ last.w) × (pos 0 ≤ℤ run (at_x a) last) × IsRow g (at_x a) last cs
    begun_row n last cs s = let u = swept n last cs s in (u.positive, u.after, u.row)

  -- ---- all strips

  module _ {xs : List ℤ} (are : AreXs g.images xs) where
    abbrev at : ℕ → ℤ
    at k = get_or xs k (pos 0)

    x_border : (k : ℕ) → k < length xs → HasBorder g (at_x (at k))
    x_border k lt = let f = all.from are k lt in (
      place_of (point_at g.images f.0),
      one_place,
      inl (f.0, f.1, refl),
      (let e = run_to (point_at g.images f.0) (at k) in let q = f.2 in omega (arith, linear)),
    )

    pub bar_lo : (b : Bar) → Contains bars b → (u : ℕ) × (u < length g.images)
        × ((point_at g.images u).x ≡ b.lo.x)
    bar_lo b has = let e = d.bar_edge b has in elim e.2 [
      | inl (l, h) ↦ ((edge_at g.edges e.0).a, d.tails e.0 e.1, sym (ap (λ (p : Pt). p.x) l))
      | inr (l, h) ↦ ((edge_at g.edges e.0).b, d.heads e.0 e.1, sym (ap (λ (p : Pt). p.x) l))
    ]

    pub bar_hi : (b : Bar) → Contains bars b → (u : ℕ) × (u < length g.images)
        × ((point_at g.images u).x ≡ b.hi.x)
    bar_hi b has = let e = d.bar_edge b has in elim e.2 [
      | inl (l, h) ↦ ((edge_at g.edges e.0).b, d.heads e.0 e.1, sym (ap (λ (p : Pt). p.x) h))
      | inr (l, h) ↦ ((edge_at g.edges e.0).a, d.tails e.0 e.1, sym (ap (λ (p : Pt). p.x) h))
    ]

    free : (n : ℕ) → n + 1 < length xs → IsFree bars (at n) (at (n + 1))
    free n lt b has = by (all.clear are n lo.0 lt lo.1) (all.clear are n hi.0 lt hi.1)
      where
        lo : (u : ℕ) × (u < length g.images) × ((point_at g.images u).x ≡ b.lo.x)
        lo = bar_lo b has

        hi : (u : ℕ) × (u < length g.images) × ((point_at g.images u).x ≡ b.hi.x)
        hi = bar_hi b has

        by : ((point_at g.images lo.0).x ≤ℤ at n) ⊎ (at (n + 1) ≤ℤ (point_at g.images lo.0).x)
            → ((point_at g.images hi.0).x ≤ℤ at n) ⊎ (at (n + 1) ≤ℤ (point_at g.images hi.0).x)
            → ((b.lo.x ≤ℤ at n) × (at (n + 1) ≤ℤ b.hi.x)) ⊎ ((b.hi.x ≤ℤ at n) ⊎ (at (n + 1) ≤ℤ b.lo.x))
        by (inr l) h = inr (inr (subst (λ z. at (n + 1) ≤ℤ z) lo.2 l))
        by (inl l) (inl h) = inr (inl (subst (λ z. z ≤ℤ at n) hi.2 h))
        by (inl l) (inr h) = inl (subst (λ z. z ≤ℤ at n) lo.2 l, subst (λ z. at (n + 1) ≤ℤ z) hi.2 h)

    forward : (n : ℕ) → n < length xs → pos 0 ≤ℤ run (at_x (at 0)) (at_x (at n))
    forward n lt = let e = run_xs (at 0) (at n) in let u = all.up_to are 0 n (omega arith) lt in
        omega (arith, linear)

    pub cells_row : (n : ℕ) (cs : List Cell) → n < length xs → IsCells bars xs n cs
        → IsRow g (at_x (at 0)) (at_x (at n)) cs
    cells_row zero cs lt e = subst (IsRow g (at_x (at 0)) (at_x (at 0))) (sym e) (row_empty g (at_x (at 0)))
    cells_row (suc n) cs lt (before, more, is, done, m, last, ends, s) =
        let e : n + 1 ≡ suc n = omega arith in
        let l : n + 1 < length xs = omega (arith, lt) in
        let k : n < length xs = omega (arith, lt) in
        let u = all.up_to are n (n + 1) (omega arith) l in
        let r = strip_row (at n) (at (n + 1)) (free n l) (λ v q. all.clear are n v l q) (x_border n k)
        (x_border (n + 1) l) u m last more ends s in
        subst (λ j. IsRow g (at_x (at 0)) (at_x (at j)) cs) e
        (subst (IsRow g (at_x (at 0)) (at_x (at (n + 1)))) (sym is)
        (row_append g (at_x (at 0)) (at_x (at n)) (at_x (at (n + 1))) before more one_place one_place
        one_place (forward n k) (let q = run_xs (at n) (at (n + 1)) in omega (arith, linear))
        (x_border n k) (cells_row n before k done) r))

    -- the cells of a sweep that isn't at its end
    pub begun : (cs : List Cell) → AreBegun bars xs cs → (last : Place) × IsRow g (at_x (at 0)) last cs
    begun cs b =
        let n = b.strips in
        let l = b.within in
        let k : n < length xs = omega (arith, l) in
        let u = all.up_to are n (n + 1) (omega arith) l in
        let r = begun_row (at n) (at (n + 1)) (free n l) (λ v q. all.clear are n v l q) (x_border n k)
        (x_border (n + 1) l) u b.slabs b.last b.more b.begun in (
          b.last,
          subst (IsRow g (at_x (at 0)) b.last) (sym b.cells_are)
              (row_append g (at_x (at 0)) (at_x (at n)) b.last b.before b.more one_place one_place r.0
              (forward n k) r.1 (x_border n k) (cells_row n b.before k b.done) r.2),
        )
