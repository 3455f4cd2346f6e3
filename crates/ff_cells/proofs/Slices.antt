-- One slab of a folded sheet: no border is in it, and each place in it off the edges is in the gap of a cell.
use Rattle.std.proofs.Common.{ℕ, ◌≡◌, ◌≢◌, ◌⊎◌, inl, inr, ◌<◌, ◌≤◌, List, length, get_or, arith, sym, subst, ◌∙◌, pos, ◌<ℤ◌, ◌≤ℤ◌, false, IsTrue, true≢false}
use lib.IntN.{neg_ℤ}
use Rattle.std.specs.List.{Contains}
use Rattle.std.proofs.lemmas.Int.{ints}
use Rattle.std.proofs.lemmas.Bool.Decides.{Decides-int_eq}
use Rattle.std.proofs.lemmas.List.{get_or_default}
use Rattle.ff_whole.proofs.Signs.{linear}
use Rattle.ff_whole.specs.Places.{height, slant, IsPlace}
use Rattle.ff_whole.specs.Convex.{point_at}
use Rattle.ff_whole.specs.declared.lines.Line.{Line}
use Rattle.ff_whole.specs.declared.places.Place.{Place}
use Rattle.ff_types.specs.Patterns.{edge_at}
use Rattle.ff_types.specs.Sheets.{Sheet, tail, head, line_of}
use Rattle.ff_types.specs.Inside.{is_inside, over}
use Rattle.ff_types.specs.Borders.{is_on, are_parallel}
use Rattle.ff_cells.specs.declared.bars.Bar.{Bar}
use Rattle.ff_cells.specs.declared.cell.Cell.{Cell}
use Rattle.ff_cells.specs.FaceSets.{is_off}
use Rattle.ff_cells.specs.Gap.{run, spot}
use Rattle.ff_cells.specs.Sheet.{Spans, IsSlab, IsUnder, IsCut}
use Rattle.ff_cells.specs.Next.{StartsUp, IsNext, IsAmong, IsAfter, IsStrip}
use Rattle.ff_cells.specs.Emits.{IsEmitted}
use Rattle.ff_cells.specs.SlabCells.{IsOnBorder, IsLeftOf, IsBelow}
use Rattle.ff_cells.proofs.Gaps.{no_crossing}
use Rattle.ff_cells.proofs.Cuts.{run-opposite, run-trans_first, run-trans_last}
use Rattle.ff_cells.proofs.Stacks as stacks
use Rattle.ff_cells.proofs.Exact as exact
use Rattle.ff_cells.proofs.BarEdges.{IsOnBar, Reaches, AreEnds, on_bar, on_edge, on_vertical, parallel_edges, from_below, from_above}
use Rattle.ff_cells.proofs.Drawn.{IsDrawn, from_inside, to_inside}
use Rattle.ff_cells.proofs.FaceLists.{off_edge, off_edges, over_inside, inside_over, over_rising, rising_equal, face_below, some_member}

-- a border has the x of the place
abbrev pub HasBorder : Sheet → Place → Type 0
HasBorder g s = (b : Place) × IsPlace b × IsOnBorder g b × (run b s ≡ pos 0)

-- a slab with its stack of bars and its cells
pub record IsSlice (g : Sheet) (bars : List Bar) (left right : Place) (v : List Bar)
    (cs : List Cell) : Type 0 where
  pub from : Place
  pub limit : Place
  pub strip : IsStrip (Contains bars) from limit v
  pub left_positive : pos 0 <ℤ left.w
  pub right_positive : pos 0 <ℤ right.w
  pub after : pos 0 ≤ℤ run from left
  pub starts : StartsUp left v
  pub next : IsNext left limit v (length v) right
  pub emitted : IsEmitted v left right (length v) cs
  pub left_border : HasBorder g left
  pub right_border : HasBorder g right
  -- no vertex is between the borders
  pub clear : (u : ℕ) → u < length g.images → (pos 0 ≤ℤ run (spot (point_at g.images u)) left)
      ⊎ (pos 0 ≤ℤ run right (spot (point_at g.images u)))

-- places with one x lie alike to others
pub run_same : (p q r : Place) → pos 0 <ℤ p.w → pos 0 <ℤ q.w → pos 0 <ℤ r.w → run q r ≡ pos 0
    → pos 0 <ℤ run p q → pos 0 <ℤ run p r
run_same p q r hp hq hr same h = run-trans_first p q r hp hq hr h (omega (arith, linear))

pub run_same_back : (p q r : Place) → pos 0 <ℤ p.w → pos 0 <ℤ q.w → pos 0 <ℤ r.w → run q r ≡ pos 0
    → pos 0 <ℤ run q p → pos 0 <ℤ run r p
run_same_back p q r hp hq hr same h = let o = run-opposite q r in
    run-trans_last r q p hr hq hp (omega (arith, linear)) h

pub one_place : pos 0 <ℤ pos 1
one_place = omega (arith, ints)

module _ {g : Sheet} {bars : List Bar} (d : IsDrawn g bars) {left right : Place} {v : List Bar}
    {cs : List Cell} (c : IsSlice g bars left right v cs) where
  abbrev Has : Bar → Type 0
  Has = Contains bars

  pub slab_is : IsSlab Has left right
  slab_is = stacks.slab_of c.strip c.left_positive c.right_positive c.after c.starts c.next

  -- the place is strictly between the borders
  pub record IsWithin (p : Place) : Type 0 where
    pub place : pos 0 <ℤ p.w
    pub after : pos 0 <ℤ run left p
    pub before : pos 0 <ℤ run p right

  -- a bar that reaches it spans the slab
  pub spans_reached : (b : Bar) → Has b → (p : Place) → IsWithin p → Reaches b p → Spans left right b
  spans_reached b h p w r = by (slab_is.quiet b h)
    where
      by : Spans left right b ⊎ ((pos 0 ≤ℤ run (spot b.hi) left) ⊎ (pos 0 ≤ℤ run right (spot b.lo)))
          → Spans left right b
      by (inl s) = s
      by (inr (inl e)) =
          let a = run-trans_last (spot b.hi) left p one_place c.left_positive w.place e w.after in
          let o = run-opposite (spot b.hi) p in let k = r.before in
          absurd (omega (arith, linear))
      by (inr (inr e)) =
          let a = run-trans_first p right (spot b.lo) w.place c.right_positive one_place w.before e in
          let o = run-opposite p (spot b.lo) in let k = r.after in
          absurd (omega (arith, linear))

  in_stack : (b : Bar) → Has b → Spans left right b → (k : ℕ) × (k < length v) × (get_or v k b ≡ b)
  in_stack b h s = c.strip.all b h (stacks.spans_strip c.strip c.left_positive c.right_positive c.after
      c.starts c.next b h s)

  -- two bars that span the slab don't cross in it
  ordered : (a b : Bar) → Has a → Has b → Spans left right a → Spans left right b
      → IsUnder left right a.line b.line ⊎ IsUnder left right b.line a.line
  ordered a b ha hb sa sb = by (in_stack a ha sa) (in_stack b hb sb)
    where
      at : (k : ℕ) (x d : Bar) → k < length v → get_or v k x ≡ x → get_or v k d ≡ x
      at k x d lt e = get_or_default v k d x lt ∙ e

      split : (i j : ℕ) → (i ≤ j) ⊎ (j ≤ i)
      split i j = grind arith

      by : (k : ℕ) × (k < length v) × (get_or v k a ≡ a) → (k : ℕ) × (k < length v) × (get_or v k b ≡ b)
          → IsUnder left right a.line b.line ⊎ IsUnder left right b.line a.line
      by (i, li, ei) (j, lj, ej) = elim (split i j) [
        | inl le ↦ inl (subst (λ (x : Bar). IsUnder left right x.line b.line) (at i a a li ei)
            (subst (λ (y : Bar). IsUnder left right (get_or v i a).line y.line) (at j b a lj ej)
            (stacks.below c.strip c.left_positive c.right_positive c.after c.starts c.next i j a le lj)))
        | inr le ↦ inr (subst (λ (x : Bar). IsUnder left right x.line a.line) (at j b b lj ej)
            (subst (λ (y : Bar). IsUnder left right (get_or v j b).line y.line) (at i a b li ei)
            (stacks.below c.strip c.left_positive c.right_positive c.after c.starts c.next j i b le li)))
      ]

  -- ---- no border in it

  no_vertex : (u : ℕ) → u < length g.images → pos 0 <ℤ run left (spot (point_at g.images u))
      → pos 0 <ℤ run (spot (point_at g.images u)) right → ⊥
  no_vertex u lt a b = elim (c.clear u lt) [
    | inl e ↦ (let o = run-opposite left (spot (point_at g.images u)) in omega (arith, linear))
    | inr e ↦ (let o = run-opposite (spot (point_at g.images u)) right in omega (arith, linear))
  ]

  -- the place is on no vertical edge
  no_upright : (e : ℕ) → e < length g.edges → (s : Place) → IsWithin s → (tail g e).x ≡ (head g e).x
      → (t : Place) → IsPlace t → run s t ≡ pos 0 → IsTrue (is_on g e t) → ⊥
  no_upright e lt s w same t place level on =
      let z = on_vertical g e t (d.apart e lt) same on in
      let p = spot (tail g e) in
      let o = run-opposite p t in
      let a = run_same left s t c.left_positive w.place place level w.after in
      let b = run_same_back right s t c.right_positive w.place place level w.before in
      no_vertex (edge_at g.edges e).a (d.tails e lt)
      (run_same left t p c.left_positive place one_place (omega (arith, linear)) a)
      (run_same_back right t p c.right_positive place one_place (omega (arith, linear)) b)

  -- an edge that holds a place of the slab's inside has a bar that spans it
  pub spanning_bar : (e : ℕ) → e < length g.edges → (s : Place) → IsWithin s → (t : Place) → IsPlace t
      → run s t ≡ pos 0 → IsTrue (is_on g e t) → (b : Bar) × Has b × AreEnds g e b × Spans left right b
  spanning_bar e lt s w t place level on = elim (d.edge_bar e lt) [
    | inl same ↦ absurd (no_upright e lt s w same t place level on)
    | inr (b, has, ends) ↦ (let a = on_bar g e b ends t on in (
      b,
      has,
      ends,
      spans_reached b has t (record {
        place = place;
        after = run_same left s t c.left_positive w.place place level w.after;
        before = run_same_back right s t c.right_positive w.place place level w.before;
      })
          (record { after = a.after; before = a.before }),
    ))
  ]

  self_level : (s : Place) → run s s ≡ pos 0
  self_level s = omega (arith, linear)

  not_parallel : (e k : ℕ) → are_parallel g e k ≡ false → slant (line_of g e) (line_of g k) ≡ pos 0 → ⊥
  not_parallel e k f z = true≢false (sym ((Decides-int_eq (slant (line_of g e) (line_of g k)) (pos 0)).1 z)
      ∙ f)

  on_line : (b : Bar) (s : Place) → IsOnBar b s → height b.line s ≡ pos 0
  on_line b s a = subst (λ (k : Line). height k s ≡ pos 0) (sym b.ok.through) a.on

  pub no_border : (b : Place) → IsPlace b → IsOnBorder g b → pos 0 <ℤ run left b → pos 0 <ℤ run b right → ⊥
  no_border b place (inl (u, lt, e)) x y = no_vertex u lt (subst (λ p. pos 0 <ℤ run left p) e x)
      (subst (λ p. pos 0 <ℤ run p right) e y)
  no_border b place (inr (e, k, q)) x y =
      let w : IsWithin b = record { place = place; after = x; before = y } in
      let m = spanning_bar e q.first b w b place (self_level b) q.on_first in
      let n = spanning_bar k q.second b w b place (self_level b) q.on_second in
      let a = on_line m.0 b (on_bar g e m.0 m.2 b q.on_first) in
      let z = on_line n.0 b (on_bar g k n.0 n.2 b q.on_second) in
      elim (ordered m.0 n.0 m.1 n.1 m.3 n.3) [
        | inl u ↦ not_parallel e k q.across (parallel_edges g e k m.0 n.0 m.2 n.2
            (no_crossing m.0.line n.0.line left right b slab_is.wide x y u.at_left u.at_right a z))
        | inr u ↦ (let f = flip m.0.line n.0.line in let t = no_crossing n.0.line m.0.line left right b
            slab_is.wide x y u.at_left u.at_right z a in
            not_parallel e k q.across (parallel_edges g e k m.0 n.0 m.2 n.2 (omega (arith, linear))))
      ]
    where
      flip : (k l : Line) → slant k l ≡ neg_ℤ (slant l k)
      flip k l = omega (arith, linear)

  -- a place in the slab has no border's x
  pub between : (p : Place) → IsWithin p → (b : Place) → IsPlace b → IsOnBorder g b → run b p ≢ pos 0
  between p w b place on z = let o = run-opposite b p in
      no_border b place on (run_same left p b c.left_positive w.place place (omega (arith, linear)) w.after)
      (run_same_back right p b c.right_positive w.place place (omega (arith, linear)) w.before)

  -- no border is between two places in the slab
  pub not_left : (p q : Place) → IsWithin p → IsWithin q → IsLeftOf g p q → ⊥
  not_left p q w x (b, place, on, l, r) =
      no_border b place on
      (run-trans_first left p b c.left_positive w.place place w.after (omega (arith, linear)))
      (run-trans_last b q right place x.place c.right_positive (omega (arith, linear)) x.before)

  -- ---- places off the bars' lines

  abbrev pub IsOffBars : Place → Type 0
  IsOffBars p = (k : ℕ) (f : Bar) → k < length v → height (get_or v k f).line p ≢ pos 0

  pub off_of : (p : Place) → IsWithin p → IsOffBars p → IsTrue (is_off g p)
  off_of p w off = off_edges g p none
    where
      none : (e : ℕ) → e < length g.edges → IsTrue (is_on g e p) → ⊥
      none e lt on =
          let m = spanning_bar e lt p w p w.place (self_level p) on in
          let k = in_stack m.0 m.1 m.3 in
          off k.0 m.0 k.1 (subst (λ (x : Bar). height x.line p ≡ pos 0) (sym k.2)
          (on_line m.0 p (on_bar g e m.0 m.2 p on)))

  pub off_bars : (p : Place) → IsWithin p → IsTrue (is_off g p) → IsOffBars p
  off_bars p w off k f lt z =
      let b = get_or v k f in
      let has = c.strip.only_has k f lt in
      let s = stacks.spans_all c.strip c.left_positive c.right_positive c.after c.starts c.next b
      (c.strip.only_spans k f lt) in
      let e = d.bar_edge b has in
      let a = run-trans_last (spot b.lo) left p one_place c.left_positive w.place s.after w.after in
      let q = run-trans_first p right (spot b.hi) w.place c.right_positive one_place w.before s.before in
      off_edge g p off e.0 e.1 (on_edge g e.0 b e.2 p (record {
        on = subst (λ (l : Line). height l p ≡ pos 0) b.ok.through z;
        after = omega (arith, linear);
        before = omega (arith, linear);
      }))

  -- a place inside a face, in the slab and off the edges, is in the gap of a cell
  pub placed : (p : Place) → IsWithin p → IsTrue (is_off g p) → 0 < length (over g p)
      → exact.IsPlaced d.faces c.strip c.left_positive c.right_positive c.after c.starts c.next cs p
  placed p w off some =
      let f = some_member (over g p) some in
      let t = over_inside g p f.0 f.1 in
      let inside = from_inside g f.0 p (d.rings_some f.0 (face f.0 t)) t in
      exact.all d.faces c.strip c.left_positive c.right_positive c.after c.starts c.next cs c.emitted p
      w.place w.after w.before (off_bars p w off) f.0 inside
    where
      face : (f : ℕ) → IsTrue (is_inside g f p) → f < length g.rings
      face f t = face_below g f p t

  -- so the cell's faces are those over the place
  pub placed_over : (p : Place) (t : exact.IsPlaced d.faces c.strip c.left_positive c.right_positive c.after
      c.starts c.next cs p) → t.cell.faces ≡ over g p
  placed_over p t = rising_equal t.cell.faces (over g p) t.at.rising (over_rising g p) (λ f. (
    λ k. (let i = (exact.placed_faces d.faces c.strip c.left_positive c.right_positive c.after c.starts c.next
        cs p t f).0 k in inside_over g p f (to_inside g f p i.0.1.0 i.1)),
    λ k. (let u = over_inside g p f k in (exact.placed_faces d.faces c.strip c.left_positive c.right_positive
        c.after c.starts c.next cs p t f).1 (from_inside g f p (d.rings_some f (face_below g f p u)) u)),
  ))

  -- a bar that spans the slab reaches each place in it
  pub reaches_within : (b : Bar) → Spans left right b → (p : Place) → IsWithin p → Reaches b p
  reaches_within b s p w =
      let a = run-trans_last (spot b.lo) left p one_place c.left_positive w.place s.after w.after in
      let q = run-trans_first p right (spot b.hi) w.place c.right_positive one_place w.before s.before in
      record { after = omega (arith, linear); before = omega (arith, linear) }

  -- an edge that passes below one place of a gap's cut passes below the other
  module _ {n : ℕ} (p q : Place) (a : IsCut Has (IsAmong v n) (IsAfter v n) left right p)
      (z : IsCut Has (IsAmong v n) (IsAfter v n) left right q) where
    within : (s : Place) → IsCut Has (IsAmong v n) (IsAfter v n) left right s → IsWithin s
    within s t = record { place = t.positive; after = t.after; before = t.before }

    pub not_below : IsBelow g p q → ⊥
    not_below (e, lt, over, under) =
        let m = spanning_bar e lt p (within p a) over.0 over.1 over.3 over.2 in
        let u = from_above g e m.0 m.2 p a.positive over in
        let w = from_below g e m.0 m.2 q z.positive under in
        elim (a.each m.0 m.1 m.3) [
          | inl low ↦ (let k = a.low m.0 low in let h = u.1 in omega (arith, linear))
          | inr high ↦ (let k = z.high m.0 high in let h = w.1 in omega (arith, linear))
        ]
