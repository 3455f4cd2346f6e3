-- Places in slab cells are in an order: what comes before a place comes before all that follow it.
use Rattle.std.proofs.Common.{ℕ, ◌≡◌, ◌≢◌, ◌⊎◌, inl, inr, ◌<◌, List, length, arith, refl, sym, subst, ℤ, pos, ◌<ℤ◌, ◌≤ℤ◌, Bool, true, false, IsTrue}
use Rattle.std.specs.List.{Contains}
use Rattle.std.proofs.lemmas.Bool.Decides.{Decides-int_eq}
use Rattle.ff_whole.proofs.Signs.{linear, by_sign, pos-mul, pos-mul_neg}
use Rattle.ff_whole.specs.Places.{through, height, slant, IsPlace}
use Rattle.ff_whole.specs.Convex.{point_at}
use Rattle.ff_whole.specs.declared.lines.Line.{Line}
use Rattle.ff_whole.specs.declared.places.Place.{Place}
use Rattle.ff_types.specs.Patterns.{edge_at}
use Rattle.ff_types.specs.Sheets.{Sheet, line_of}
use Rattle.ff_types.specs.Borders.{is_on, are_parallel}
use Rattle.ff_cells.specs.declared.bars.Bar.{Bar}
use Rattle.ff_cells.specs.Gap.{run, spot, gap}
use Rattle.ff_cells.specs.Sheet.{IsOver}
use Rattle.ff_cells.specs.SlabCells.{IsLeftOf, IsBelow, IsInCell, IsBefore}
use Rattle.ff_cells.proofs.Cuts.{run-opposite, run-trans_first, run-trans_last}
use Rattle.ff_cells.proofs.Gaps.{gap-height, gap-opposite, gap-same_x, Crosses, crossing_of, crossed}
use Rattle.ff_cells.proofs.Slices.{one_place}
use Rattle.ff_cells.proofs.BarEdges.{Reaches, AreEnds, on_edge, from_below, from_above, passes_below, parallel_bars}
use Rattle.ff_cells.proofs.FaceLists.{off_edge}
use Rattle.ff_cells.proofs.Drawn.{IsDrawn}
use Rattle.ff_answers.proofs.Finite.{either_way}
use Rattle.ff_answers.proofs.Signs.{bar_past}

module _ {g : Sheet} where
  -- ---- from left to right

  right_of : (s t u : Place) → IsInCell g u → IsLeftOf g s t → (IsLeftOf g u t → ⊥) → IsLeftOf g s u
  right_of s t u i (b, place, on, x, y) n = by_sign (run b u)
      (λ k. (let o = run-opposite b u in absurd (n (b, place, on, omega (arith, linear), y))))
      (λ z. absurd (i.between b place on z))
      (λ k. (b, place, on, x, k))

  left_of : (s t u : Place) → IsInCell g s → (IsLeftOf g t s → ⊥) → IsLeftOf g t u → IsLeftOf g s u
  left_of s t u i n (b, place, on, x, y) = by_sign (run b s)
      (λ k. (let o = run-opposite b s in (b, place, on, omega (arith, linear), y)))
      (λ z. absurd (i.between b place on z))
      (λ k. absurd (n (b, place, on, x, k)))

  run_left : (s t : Place) → IsPlace s → IsPlace t → IsLeftOf g s t → pos 0 <ℤ run s t
  run_left s t hs ht (b, place, on, x, y) = run-trans_first s b t hs place ht x (omega (arith, linear))

  one_way : (s t : Place) → IsPlace s → IsPlace t → IsLeftOf g s t → IsLeftOf g t s → ⊥
  one_way s t hs ht a b =
      let x = run_left s t hs ht a in
      let y = run_left t s ht hs b in
      let o = run-opposite s t in
      omega (arith, linear)

module _ {g : Sheet} {bars : List Bar} (d : IsDrawn g bars) where
  -- no border is between the places
  record IsBeside (s r : Place) : Type 0 where
    pub first : IsInCell g s
    pub second : IsInCell g r
    pub not_left : IsLeftOf g s r → ⊥
    pub not_right : IsLeftOf g r s → ⊥

  -- a vertex left of the one is left of the other
  vertex_left : (s r : Place) → IsBeside s r → (u : ℕ) → u < length g.images → pos 0 <ℤ run (spot (point_at g.images u)) s
      → pos 0 <ℤ run (spot (point_at g.images u)) r
  vertex_left s r b u l h =
      let p = spot (point_at g.images u) in
      by_sign (run p r)
      (λ n. (let o = run-opposite p r in absurd (b.not_right (p, one_place, inl (u, l, refl), omega (arith, linear), h))))
      (λ z. absurd (b.second.between p one_place (inl (u, l, refl)) z))
      (λ k. k)

  vertex_right : (s r : Place) → IsBeside s r → (u : ℕ) → u < length g.images
      → pos 0 <ℤ run s (spot (point_at g.images u)) → pos 0 <ℤ run r (spot (point_at g.images u))
  vertex_right s r b u l h =
      let p = spot (point_at g.images u) in
      let o = run-opposite p r in
      by_sign (run p r)
      (λ n. omega (arith, linear))
      (λ z. absurd (b.second.between p one_place (inl (u, l, refl)) z))
      (λ k. absurd (b.not_left (p, one_place, inl (u, l, refl), h, k)))

  -- the ends of a bar are vertices
  bar_lo : (b : Bar) → Contains bars b → (u : ℕ) × (u < length g.images) × (b.lo ≡ point_at g.images u)
  bar_lo b has = let e = d.bar_edge b has in elim e.2 [
    | inl (l, h) ↦ ((edge_at g.edges e.0).a, d.tails e.0 e.1, l)
    | inr (l, h) ↦ ((edge_at g.edges e.0).b, d.heads e.0 e.1, l)
  ]

  bar_hi : (b : Bar) → Contains bars b → (u : ℕ) × (u < length g.images) × (b.hi ≡ point_at g.images u)
  bar_hi b has = let e = d.bar_edge b has in elim e.2 [
    | inl (l, h) ↦ ((edge_at g.edges e.0).b, d.heads e.0 e.1, h)
    | inr (l, h) ↦ ((edge_at g.edges e.0).a, d.tails e.0 e.1, h)
  ]

  -- a bar that reaches a place in a slab cell goes on past it
  strictly : (b : Bar) → Contains bars b → (s : Place) → IsInCell g s → Reaches b s → IsOver b s
  strictly b has s i r =
      let lo = bar_lo b has in
      let hi = bar_hi b has in
      let o = run-opposite (spot b.hi) s in
      record {
        after = by_sign (run (spot b.lo) s) (λ n. (let a = r.after in absurd (omega (arith, linear))))
            (λ z. absurd (i.between (spot (point_at g.images lo.0)) one_place (inl (lo.0, lo.1, refl))
            (subst (λ p. run (spot p) s ≡ pos 0) lo.2 z))) (λ k. k);
        before = by_sign (run s (spot b.hi)) (λ n. (let a = r.before in absurd (omega (arith, linear))))
            (λ z. absurd (i.between (spot (point_at g.images hi.0)) one_place (inl (hi.0, hi.1, refl))
            (subst (λ p. run (spot p) s ≡ pos 0) hi.2 (omega (arith, linear))))) (λ k. k);
      }

  -- and past each place beside it
  over_beside : (b : Bar) → Contains bars b → (s r : Place) → IsBeside s r → IsOver b s → IsOver b r
  over_beside b has s r q o =
      let lo = bar_lo b has in
      let hi = bar_hi b has in
      record {
        after = subst (λ p. pos 0 <ℤ run (spot p) r) (sym lo.2)
            (vertex_left s r q lo.0 lo.1 (subst (λ p. pos 0 <ℤ run (spot p) s) lo.2 o.after));
        before = subst (λ p. pos 0 <ℤ run r (spot p)) (sym hi.2)
            (vertex_right s r q hi.0 hi.1 (subst (λ p. pos 0 <ℤ run s (spot p)) hi.2 o.before));
      }

  reach : (b : Bar) (s : Place) → IsOver b s → Reaches b s
  reach b s o = let x = o.after in let y = o.before in record { after = omega (arith, linear); before = omega (arith, linear) }

  -- no bar is on a place in a slab cell
  off_bar : (b : Bar) → Contains bars b → (s : Place) → IsInCell g s → IsOver b s → height b.line s ≢ pos 0
  off_bar b has s i o z = let e = d.bar_edge b has in let x = o.after in let y = o.before in
      off_edge g s i.off e.0 e.1 (on_edge g e.0 b e.2 s (record {
        on = subst (λ (l : Line). height l s ≡ pos 0) b.ok.through z;
        after = omega (arith, linear);
        before = omega (arith, linear);
      }))

  -- ---- bars that change places

  -- two edges' bars
  record AreTwo (e k : ℕ) (b c : Bar) : Type 0 where
    pub e_in : e < length g.edges
    pub k_in : k < length g.edges
    pub b_ends : AreEnds g e b
    pub c_ends : AreEnds g k c

  -- bars that go over two places and cross between have a border there
  border_there : (e k : ℕ) (b c : Bar) → AreTwo e k b c → (s t : Place) → IsPlace s → IsPlace t → IsOver b s → IsOver b t
      → IsOver c s → IsOver c t
      → (m : Place) → Crosses b.line c.line s t m → IsLeftOf g s t
  border_there e k b c two s t hs ht bs bt cs ct m x = (
    m,
    x.positive,
    inr (
      e,
      k,
      record {
        first = two.e_in;
        second = two.k_in;
        across = across (are_parallel g e k) refl;
        on_first = holds e b two.b_ends bs bt (subst (λ (l : Line). height l m ≡ pos 0) b.ok.through x.on_k);
        on_second = holds k c two.c_ends cs ct (subst (λ (l : Line). height l m ≡ pos 0) c.ok.through x.on_l);
      },
    ),
    x.after,
    x.before,
  ) where
    across : (p : Bool) → are_parallel g e k ≡ p → are_parallel g e k ≡ false
    across false q = q
    across true q = absurd (x.apart (parallel_bars g e k b c two.b_ends two.c_ends
        ((Decides-int_eq (slant (line_of g e) (line_of g k)) (pos 0)).0 q)))

    holds : (n : ℕ) (a : Bar) → AreEnds g n a → IsOver a s → IsOver a t → height (through a.lo a.hi) m ≡ pos 0
        → IsTrue (is_on g n m)
    holds n a ends os ot on = on_edge g n a ends m (record {
      on = on;
      after = weak (run (spot a.lo) m) (run-trans_last (spot a.lo) s m one_place hs x.positive
          (weak (run (spot a.lo) s) os.after) x.after);
      before = weak (run m (spot a.hi)) (run-trans_first m t (spot a.hi) x.positive ht one_place x.before
          (weak (run t (spot a.hi)) ot.before));
    }) where
      weak : (z : ℤ) → pos 0 <ℤ z → pos 0 ≤ℤ z
      weak z h = omega (arith, linear)

  -- b is below t and above u, c above t and below u
  record AreSwapped (b c : Bar) (t u : Place) : Type 0 where
    pub bt : IsOver b t
    pub bu : IsOver b u
    pub ct : IsOver c t
    pub cu : IsOver c u
    pub b_low : pos 0 <ℤ height b.line t
    pub b_high : height b.line u <ℤ pos 0
    pub c_high : height c.line t <ℤ pos 0
    pub c_low : pos 0 <ℤ height c.line u

  swapped : (e k : ℕ) (b c : Bar) → AreTwo e k b c → (t u : Place) → IsBeside t u → AreSwapped b c t u → ⊥
  swapped e k b c two t u q w =
      by_sign (run t u)
      (λ n. q.not_right (border_there k e c b turned u t q.second.place q.first.place w.cu w.ct w.bu w.bt
      (crossing_of c.line b.line u t)
      (crossed c.line b.line u t c.ok.rising.rises q.second.place q.first.place (back n) above_turned below_turned)))
      (λ z. level z)
      (λ p. q.not_left (border_there e k b c two t u q.first.place q.second.place w.bt w.bu w.ct w.cu
      (crossing_of b.line c.line t u)
      (crossed b.line c.line t u b.ok.rising.rises q.first.place q.second.place p above below)))
    where
      turned : AreTwo k e c b
      turned = record { e_in = two.k_in; k_in = two.e_in; b_ends = two.c_ends; c_ends = two.b_ends }

      back : run t u <ℤ pos 0 → pos 0 <ℤ run u t
      back n = let o = run-opposite t u in omega (arith, linear)

      above : pos 0 <ℤ gap b.line c.line t
      above =
          let e = gap-height b.line c.line t in
          let x = pos-mul c.line.b (height b.line t) c.ok.rising.rises w.b_low in
          let y = pos-mul_neg b.line.b (height c.line t) b.ok.rising.rises w.c_high in
          omega (arith, linear)

      below : gap b.line c.line u <ℤ pos 0
      below =
          let e = gap-height b.line c.line u in
          let x = pos-mul_neg c.line.b (height b.line u) c.ok.rising.rises w.b_high in
          let y = pos-mul b.line.b (height c.line u) b.ok.rising.rises w.c_low in
          omega (arith, linear)

      above_turned : pos 0 <ℤ gap c.line b.line u
      above_turned = let e = gap-opposite b.line c.line u in let h = below in omega (arith, linear)

      below_turned : gap c.line b.line t <ℤ pos 0
      below_turned = let e = gap-opposite b.line c.line t in let h = above in omega (arith, linear)

      level : run t u ≡ pos 0 → ⊥
      level z =
          let e = gap-same_x b.line c.line t u z in
          let x = pos-mul_neg t.w (gap b.line c.line u) q.first.place below in
          let y = pos-mul u.w (gap b.line c.line t) q.second.place above in
          omega (arith, linear)

  -- ---- from below to above

  -- of places beside each other
  risen : (s t u : Place) → IsBeside s t → IsBeside t u → (IsLeftOf g u s → ⊥) → IsBelow g s t → IsBelow g t u → IsBefore g s u
  risen s t u p q n (e, l, e_over, e_under) (k, m, k_over, k_under) =
      by_sign (height b.0.line u)
      (λ h. absurd (swapped e k b.0 c.0 (record { e_in = l; k_in = m; b_ends = b.2; c_ends = c.2 }) t u q (record {
        bt = bt;
        bu = bu;
        ct = ct;
        cu = over_beside c.0 c.1 t u q ct;
        b_low = (from_below g e b.0 b.2 t q.first.place e_under).1;
        b_high = h;
        c_high = (from_above g k c.0 c.2 t q.first.place k_over).1;
        c_low = (from_below g k c.0 c.2 u q.second.place k_under).1;
      })))
      (λ z. absurd (off_bar b.0 b.1 u q.second bu z))
      (λ h. inr (n, (e, l, e_over, passes_below b.0 u q.second.place (reach b.0 u bu) g e b.2 h)))
    where
      b : (b : Bar) × Contains bars b × AreEnds g e b
      b = bar_past d e l s e_over.0 p.first e_over.1 e_over.3 e_over.2

      c : (c : Bar) × Contains bars c × AreEnds g k c
      c = bar_past d k m t k_over.0 q.first k_over.1 k_over.3 k_over.2

      bs : IsOver b.0 s
      bs = strictly b.0 b.1 s p.first (from_above g e b.0 b.2 s p.first.place e_over).0

      bt : IsOver b.0 t
      bt = over_beside b.0 b.1 s t p bs

      bu : IsOver b.0 u
      bu = over_beside b.0 b.1 t u q bt

      ct : IsOver c.0 t
      ct = strictly c.0 c.1 t q.first (from_above g k c.0 c.2 t q.first.place k_over).0

  module _ (s t u : Place) (i : IsInCell g s) (j : IsInCell g t) (k : IsInCell g u) where
    -- neither is left of the next
    both_below : (IsLeftOf g t s → ⊥) → (IsLeftOf g u t → ⊥) → IsBelow g s t → IsBelow g t u → (IsBefore g s u → ⊥) → ⊥
    both_below n m x y none = either_way (IsLeftOf g s t) first where
      never : IsLeftOf g u s → ⊥
      never a = m (right_of u s t j a n)

      second : (IsLeftOf g s t → ⊥) → (IsLeftOf g t u) ⊎ (IsLeftOf g t u → ⊥) → ⊥
      second st (inl a) = none (inl (left_of s t u i n a))
      second st (inr tu) = none (risen s t u (record { first = i; second = j; not_left = st; not_right = n })
          (record { first = j; second = k; not_left = tu; not_right = m }) never x y)

      first : (IsLeftOf g s t) ⊎ (IsLeftOf g s t → ⊥) → ⊥
      first (inl a) = none (inl (right_of s t u k a m))
      first (inr st) = either_way (IsLeftOf g t u) (second st)

    pub later : IsBefore g s t → IsBefore g t u → (IsBefore g s u → ⊥) → ⊥
    later (inl a) (inl b) none = none (inl (right_of s t u k a (λ c. one_way t u j.place k.place b c)))
    later (inl a) (inr (m, y)) none = none (inl (right_of s t u k a m))
    later (inr (n, x)) (inl b) none = none (inl (left_of s t u i n b))
    later (inr (n, x)) (inr (m, y)) none = both_below n m x y none
