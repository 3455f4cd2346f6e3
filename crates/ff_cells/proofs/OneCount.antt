-- Places in different slab cells are no more than slab cells, and have no more entries.
use Rattle.std.proofs.Common.{ℕ, zero, suc, ◌≡◌, ◌≢◌, inl, inr, ◌+◌, ◌<◌, ◌≤◌, List, [], ◌∷◌, length, get_or, arith, refl, sym, ap, subst, ◌∙◌, pos, ◌<ℤ◌, true, false, IsTrue}
use Rattle.std.specs.List.{All, Contains, sum_by}
use Rattle.std.proofs.lemmas.List.{get_or_default}
use Rattle.std.proofs.lemmas.List.Sums.{sum_by-cons}
use Rattle.ff_whole.proofs.Signs.{linear, by_sign}
use Rattle.ff_whole.specs.Places.{height, IsPlace}
use Rattle.ff_whole.specs.Convex.{point_at}
use Rattle.ff_whole.specs.declared.lines.Line.{Line}
use Rattle.ff_whole.specs.declared.places.Place.{Place}
use Rattle.ff_types.specs.Patterns.{edge_at}
use Rattle.ff_types.specs.Sheets.{Sheet, tail}
use Rattle.ff_types.specs.Inside.{over}
use Rattle.ff_types.specs.Borders.{is_on}
use Rattle.ff_cells.specs.declared.bars.Bar.{Bar}
use Rattle.ff_cells.specs.Gap.{run, spot}
use Rattle.ff_cells.specs.Sheet.{IsOver, IsInside}
use Rattle.ff_cells.specs.Gap.{opposite}
use Rattle.std.specs.Prelude.{if◌then◌else◌}
use Rattle.ff_basics.proofs.Memberships.{first_member, later_member}
use Rattle.ff_cells.specs.SlabCells.{IsLeftOf, IsBelow, IsInCell, IsBefore, AreInOrder, StandInCells, AreOneEach, entries}
use Rattle.ff_cells.proofs.Between.{Spanned, between_open}
use Rattle.ff_cells.proofs.Cuts.{run-opposite, height-opposite}
use Rattle.ff_cells.proofs.BarEdges.{Reaches, AreEnds, on_edge, on_vertical, from_below, from_above, passes_below, passes_above}
use Rattle.ff_cells.proofs.Faces.{IsStep}
use Rattle.ff_cells.proofs.Drawn.{IsDrawn, from_inside, to_inside}
use Rattle.ff_cells.proofs.FaceLists.{off_edge, over_inside, inside_over, over_rising, rising_equal, face_below}
use Rattle.ff_cells.proofs.Slices.{run_same, run_same_back, one_place}

module _ {g : Sheet} {bars : List Bar} (d : IsDrawn g bars) where
  -- no border is between the places
  pub record AreBeside (s r : Place) : Type 0 where
    pub first : IsInCell g s
    pub second : IsInCell g r
    pub not_left : IsLeftOf g s r → ⊥
    pub not_right : IsLeftOf g r s → ⊥

  beside_back : (s r : Place) → AreBeside s r → AreBeside r s
  beside_back s r b = record {
    first = b.second;
    second = b.first;
    not_left = b.not_right;
    not_right = b.not_left;
  }

  -- a vertex left of the one is left of the other
  vertex_left : (s r : Place) → AreBeside s r → (u : ℕ) → u < length g.images
      → pos 0 <ℤ run (spot (point_at g.images u)) s → pos 0 <ℤ run (spot (point_at g.images u)) r
  vertex_left s r b u l h =
      let p = spot (point_at g.images u) in
      by_sign (run p r)
      (λ n. (let o = run-opposite p r in absurd (b.not_right
      (p, one_place, inl (u, l, refl), omega (arith, linear), h))))
      (λ z. absurd (b.second.between p one_place (inl (u, l, refl)) z))
      (λ k. k)

  vertex_right : (s r : Place) → AreBeside s r → (u : ℕ) → u < length g.images
      → pos 0 <ℤ run s (spot (point_at g.images u)) → pos 0 <ℤ run r (spot (point_at g.images u))
  vertex_right s r b u l h =
      let p = spot (point_at g.images u) in
      let o = run-opposite p r in
      by_sign (run p r)
      (λ n. omega (arith, linear))
      (λ z. absurd (b.second.between p one_place (inl (u, l, refl)) z))
      (λ k. absurd (b.not_left (p, one_place, inl (u, l, refl), h, k)))

  -- the ends of a bar are vertices
  bar_lo : (b : Bar) → Contains bars b → (u : ℕ) × (u < length g.images) × (b.lo ≡ point_at g.images u)
  bar_lo b has = let e = d.bar_edge b has in elim e.2 [
    | inl (l, h) ↦
        ((edge_at g.edges e.0).a, d.tails e.0 e.1, l)
    | inr (l, h) ↦ (
      (edge_at g.edges e.0).b,
      d.heads e.0 e.1,
      l,
    )
  ]

  bar_hi : (b : Bar) → Contains bars b → (u : ℕ) × (u < length g.images) × (b.hi ≡ point_at g.images u)
  bar_hi b has = let e = d.bar_edge b has in elim e.2 [
    | inl (l, h) ↦
        ((edge_at g.edges e.0).b, d.heads e.0 e.1, h)
    | inr (l, h) ↦ (
      (edge_at g.edges e.0).a,
      d.tails e.0 e.1,
      h,
    )
  ]

  -- a bar that reaches a place in a slab cell goes on past it
  strictly : (b : Bar) → Contains bars b → (s : Place) → IsInCell g s → Reaches b s → IsOver b s
  strictly b has s i r =
      let lo = bar_lo b has in
      let hi = bar_hi b has in
      let o = run-opposite (spot b.hi) s in
      record {
        after = by_sign (run (spot b.lo) s) (λ n. (let a = r.after in absurd (omega (arith, linear))))
            (λ z. absurd (i.between (spot (point_at g.images lo.0)) one_place (inl (lo.0, lo.1, refl))
            (subst (λ p. run (spot p) s ≡ pos 0) lo.2 z))) (λ k. k);
        before = by_sign (run s (spot b.hi)) (λ n. (let a = r.before in absurd (omega (arith, linear))))
            (λ z. absurd (i.between (spot (point_at g.images hi.0)) one_place (inl (hi.0, hi.1, refl))
            (subst (λ p. run (spot p) s ≡ pos 0) hi.2 (omega (arith, linear))))) (λ k. k);
      }

  -- and past each place beside it
  over_beside : (b : Bar) → Contains bars b → (s r : Place) → AreBeside s r → IsOver b s → IsOver b r
  over_beside b has s r q o =
      let lo = bar_lo b has in
      let hi = bar_hi b has in
      record {
        after = subst (λ p. pos 0 <ℤ run (spot p) r) (sym lo.2)
            (vertex_left s r q lo.0 lo.1 (subst (λ p. pos 0 <ℤ run (spot p) s) lo.2 o.after));
        before = subst (λ p. pos 0 <ℤ run r (spot p)) (sym hi.2)
            (vertex_right s r q hi.0 hi.1 (subst (λ p. pos 0 <ℤ run s (spot p)) hi.2 o.before));
      }

  reach : (b : Bar) (s : Place) → IsOver b s → Reaches b s
  reach b s o = let x = o.after in let y = o.before in record {
    after = omega (arith, linear);
    before = omega (arith, linear);
  }

  -- no bar is on a place in a slab cell
  off_bar : (b : Bar) → Contains bars b → (s : Place) → IsInCell g s → IsOver b s → height b.line s ≢ pos 0
  off_bar b has s i o z = let e = d.bar_edge b has in let x = o.after in let y = o.before in
      off_edge g s i.off e.0 e.1 (on_edge g e.0 b e.2 s (record {
        on = subst (λ (l : Line). height l s ≡ pos 0) b.ok.through z;
        after = omega (arith, linear);
        before = omega (arith, linear);
      }))

  -- an edge over or under a place in a slab cell has a bar
  bar_past : (e : ℕ) → e < length g.edges → (s t : Place) → IsInCell g s → IsPlace t → run s t ≡ pos 0
      → IsTrue (is_on g e t) → (b : Bar) × Contains bars b × AreEnds g e b
  bar_past e l s t i place level on = elim (d.edge_bar e l) [
    | inl same ↦ (let p = spot (tail g e) in let z = on_vertical g e t (d.apart e l) same on in
        absurd (i.between p one_place (inl ((edge_at g.edges e).a, d.tails e l, refl))
        (same_x p s t one_place i.place place z level)))
    | inr b ↦ b
  ]
    where
      same_x : (p s t : Place) → pos 0 <ℤ p.w → pos 0 <ℤ s.w → pos 0 <ℤ t.w → run p t ≡ pos 0
          → run s t ≡ pos 0 → run p s ≡ pos 0
      same_x p s t hp hs ht a b =
          let o = run-opposite s t in
          by_sign (run p s)
          (λ n. (let q = run-opposite p s in let k = run_same_back p s t hp hs ht b (omega (arith, linear)) in
          let r = run-opposite p t in absurd (omega (arith, linear))))
          (λ z. z)
          (λ k. (let q = run_same p s t hp hs ht b k in absurd (omega (arith, linear))))

  -- the places are in one slab cell
  pub record AreTogether (s r : Place) : Type 0 where
    pub beside : AreBeside s r
    pub not_below : IsBelow g s r → ⊥
    pub not_above : IsBelow g r s → ⊥

  pub together : (s r : Place) → IsInCell g s → IsInCell g r → (IsBefore g s r → ⊥) → (IsBefore g r s → ⊥)
      → AreTogether s r
  together s r i j n m = record {
    beside = record { first = i; second = j; not_left = λ l. n (inl l); not_right = λ l. m (inl l) };
    not_below = λ b. n (inr ((λ l. m (inl l)), b));
    not_above = λ b. m (inr ((λ l. n (inl l)), b));
  }

  -- a bar below the one is below the other
  bar_below : (s r : Place) → AreTogether s r → (b : Bar) → Contains bars b → IsOver b s
      → pos 0 <ℤ height b.line s → pos 0 <ℤ height b.line r
  bar_below s r t b has o h =
      let e = d.bar_edge b has in
      let k = over_beside b has s r t.beside o in
      by_sign (height b.line r)
      (λ n. absurd (t.not_above (
        e.0,
        e.1,
        passes_above b r t.beside.second.place (reach b r k) g e.0 e.2 n,
        passes_below b s t.beside.first.place (reach b s o) g e.0 e.2 h,
      )))
      (λ z. absurd (off_bar b has r t.beside.second k z))
      (λ p. p)

  bar_above : (s r : Place) → AreTogether s r → (b : Bar) → Contains bars b → IsOver b s
      → height b.line s <ℤ pos 0 → height b.line r <ℤ pos 0
  bar_above s r t b has o h =
      let e = d.bar_edge b has in
      let k = over_beside b has s r t.beside o in
      by_sign (height b.line r)
      (λ p. p)
      (λ z. absurd (off_bar b has r t.beside.second k z))
      (λ n. absurd (t.not_below (
        e.0,
        e.1,
        passes_above b s t.beside.first.place (reach b s o) g e.0 e.2 h,
        passes_below b r t.beside.second.place (reach b r k) g e.0 e.2 n,
      )))

  -- of two places one of which comes before the other, none is in one slab cell with a third
  pub clash : (s t r : Place) → IsBefore g s t → AreTogether s r → AreTogether t r → ⊥
  clash s t r (inl (b, place, on, x, y)) u w = by_sign (run b r)
      (λ n. (let o = run-opposite b r in w.beside.not_right (b, place, on, omega (arith, linear), y)))
      (λ z. u.beside.second.between b place on z)
      (λ k. u.beside.not_left (b, place, on, x, k))
  clash s t r (inr (n, (e, l, up, low))) u w =
      let b = bar_past e l s up.0 u.beside.first up.1 up.3 up.2 in
      let x = from_above g e b.0 b.2 s u.beside.first.place up in
      let y = from_below g e b.0 b.2 t w.beside.first.place low in
      let o = strictly b.0 b.1 s u.beside.first x.0 in
      let q = strictly b.0 b.1 t w.beside.first y.0 in
      let k = bar_above s r u b.0 b.1 o x.1 in
      let m = bar_below t r w b.0 b.1 q y.1 in
      omega (arith, linear)

  -- what comes before a place comes before each that is in one slab cell with it
  pub before_moves : (d c s : Place) → IsInCell g d → IsBefore g d c → AreTogether c s → IsBefore g d s
  before_moves d c s i (inl (b, place, on, x, y)) t = inl (
    b,
    place,
    on,
    x,
    by_sign (run b s)
        (λ n. (let o = run-opposite b s in absurd (t.beside.not_right (b, place, on, omega (arith, linear), y))))
        (λ z. absurd (t.beside.second.between b place on z))
        (λ k. k),
  )
  before_moves d c s i (inr (n, (e, l, up, low))) t = inr (
    (λ h. n (still_left h)),
    (
      e,
      l,
      up,
      passes_below b.0 s t.beside.second.place (reach b.0 s (over_beside b.0 b.1 c s t.beside o)) g e b.2
          (bar_below c s t b.0 b.1 o y.1),
    ),
  )
    where
      b : (b : Bar) × Contains bars b × AreEnds g e b
      b = bar_past e l c low.0 t.beside.first low.1 low.3 low.2

      y : Reaches b.0 c × (pos 0 <ℤ height b.0.line c)
      y = from_below g e b.0 b.2 c t.beside.first.place low

      o : IsOver b.0 c
      o = strictly b.0 b.1 c t.beside.first y.0

      still_left : IsLeftOf g s d → IsLeftOf g c d
      still_left (b, place, on, x, y) = (
        b,
        place,
        on,
        by_sign (run c b)
            (λ n. absurd (t.beside.not_right (b, place, on, x, (let o = run-opposite c b in omega (arith, linear)))))
            (λ z. absurd (t.beside.first.between b place on (let o = run-opposite c b in omega (arith, linear))))
            (λ k. k),
        y,
      )

  -- ---- places in one slab cell are over the same faces

  ends_off : (s : Place) → IsInCell g s → (b : Bar) → Contains bars b → (run (spot b.lo) s ≢ pos 0)
      × (run s (spot b.hi) ≢ pos 0)
  ends_off s i b has =
      let lo = bar_lo b has in
      let hi = bar_hi b has in (
        λ z. i.between (spot (point_at g.images lo.0)) one_place (inl (lo.0, lo.1, refl))
            (subst (λ p. run (spot p) s ≡ pos 0) lo.2 z),
        λ z. (let o = run-opposite (spot b.hi) s in i.between (spot (point_at g.images hi.0)) one_place
            (inl (hi.0, hi.1, refl)) (subst (λ p. run (spot p) s ≡ pos 0) hi.2 (omega (arith, linear)))),
      )

  still_inside : (s r : Place) → AreTogether s r → (f : ℕ) → IsInside (IsStep g) f s → IsInside (IsStep g) f r
  still_inside s r t f inside = (
    inside.0,
    λ l st. around l st
        (d.faces.around f s i.place inside (λ b has e. ends_off s i b has)),
  )
    where
      i : IsInCell g s
      i = t.beside.first

      spanned : (b : Bar) → Contains bars b → b.face ≡ f → (l : Line) → IsStep g f l → IsOver b r
          → Spanned b.lo b.hi l r
      spanned b has e l st o =
          let c = d.faces.convex b l has (subst (λ n. IsStep g n l) (sym e) st) in
          let x = o.after in let y = o.before in
          record {
            goes = b.ok.goes;
            first = c.0;
            last = c.1;
            after = omega (arith, linear);
            before = omega (arith, linear);
          }

      around : (l : Line) → IsStep g f l → (b : Bar) × Contains bars b × (b.lower ≡ true) × (b.face ≡ f)
          × IsOver b s → pos 0 <ℤ height l r
      around l st (b, has, low, e, o) = closed (d.faces.closes b s i.place
          (λ c hc ec. ends_off s i c hc) has low o)
        where
          below : pos 0 <ℤ height b.line s
          below = inside.1 b.line (subst (λ n. IsStep g n b.line) e
              (subst (IsStep g b.face) (ap (λ k. if k then b.line else opposite b.line) low)
              (d.faces.step b has)))

          at : IsOver b r
          at = over_beside b has s r t.beside o

          closed : (u : Bar) × Contains bars u × (u.lower ≡ false) × (u.face ≡ b.face) × IsOver u s
              → pos 0 <ℤ height l r
          closed (u, hu, high, same, ou) =
              let q = inside.1 (opposite u.line) (subst (λ n. IsStep g n (opposite u.line)) (same ∙ e)
              (subst (IsStep g u.face) (ap (λ k. if k then u.line else opposite u.line) high)
              (d.faces.step u hu))) in
              let z = height-opposite u.line s in
              let above = bar_above s r t u hu ou (omega (arith, linear)) in
              let under = bar_below s r t b has o below in
              between_open b.lo b.hi u.lo u.hi l r (spanned b has e l st at)
              (spanned u hu (same ∙ e) l st (over_beside u hu s r t.beside ou)) at.after at.before
              (subst (λ (k : Line). pos 0 <ℤ height k r) b.ok.through under)
              (subst (λ (k : Line). height k r <ℤ pos 0) u.ok.through above) (d.faces.way f l st)

  turned : (s r : Place) → AreTogether s r → AreTogether r s
  turned s r t = record {
    beside = beside_back s r t.beside;
    not_below = t.not_above;
    not_above = t.not_below;
  }

  still_over : (s r : Place) → AreTogether s r → (f : ℕ) → Contains (over g s) f → Contains (over g r) f
  still_over s r t f c =
      let a = over_inside g s f c in
      let l = face_below g f s a in
      let k = still_inside s r t f (from_inside g f s (d.rings_some f l) a) in
      inside_over g r f (to_inside g f r l k.1)

  pub same_faces : (s r : Place) → AreTogether s r → over g s ≡ over g r
  same_faces s r t = rising_equal (over g s) (over g r) (over_rising g s) (over_rising g r)
      (λ f. (still_over s r t f, still_over r s (turned s r t) f))

  -- ---- counting

  abbrev drop_at : List Place → ℕ → List Place
  drop_at [] k = []
  drop_at (x ∷ xs) zero = xs
  drop_at (x ∷ xs) (suc k) = x ∷ drop_at xs k

  sum_drop : (f : Place → ℕ) (xs : List Place) (k : ℕ) (e : Place) → k < length xs
      → sum_by f xs ≡ f (get_or xs k e) + sum_by f (drop_at xs k)
  sum_drop f [] k e l = absurd (omega (arith, l))
  sum_drop f (x ∷ xs) zero e l = sum_by-cons f x xs
  sum_drop f (x ∷ xs) (suc k) e l =
      let a = sum_by-cons f x xs in
      let b = sum_by-cons f x (drop_at xs k) in
      let r = sum_drop f xs k e (omega (arith, l)) in
      omega (arith, a, b, r)

  still : (xs : List Place) (k j : ℕ) (x : Place) → j < length xs → get_or xs j x ≡ x → (j ≡ k → ⊥)
      → Contains (drop_at xs k) x
  still [] k j x l e n = absurd (omega (arith, l))
  still (y ∷ xs) zero zero x l e n = absurd (n refl)
  still (y ∷ xs) zero (suc j) x l e n = (j, omega (arith, l), e)
  still (y ∷ xs) (suc k) zero x l e n = first_member y (drop_at xs k) x e
  still (y ∷ xs) (suc k) (suc j) x l e n = later_member y (drop_at xs k) x
      (still xs k j x (omega (arith, l)) e (λ q. n (ap suc q)))

  -- each place has one of the list in its slab cell
  abbrev AreMatched : List Place → List Place → Type 0
  AreMatched ys xs = (y : Place) → Contains ys y → (x : Place) × Contains xs x × AreTogether y x

  member_of : (P : Place → Type 0) (xs : List Place) → All P xs → (x : Place) → Contains xs x → P x
  member_of P xs h x (k, l, e) = subst P e (h k x l)

  counted : (f : Place → ℕ) → ((s r : Place) → AreTogether s r → f s ≡ f r) → (ys xs : List Place)
      → AreInOrder g ys → AreMatched ys xs → sum_by f ys ≤ sum_by f xs
  counted f same [] xs o m = omega arith
  counted f same (y ∷ ys) xs (before, o) m =
      let a = m y (first_member y ys y refl) in
      let k = a.1.0 in
      let e = a.1.2 in
      let s = sum_drop f xs k a.0 a.1.1 in
      let q = same y a.0 a.2 in
      let r = counted f same ys (drop_at xs k) o rest in
      let c = sum_by-cons f y ys in
      let w = ap f e in
      omega (arith, s, q, r, c, w)
    where
      rest : AreMatched ys (drop_at xs (m y (first_member y ys y refl)).1.0)
      rest z c = by (m z (later_member y ys z c))
        where
          by : (x : Place) × Contains xs x × AreTogether z x → (x : Place)
              × Contains (drop_at xs (m y (first_member y ys y refl)).1.0) x × AreTogether z x
          by (x, (j, l, e), t) = (x, still xs (m y (first_member y ys y refl)).1.0 j x l e apart, t)
            where
              apart : j ≡ (m y (first_member y ys y refl)).1.0 → ⊥
              apart q =
                  let a = m y (first_member y ys y refl) in
                  let one : x ≡ a.0 = sym e ∙ ap (λ n. get_or xs n x) q ∙ get_or_default xs a.1.0 x a.0 a.1.1
                  ∙ a.1.2 in
                  clash y z x (member_of (IsBefore g y) ys before z c) (subst (AreTogether y) (sym one) a.2) t

  ones : (xs : List Place) → sum_by (λ s. 1) xs ≡ length xs
  ones [] = refl
  ones (x ∷ xs) = let a = sum_by-cons (λ s. 1) x xs in let r = ones xs in omega (arith, a, r)

  matched : (xs ys : List Place) → AreOneEach g xs → StandInCells g ys → AreMatched ys xs
  matched xs ys a s y c =
      let i = member_of (IsInCell g) ys s.each y c in
      let t = a.all y i in
      (t.0, t.1, together y t.0 i (member_of (IsInCell g) xs a.stand.each t.0 t.1) t.2 t.3)

  pub no_more : (xs ys : List Place) → AreOneEach g xs → StandInCells g ys → (length ys ≤ length xs)
      × (entries g ys ≤ entries g xs)
  no_more xs ys a s =
      let m = matched xs ys a s in
      let k = counted (λ p. 1) (λ p q t. refl) ys xs s.in_order m in
      let x = ones xs in
      let y = ones ys in (
        omega (arith, k, x, y),
        counted (λ p. length (over g p)) (λ p q t. ap length (same_faces p q t)) ys xs
            s.in_order m,
      )
