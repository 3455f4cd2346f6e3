-- A place can be moved into a slab cell, over the same faces if it is off the edges.
use Rattle.std.proofs.Common.{ℕ, zero, suc, ◌≡◌, ◌≢◌, ◌⊎◌, inl, inr, ◌<◌, List, [], ◌∷◌, length, arith, refl, sym, ap, subst, ◌∙◌, ℤ, pos, ◌+ℤ◌, ◌-ℤ◌, ◌*ℤ◌, ◌<ℤ◌, Bool, true, false, IsTrue, true≢false}
use lib.IntN.{*ℤ-zero}
use Rattle.std.specs.List.{All, Contains}
use Rattle.std.proofs.lemmas.Int.{ints}
use Rattle.std.proofs.lemmas.Bool.Decides.{Decides-int_eq}
use Rattle.std.proofs.lemmas.List.Elements.{All-nil, All-cons, All-head, All-tail}
use Rattle.ff_basics.proofs.Lists.{member_some}
use Rattle.ff_basics.proofs.Numbers.{below_or_last}
use Rattle.ff_whole.proofs.Formulas.{line_e, line_env, place_e, place_env, height_e, slant_e}
use Rattle.ff_whole.proofs.Ring.{var, num, ◌⊕◌, ◌⊖◌, ◌⊗◌, solve}
use Rattle.ff_whole.proofs.Signs.{linear, by_sign, zero_product}
use Rattle.ff_whole.proofs.Moves.{HasDirection, KeepsSide, moved_aside}
use Rattle.ff_whole.specs.Places.{height, slant, IsPlace}
use Rattle.ff_whole.specs.Convex.{point_at}
use Rattle.ff_whole.specs.declared.points.Pt.{Pt}
use Rattle.ff_whole.specs.declared.lines.Line.{Line}
use Rattle.ff_whole.specs.declared.places.Place.{Place}
use Rattle.ff_types.specs.Sheets.{Sheet, tail, head, line_of}
use Rattle.ff_types.specs.Inside.{is_inside, over}
use Rattle.ff_types.specs.Borders.{are_parallel}
use Rattle.ff_cells.specs.declared.bars.Bar.{Bar}
use Rattle.ff_cells.specs.FaceSets.{is_off}
use Rattle.ff_cells.specs.Gap.{run, spot}
use Rattle.ff_cells.specs.SlabCells.{IsOnBorder, IsInCell}
use Rattle.ff_cells.proofs.BarEdges.{from_on}
use Rattle.ff_cells.proofs.Faces.{IsStep}
use Rattle.ff_cells.proofs.Drawn.{IsDrawn, from_inside, to_inside}
use Rattle.ff_cells.proofs.FaceLists.{off_edges, over_inside, inside_over, over_rising, rising_equal, face_below, some_member}

-- ---- lists of lines, one for each number or each two numbers

abbrev row : ℕ → (ℕ → Line) → List Line → List Line
row zero f rest = rest
row (suc n) f rest = f n ∷ row n f rest

abbrev grid : ℕ → ℕ → (ℕ → ℕ → Line) → List Line → List Line
grid zero n f rest = rest
grid (suc m) n f rest = row n (f m) (grid m n f rest)

module _ (P : Line → Type 0) where
  all_row : (n : ℕ) (f : ℕ → Line) (rest : List Line) → ((i : ℕ) → i < n → P (f i)) → All P rest
      → All P (row n f rest)
  all_row zero f rest h k = k
  all_row (suc n) f rest h k = All-cons P (f n) (row n f rest) (h n (omega arith))
      (all_row n f rest (λ i l. h i (omega (arith, l))) k)

  row_rest : (n : ℕ) (f : ℕ → Line) (rest : List Line) → All P (row n f rest) → All P rest
  row_rest zero f rest h = h
  row_rest (suc n) f rest h = row_rest n f rest (All-tail P (f n) (row n f rest) h)

  row_at : (n : ℕ) (f : ℕ → Line) (rest : List Line) → All P (row n f rest) → (i : ℕ) → i < n → P (f i)
  row_at zero f rest h i l = absurd (omega (arith, l))
  row_at (suc n) f rest h i l = elim (below_or_last n i l) [
    | inl m ↦ row_at n f rest (All-tail P (f n) (row n f rest) h) i m
    | inr e ↦ subst (λ k. P (f k)) (sym e) (All-head P (f n) (row n f rest) h)
  ]

  all_grid : (m n : ℕ) (f : ℕ → ℕ → Line) (rest : List Line) → ((i j : ℕ) → i < m → j < n → P (f i j))
      → All P rest → All P (grid m n f rest)
  all_grid zero n f rest h k = k
  all_grid (suc m) n f rest h k = all_row n (f m) (grid m n f rest) (λ j l. h m j (omega arith) l)
      (all_grid m n f rest (λ i j a b. h i j (omega (arith, a)) b) k)

  grid_at : (m n : ℕ) (f : ℕ → ℕ → Line) (rest : List Line) → All P (grid m n f rest) → (i j : ℕ) → i < m
      → j < n → P (f i j)
  grid_at zero n f rest h i j l k = absurd (omega (arith, l))
  grid_at (suc m) n f rest h i j l k = elim (below_or_last m i l) [
    | inl a ↦ grid_at m n f rest (row_rest n (f m) (grid m n f rest) h) i j a k
    | inr e ↦ subst (λ z. P (f z j)) (sym e) (row_at n (f m) (grid m n f rest) h j k)
  ]

-- ---- the vertical lines through borders

abbrev upright : Pt → Line
upright p = record { a = pos 1; b = pos 0; c = p.x }

height-upright : (p : Pt) (s : Place) → height (upright p) s ≡ run (spot p) s
height-upright p s = solve (p.x ∷ s.x ∷ s.y ∷ s.w ∷ []) ((num (pos 1) ⊗ var 1 ⊕ num (pos 0) ⊗ var 2) ⊖ var 0 ⊗
    var 3) (var 1 ⊗ num (pos 1) ⊖ var 0 ⊗ var 3) refl

-- the vertical line through the place where two lines meet
abbrev crossing : Line → Line → Line
crossing k l = record { a = slant k l; b = pos 0; c = k.c *ℤ l.b -ℤ l.c *ℤ k.b }

-- a place on both has the x of that line
height-crossing : (k l : Line) (b s : Place) → height k b ≡ pos 0 → height l b ≡ pos 0
    → b.w *ℤ height (crossing k l) s ≡ slant k l *ℤ run b s
height-crossing k l b s hk hl =
    let e = both k l b s in
    let x : (l.b *ℤ s.w) *ℤ height k b ≡ pos 0 = ap (λ z. (l.b *ℤ s.w) *ℤ z) hk ∙ *ℤ-zero (l.b *ℤ s.w) in
    let y : (k.b *ℤ s.w) *ℤ height l b ≡ pos 0 = ap (λ z. (k.b *ℤ s.w) *ℤ z) hl ∙ *ℤ-zero (k.b *ℤ s.w) in
    omega (arith, linear)
  where
    both : (k l : Line) (b s : Place) → b.w *ℤ height (crossing k l) s ≡ slant k l *ℤ run b s +ℤ
        ((l.b *ℤ s.w) *ℤ height k b -ℤ (k.b *ℤ s.w) *ℤ height l b)
    both k l b s =
        let k' = line_e 0 in let l' = line_e 3 in let b' = place_e 6 in let s' = place_e 9 in
        solve (line_env k (line_env l (place_env b (place_env s []))))
        (b'.w ⊗ ((slant_e k' l' ⊗ s'.x ⊕ num (pos 0) ⊗ s'.y) ⊖ (k'.c ⊗ l'.b ⊖ l'.c ⊗ k'.b) ⊗ s'.w))
        (slant_e k' l' ⊗ (s'.x ⊗ b'.w ⊖ b'.x ⊗ s'.w) ⊕ ((l'.b ⊗ s'.w) ⊗ height_e k' b' ⊖
        (k'.b ⊗ s'.w) ⊗ height_e l' b')) refl

module _ {g : Sheet} {bars : List Bar} (d : IsDrawn g bars) where
  abbrev edges : ℕ
  edges = length g.edges

  -- of two edges: the vertical line through their meet, if they aren't parallel
  abbrev pick : Bool → Line → Line → Line
  pick true k l = k
  pick false k l = crossing k l

  abbrev pair : ℕ → ℕ → Line
  pair e k = pick (are_parallel g e k) (line_of g e) (line_of g k)

  abbrev vertical : ℕ → Line
  vertical v = upright (point_at g.images v)

  abbrev lines : List Line
  lines = row edges (line_of g) (row (length g.images) vertical (grid edges edges pair []))

  directed : (e : ℕ) → e < edges → HasDirection (line_of g e)
  directed e l = by_sign ((head g e).x -ℤ (tail g e).x)
      (λ n. inr (λ z. omega (arith, linear)))
      (λ x. inl (λ z. d.apart e l (λ i. record {
        x = same ((head g e).x) ((tail g e).x) x i;
        y = same_y (tail g e).y (head g e).y z i;
      })))
      (λ n. inr (λ z. omega (arith, linear)))
    where
      same : (a b : ℤ) → a -ℤ b ≡ pos 0 → b ≡ a
      same a b h = omega (arith, linear)

      same_y : (a b : ℤ) → a -ℤ b ≡ pos 0 → a ≡ b
      same_y a b h = omega (arith, linear)

  pair_directed : (e k : ℕ) → e < edges → k < edges → HasDirection (pair e k)
  pair_directed e k l m = by (are_parallel g e k) refl
    where
      by : (t : Bool) → are_parallel g e k ≡ t → HasDirection (pick t (line_of g e) (line_of g k))
      by true q = directed e l
      by false q = inl (λ z. true≢false (sym ((Decides-int_eq (slant (line_of g e) (line_of g k)) (pos 0)).1
          z) ∙ q))

  all_directed : All HasDirection lines
  all_directed = all_row HasDirection edges (line_of g) (row (length g.images) vertical
      (grid edges edges pair [])) directed
      (all_row HasDirection (length g.images) vertical (grid edges edges pair []) (λ v l. inl (λ z. one z))
      (all_grid HasDirection edges edges pair [] pair_directed (All-nil HasDirection)))
    where
      one : pos 1 ≡ pos 0 → ⊥
      one z = omega (arith, ints, z)

  -- the place is moved, off all these lines, and keeps to the sides of the edges' lines
  pub record IsMoved (s q : Place) : Type 0 where
    pub place : pos 0 <ℤ q.w
    pub keeps : (e : ℕ) → e < edges → KeepsSide s q (line_of g e)
    pub off : All (λ l. height l q ≢ pos 0) lines

  pub moved : (s : Place) → IsPlace s → (q : Place) × IsMoved s q
  moved s h =
      let m = moved_aside (row edges (line_of g) []) lines s h all_directed in
      (m.0, record { place = m.1; keeps = row_at (KeepsSide s m.0) edges (line_of g) [] m.2; off = m.3 })

  module _ (s q : Place) (m : IsMoved s q) where
    abbrev Off : Line → Type 0
    Off l = height l q ≢ pos 0

    off_line : (e : ℕ) → e < edges → height (line_of g e) q ≢ pos 0
    off_line = row_at Off edges (line_of g) (row (length g.images) vertical (grid edges edges pair [])) m.off

    off_vertical : (v : ℕ) → v < length g.images → height (vertical v) q ≢ pos 0
    off_vertical = row_at Off (length g.images) vertical (grid edges edges pair [])
        (row_rest Off edges (line_of g) (row (length g.images) vertical (grid edges edges pair [])) m.off)

    off_pair : (e k : ℕ) → e < edges → k < edges → height (pair e k) q ≢ pos 0
    off_pair = grid_at Off edges edges pair [] (row_rest Off (length g.images) vertical
        (grid edges edges pair []) (row_rest Off edges (line_of g)
        (row (length g.images) vertical (grid edges edges pair [])) m.off))

    no_border : (b : Place) → IsPlace b → IsOnBorder g b → run b q ≢ pos 0
    no_border b place (inl (v, l, e)) z = off_vertical v l (height-upright (point_at g.images v) q
        ∙ subst (λ p. run p q ≡ pos 0) e z)
    no_border b place (inr (e, k, c)) z =
        let f = height-crossing (line_of g e) (line_of g k) b q (from_on g e b c.on_first).on
        (from_on g k b c.on_second).on in
        let y : slant (line_of g e) (line_of g k) *ℤ run b q ≡ pos 0 = ap
        (λ x. slant (line_of g e) (line_of g k) *ℤ x) z ∙ *ℤ-zero (slant (line_of g e) (line_of g k)) in
        elim (zero_product b.w (height (crossing (line_of g e) (line_of g k)) q) (f ∙ y)) [
          | inl w ↦ (let p = place in omega (arith, linear))
          | inr x ↦ off_pair e k c.first c.second (subst (λ t. height (pick t (line_of g e) (line_of g k)) q ≡
              pos 0) (sym c.across) x)
        ]

    off_all : IsTrue (is_off g q)
    off_all = off_edges g q (λ e l on. off_line e l (from_on g e q on).on)

    -- a line of a face keeps to its side
    keeps_left : (f : ℕ) (l : Line) → IsStep g f l → pos 0 <ℤ height l s → pos 0 <ℤ height l q
    keeps_left f l st h = let e = d.step_edge f l st in let k = m.keeps e.0 e.1 in elim e.2 [
      | inl same ↦ (let a = same s in let b = same q in let c = k.left (omega (arith, linear)) in
          omega (arith, linear))
      | inr turned ↦ (let a = turned s in let b = turned q in let c = k.right (omega (arith, linear)) in
          omega (arith, linear))
    ]

    keeps_right : (f : ℕ) (l : Line) → IsStep g f l → height l s <ℤ pos 0 → height l q <ℤ pos 0
    keeps_right f l st h = let e = d.step_edge f l st in let k = m.keeps e.0 e.1 in elim e.2 [
      | inl same ↦ (let a = same s in let b = same q in let c = k.right (omega (arith, linear)) in
          omega (arith, linear))
      | inr turned ↦ (let a = turned s in let b = turned q in let c = k.left (omega (arith, linear)) in
          omega (arith, linear))
    ]

    pub stays_inside : (f : ℕ) → IsTrue (is_inside g f s) → IsTrue (is_inside g f q)
    stays_inside f t =
        let lt = face_below g f s t in
        let i = from_inside g f s (d.rings_some f lt) t in
        to_inside g f q lt (λ l st. keeps_left f l st (i.1 l st))

    was_inside : IsPlace s → IsTrue (is_off g s) → (f : ℕ) → IsTrue (is_inside g f q)
        → IsTrue (is_inside g f s)
    was_inside place off f t =
        let lt = face_below g f q t in
        elim (d.outside f s lt place off) [
          | inl u ↦ u
          | inr (l, st, low) ↦ (let i = (from_inside g f q (d.rings_some f lt) t).1 l st in
              let k = keeps_right f l st low in absurd (omega (arith, linear)))
        ]

    pub keeps_over : (f : ℕ) → Contains (over g s) f → Contains (over g q) f
    keeps_over f c = inside_over g q f (stays_inside f (over_inside g s f c))

    pub same_over : IsPlace s → IsTrue (is_off g s) → over g q ≡ over g s
    same_over place off = rising_equal (over g q) (over g s) (over_rising g q) (over_rising g s)
        (λ f. (λ c. inside_over g s f (was_inside place off f (over_inside g q f c)), keeps_over f))

    pub in_cell : 0 < length (over g s) → IsInCell g q
    in_cell some = record {
      place = m.place;
      between = no_border;
      off = off_all;
      some = (let f = some_member (over g s) some in member_some (over g q) f.0 (keeps_over f.0 f.1));
    }
