-- The cells of a slab are exact: each has the faces over it, and each set there has its cell.
use Rattle.std.proofs.Common.{ℕ, zero, suc, ◌≡◌, ◌≢◌, ◌⊎◌, ◌↔◌, inl, inr, ◌+◌, ◌-◌, ◌<◌, List, [], ◌∷◌, ◌++◌, length, get_or, arith, refl, sym, ap, subst, ◌∙◌, pos, ◌<ℤ◌, ◌≤ℤ◌}
use Rattle.std.specs.List.{Contains}
use Rattle.std.proofs.lemmas.List.{get_or_default}
use Rattle.std.proofs.lemmas.List.Elements.{Contains-append_left, Contains-append_right}
use Rattle.ff_whole.proofs.Signs.{linear}
use Rattle.ff_whole.specs.Places.{height}
use Rattle.ff_whole.specs.declared.lines.Line.{Line}
use Rattle.ff_whole.specs.declared.places.Place.{Place}
use Rattle.ff_cells.specs.declared.bars.Bar.{Bar}
use Rattle.ff_cells.specs.declared.cell.Cell.{Cell}
use Rattle.ff_cells.specs.Gap.{run, gap}
use Rattle.ff_cells.specs.Sheet.{Spans, IsSlab, IsGapOf, IsCut, IsInside, AreFaceBars, IsOpen, IsWitness, total}
use Rattle.ff_cells.specs.Next.{StartsUp, IsNext, IsAmong, IsAfter, IsStrip, IsOpenAfter}
use Rattle.ff_cells.specs.Emits.{IsCellAt, HasNone, IsEmitted}
use Rattle.ff_cells.proofs.Cuts.{inside_of_open, open_of_inside}
use Rattle.ff_cells.proofs.Corners.{middle_cut, witness}
use Rattle.ff_cells.proofs.Stacks as stacks
use Rattle.ff_cells.proofs.Tidy.{open_of_after, after_of_open}

pub emitted_complete : (v : List Bar) (left right : Place) (n : ℕ) (cs : List Cell)
    → IsEmitted v left right n cs → (m : ℕ) → m < n → HasNone v left right m
    ⊎ ((c : Cell) × Contains cs c × IsCellAt v left right m c)
emitted_complete v left right zero cs e m lt = absurd (omega arith)
emitted_complete v left right (suc n) cs e m lt = by_cases e (either m n lt)
    (λ zs f a. emitted_complete v left right n zs f m a)
  where
    either : (m n : ℕ) → m < suc n → (m < n) ⊎ (m ≡ n)
    either m n lt = grind arith

    by_cases : (IsEmitted v left right n cs × HasNone v left right n)
        ⊎ ((before : List Cell) × (c : Cell) × (cs ≡ before ++ c ∷ []) × IsEmitted v left right n before
        × IsCellAt v left right n c) → (m < n) ⊎ (m ≡ n) → ((zs : List Cell) → IsEmitted v left right n zs
        → m < n → HasNone v left right m ⊎ ((c : Cell) × Contains zs c × IsCellAt v left right m c))
        → HasNone v left right m ⊎ ((c : Cell) × Contains cs c × IsCellAt v left right m c)
    by_cases (inl (f, none)) (inl a) again = again cs f a
    by_cases (inl (f, none)) (inr a) again = inl (subst (HasNone v left right) (sym a) none)
    by_cases (inr (before, c, is, f, cell)) (inl a) again = elim (again before f a) [
      | inl none ↦ inl none
      | inr h ↦ inr (
        h.0,
        subst (λ zs. Contains zs h.0) (sym is)
            (Contains-append_left before (c ∷ []) h.0 h.1),
        h.2,
      )
    ]
    by_cases (inr (before, c, is, f, cell)) (inr a) again = inr (
      c,
      subst (λ zs. Contains zs c) (sym is) (Contains-append_right before (c ∷ []) c
          (0, omega arith, refl)),
      subst (λ k. IsCellAt v left right k c) (sym a) cell,
    )

module _ {Has : Bar → Type 0} {Step : ℕ → Line → Type 0} {from limit left right : Place} {v : List Bar}
    (sheet : AreFaceBars Has Step) (strip : IsStrip Has from limit v) (left_positive : pos 0 <ℤ left.w)
    (right_positive : pos 0 <ℤ right.w)
    (after : pos 0 ≤ℤ run from left) (up : StartsUp left v) (next : IsNext left limit v (length v) right)
  where
    pub slab : IsSlab Has left right
    slab = stacks.slab_of strip left_positive right_positive after up next

    open_iff : (n f : ℕ) → IsOpenAfter v n f ↔ IsOpen (IsAmong v n) f
    open_iff n f =
        let spans : (k : ℕ) (d : Bar) → k < length v → Spans left right (get_or v k d) =
        (λ k d lt. stacks.spans_all strip left_positive right_positive after up next (get_or v k d)
        (strip.only_spans k d lt)) in
        let b = stacks.below strip left_positive right_positive after up next in (
          open_of_after sheet slab strip.only_has spans b n f,
          after_of_open sheet slab strip.only_has spans b n
              f,
        )

    -- the gap of a cell, and the cut at the middle of its corners
    pub number : (m : ℕ) (c : Cell) → IsCellAt v left right m c → (m - 1) + 1 ≡ m
    number m c h = let a = h.first in omega (arith, a)

    pub gap_is : (m : ℕ) (c : Cell) (h : IsCellAt v left right m c)
        → IsGapOf Has (IsAmong v ((m - 1) + 1)) (IsAfter v ((m - 1) + 1)) left right h.low h.high
    gap_is m c h = let back = number m c h in
        stacks.gap_of strip left_positive right_positive after up next (m - 1) h.low h.high
        (let a = h.within in
        let b = h.first in omega arith) (h.low_is (m - 1) back)
        (ap (λ k. get_or v k h.high) back ∙ h.high_is) h.opens

    pub cut_is : (m : ℕ) (c : Cell) (h : IsCellAt v left right m c)
        → IsCut Has (IsAmong v ((m - 1) + 1)) (IsAfter v ((m - 1) + 1)) left right
        (total h.low_left h.low_right h.top)
    cut_is m c h = middle_cut slab (gap_is m c h) h.corners

    -- what a cell says of its gap
    pub record IsExact (c : Cell) : Type 0 where
      pub place : Place
      pub low_left : Place
      pub low_right : Place
      pub top : Place
      pub at_is : c.at ≡ low_left ∷ low_right ∷ top ∷ []
      pub place_is : place ≡ total low_left low_right top
      pub inside : (f : ℕ) → Contains c.faces f ↔ IsInside Step f place
      pub witness : (f : ℕ) (l : Line) → Contains c.faces f → Step f l → IsWitness l low_left low_right top

    -- each cell's faces are those over the middle of its corners, and its corners witness them
    pub sound : (m : ℕ) (c : Cell) → IsCellAt v left right m c → IsExact c
    sound m c h = record {
      place = total h.low_left h.low_right h.top;
      low_left = h.low_left;
      low_right = h.low_right;
      top = h.top;
      at_is = h.at_is;
      place_is = refl;
      inside = λ f. (
        λ k. inside_of_open sheet slab cut f (opened f k),
        λ i. (h.faces f).1 ((open_iff m f).1 (subst (λ n. IsOpen (IsAmong v n) f) back
            (open_of_inside sheet slab cut f i))),
      );
      witness = λ f l k st. witness slab (gap_is m c h) h.corners sheet f l (opened f k) st;
    }
      where
        back : (m - 1) + 1 ≡ m
        back = number m c h

        cut : IsCut Has (IsAmong v ((m - 1) + 1)) (IsAfter v ((m - 1) + 1)) left right
            (total h.low_left h.low_right h.top)
        cut = cut_is m c h

        opened : (f : ℕ) → Contains c.faces f → IsOpen (IsAmong v ((m - 1) + 1)) f
        opened f k = subst (λ n. IsOpen (IsAmong v n) f) (sym back) ((open_iff m f).0 ((h.faces f).0 k))

    -- the place is in the gap of a cell of the list
    pub record IsPlaced (cs : List Cell) (p : Place) : Type 0 where
      pub cell : Cell
      pub there : Contains cs cell
      pub gap_number : ℕ
      pub at : IsCellAt v left right gap_number cell
      pub cut : IsCut Has (IsAmong v gap_number) (IsAfter v gap_number) left right p

    -- so its faces are exactly those over the place
    pub placed_faces : (cs : List Cell) (p : Place) (w : IsPlaced cs p) → (f : ℕ)
        → Contains w.cell.faces f ↔ IsInside Step f p
    placed_faces cs p w f = (
      λ k. inside_of_open sheet slab w.cut f
          ((open_iff w.gap_number f).0 ((w.at.faces f).0 k)),
      λ k. (w.at.faces f).1
          ((open_iff w.gap_number f).1 (open_of_inside sheet slab w.cut f k)),
    )

    -- the same, of the corners as the cell's gap has them
    pub sound_faces : (m : ℕ) (c : Cell) (h : IsCellAt v left right m c) → (f : ℕ)
        → Contains c.faces f ↔ IsInside Step f (total h.low_left h.low_right h.top)
    unfolding sound
    sound_faces m c h f = (sound m c h).inside f

    pub sound_witness : (m : ℕ) (c : Cell) (h : IsCellAt v left right m c) → (f : ℕ) (l : Line)
        → Contains c.faces f → Step f l → IsWitness l h.low_left h.low_right h.top
    unfolding sound
    sound_witness m c h f l k st = (sound m c h).witness f l k st

    pub low_among : (m : ℕ) (c : Cell) (h : IsCellAt v left right m c) → IsAmong v ((m - 1) + 1) h.low
    low_among m c h = (
      m - 1,
      (let a = h.within in omega (arith, a)),
      omega arith,
      h.low_is (m - 1) (number m c h),
    )

    pub high_after : (m : ℕ) (c : Cell) (h : IsCellAt v left right m c) → IsAfter v ((m - 1) + 1) h.high
    high_after m c h = (m, h.within, (let b = number m c h in omega (arith, b)), h.high_is)

    -- each place of the slab off the bars' lines that is in a face is in a gap whose cell has exactly the
    -- faces over the place
    pub all : (cs : List Cell) → IsEmitted v left right (length v) cs → (p : Place) → pos 0 <ℤ p.w
        → pos 0 <ℤ run left p → pos 0 <ℤ run p right → ((k : ℕ) (d : Bar) → k < length v
        → height (get_or v k d).line p ≢ pos 0)
        → (f : ℕ) → IsInside Step f p → IsPlaced cs p
    all cs emitted p hp pa pb off f inside = found (stacks.complete strip left_positive right_positive
        after up
        next p hp pa pb off sheet f inside)
      where
        found : (n : ℕ) × stacks.IsIn strip left_positive right_positive after up next p hp pa pb off n
            → IsPlaced cs p
        found (n, i) = by_cases (emitted_complete v left right (length v) cs emitted (n + 1) i.within)
          where
            is_open : IsOpenAfter v (n + 1) f
            is_open = (open_iff (n + 1) f).1 (open_of_inside sheet slab i.cut f inside)

            none : HasNone v left right (n + 1) → ⊥
            none (inl e) = omega arith
            none (inr (inl h)) = h f is_open
            none (inr (inr h)) = same (h n refl i.low) i.opens
              where
                same : (gap (get_or v n i.low).line (get_or v (n + 1) i.low).line left ≡ pos 0)
                    × (gap (get_or v n i.low).line (get_or v (n + 1) i.low).line right ≡ pos 0)
                    → (pos 0 <ℤ gap i.low.line i.high.line left) ⊎ (pos 0 <ℤ gap i.low.line i.high.line right)
                    → ⊥
                same (a, b) o =
                    let hi : get_or v (n + 1) i.low ≡ i.high = get_or_default v (n + 1) i.low i.high i.within
                    ∙ i.high_is in
                    let a' : gap i.low.line i.high.line left ≡ pos 0 = subst
                    (λ (x : Bar). gap x.line i.high.line left ≡ pos 0) i.low_is
                    (subst (λ (y : Bar). gap (get_or v n i.low).line y.line left ≡ pos 0) hi a) in
                    let b' : gap i.low.line i.high.line right ≡ pos 0 = subst
                    (λ (x : Bar). gap x.line i.high.line right ≡ pos 0) i.low_is
                    (subst (λ (y : Bar). gap (get_or v n i.low).line y.line right ≡ pos 0) hi b) in
                    elim o [ inl z ↦ omega (arith, linear) | inr z ↦ omega (arith, linear) ]

            by_cases : HasNone v left right (n + 1) ⊎ ((c : Cell) × Contains cs c
                × IsCellAt v left right (n + 1) c) → IsPlaced cs p
            by_cases (inl h) = absurd (none h)
            by_cases (inr (c, m, cell)) = record {
              cell = c;
              there = m;
              gap_number = n + 1;
              at = cell;
              cut = i.cut;
            }
