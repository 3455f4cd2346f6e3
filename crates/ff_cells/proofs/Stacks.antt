-- From bars that stand in order at a border to slabs, gaps and cuts.
use Rattle.std.proofs.Common.{ℕ, zero, suc, ◌≡◌, ◌≢◌, ◌⊎◌, inl, inr, ◌+◌, ◌-◌, ◌<◌, ◌≤◌, List, length, get_or, arith, sym, ap, subst, ◌∙◌, pos, ◌*ℤ◌, ◌<ℤ◌, ◌≤ℤ◌, true, false}
use lib.IntN.{*ℤ-zero}
use Rattle.std.proofs.lemmas.Int.{ints}
use Rattle.std.proofs.lemmas.List.{get_or_default}
use Rattle.ff_whole.proofs.Signs.{linear, by_sign, pos-mul, pos-mul_neg}
use Rattle.ff_whole.specs.Places.{height}
use Rattle.ff_whole.specs.declared.lines.Line.{Line}
use Rattle.ff_whole.specs.declared.places.Place.{Place}
use Rattle.ff_cells.specs.declared.bars.Bar.{Bar}
use Rattle.ff_cells.specs.Gap.{run, gap, spot}
use Rattle.ff_cells.specs.Sheet.{Spans, IsSlab, IsUnder, IsGapOf, IsCut, IsInside, AreFaceBars, IsOpen, IsOver}
use Rattle.ff_cells.specs.Next.{StartsUp, StaysUp, IsNext, IsAmong, IsAfter, IsStrip}
use Rattle.ff_cells.proofs.Gaps.{gap-trans, gap-inside, gap-run, gap-height, under_upper}
use Rattle.ff_cells.proofs.Cuts.{run-opposite, run-trans_first, run-trans_last, spans_of_over, off_answers_at, open_of_inside}
use Rattle.ff_cells.proofs.Corners.{run-trans}
use Rattle.ff_cells.proofs.Starts.{gap_of_start}

no_gap : (k : Line) (p : Place) → pos 0 ≤ℤ gap k k p
no_gap k p = omega (arith, linear)

-- neighbours in order: all in order
pub in_order : (at : Place) (v : List Bar) → StaysUp at v (length v) → (n i : ℕ) (d : Bar) → i + n < length v
    → pos 0 ≤ℤ gap (get_or v i d).line (get_or v (i + n) d).line at
in_order at v up zero i d lt = let e : i + 0 ≡ i = omega arith in
    subst (λ j. pos 0 ≤ℤ gap (get_or v i d).line (get_or v j d).line at) (sym e)
    (no_gap (get_or v i d).line at)
in_order at v up (suc n) i d lt =
    let e : i + suc n ≡ i + n + 1 = omega arith in
    let a = get_or v i d in let b = get_or v (i + n) d in let c = get_or v (i + n + 1) d in
    subst (λ j. pos 0 ≤ℤ gap a.line (get_or v j d).line at) (sym e)
    (gap-trans a.line b.line c.line at a.ok.rising.rises b.ok.rising.rises c.ok.rising.rises
    (in_order at v up n i d (omega arith)) (up (i + n) d (omega arith)))

pub in_order_at : (at : Place) (v : List Bar) → StaysUp at v (length v) → (i j : ℕ) (d : Bar) → i ≤ j
    → j < length v → pos 0 ≤ℤ gap (get_or v i d).line (get_or v j d).line at
in_order_at at v up i j d le lt =
    let e : i + (j - i) ≡ j = omega arith in
    subst (λ k. pos 0 ≤ℤ gap (get_or v i d).line (get_or v k d).line at) e
    (in_order at v up (j - i) i d (omega arith))

pub stays_from_starts : (at : Place) (v : List Bar) → StartsUp at v → StaysUp at v (length v)
stays_from_starts at v up k d b = gap_of_start at (get_or v k d).line (get_or v (k + 1) d).line (up k d b)

-- a place over k and under l is in a gap that is open at a border
open_between : (k l : Line) (left right p : Place) → pos 0 <ℤ k.b → pos 0 <ℤ l.b → pos 0 <ℤ run left right
    → pos 0 ≤ℤ run left p → pos 0 ≤ℤ run p right → pos 0 ≤ℤ gap k l left → pos 0 ≤ℤ gap k l right
    → pos 0 <ℤ height k p → height l p <ℤ pos 0
    → (pos 0 <ℤ gap k l left) ⊎ (pos 0 <ℤ gap k l right)
open_between k l left right p hk hl wide a b f g over under =
    let e = gap-run k l left right p in
    let h = gap-height k l p in
    let u = pos-mul l.b (height k p) hl over in
    let v = pos-mul_neg k.b (height l p) hk under in
    let w = pos-mul (run left right) (gap k l p) wide (omega (arith, linear)) in
    by_sign (gap k l left) (λ n. absurd (omega (arith, linear)))
    (λ z. by_sign (gap k l right) (λ n. absurd (omega (arith, linear)))
    (λ y. (let s : run p right *ℤ gap k l left ≡ pos 0 = ap (λ t. run p right *ℤ t) z
    ∙ *ℤ-zero (run p right) in let t : run left p *ℤ gap k l right ≡ pos 0 = ap (λ t. run left p *ℤ t) y
    ∙ *ℤ-zero (run left p) in absurd (omega (arith, linear))))
    (λ n. inr n)) (λ n. inl n)

module _ {Has : Bar → Type 0} {from limit left right : Place} {v : List Bar}
    (strip : IsStrip Has from limit v) (left_positive : pos 0 <ℤ left.w) (right_positive : pos 0 <ℤ right.w)
    (after : pos 0 ≤ℤ run from left) (up : StartsUp left v) (next : IsNext left limit v (length v) right)
  where
    pub spans_all : (b : Bar) → Spans from limit b → Spans left right b
    spans_all b s = record {
      after = run-trans (spot b.lo) from left (omega (arith, ints)) strip.from_positive left_positive s.after
          after;
      before = run-trans right limit (spot b.hi) right_positive strip.limit_positive
          (omega (arith, ints)) next.within s.before;
    }

    quiet : (b : Bar) → Has b → Spans left right b ⊎ ((pos 0 ≤ℤ run (spot b.hi) left)
        ⊎ (pos 0 ≤ℤ run right (spot b.lo)))
    quiet b h = by_cases (strip.quiet b h)
      where
        by_cases : Spans from limit b ⊎ ((pos 0 ≤ℤ run (spot b.hi) from) ⊎ (pos 0 ≤ℤ run limit (spot b.lo)))
            → Spans left right b ⊎ ((pos 0 ≤ℤ run (spot b.hi) left) ⊎ (pos 0 ≤ℤ run right (spot b.lo)))
        by_cases (inl s) = inl (spans_all b s)
        by_cases (inr (inl e)) = inr (inl (run-trans (spot b.hi) from left
            (omega (arith, ints)) strip.from_positive left_positive e after))
        by_cases (inr (inr e)) = inr (inr (run-trans right limit
            (spot b.lo) right_positive strip.limit_positive
            (omega (arith, ints)) next.within e))

    -- the next border makes a slab
    pub slab_of : IsSlab Has left right
    slab_of = record {
      left_positive = left_positive;
      right_positive = right_positive;
      wide = next.ahead;
      quiet = quiet;
    }

    -- a bar that spans the slab spans the strip
    pub spans_strip : (b : Bar) → Has b → Spans left right b → Spans from limit b
    spans_strip b h s = by_cases (strip.quiet b h)
      where
        by_cases : Spans from limit b ⊎ ((pos 0 ≤ℤ run (spot b.hi) from) ⊎ (pos 0 ≤ℤ run limit (spot b.lo)))
            → Spans from limit b
        by_cases (inl t) = t
        by_cases (inr (inl e)) =
            let a = run-trans (spot b.hi) from left (omega (arith, ints)) strip.from_positive left_positive e
            after in
            let w = run-trans_last (spot b.hi) left right (omega (arith, ints)) left_positive right_positive a
            next.ahead in
            let o = run-opposite right (spot b.hi) in let t = s.before in
            absurd (omega (arith, linear))
        by_cases (inr (inr e)) =
            let a = run-trans right limit (spot b.lo) right_positive strip.limit_positive
            (omega (arith, ints)) next.within e in
            let w = run-trans_first left right (spot b.lo) left_positive right_positive
            (omega (arith, ints)) next.ahead a in
            let o = run-opposite (spot b.lo) left in let t = s.after in
            absurd (omega (arith, linear))

    pub below : (i j : ℕ) (d : Bar) → i ≤ j → j < length v → IsUnder left right (get_or v i d).line
        (get_or v j d).line
    below i j d le lt = record {
      at_left = in_order_at left v (stays_from_starts left v up) i j d le lt;
      at_right = in_order_at right v next.stays i j d le lt;
    }

    pub split : (n : ℕ) (b : Bar) → Has b → Spans left right b → IsAmong v n b ⊎ IsAfter v n b
    split n b h s = by_cases (strip.all b h (spans_strip b h s))
      where
        either : (k : ℕ) → (k < n) ⊎ (n ≤ k)
        either k = grind arith

        by_cases : (k : ℕ) × (k < length v) × (get_or v k b ≡ b) → IsAmong v n b ⊎ IsAfter v n b
        by_cases (k, lt, e) = elim (either k) [ inl a ↦ inl (k, lt, a, e) | inr a ↦ inr (k, lt, a, e) ]

    among_has : (n : ℕ) (b : Bar) → IsAmong v n b → Has b
    among_has n b (k, lt, a, e) = subst Has e (strip.only_has k b lt)

    after_has : (n : ℕ) (b : Bar) → IsAfter v n b → Has b
    after_has n b (k, lt, a, e) = subst Has e (strip.only_has k b lt)

    among_spans : (n : ℕ) (b : Bar) → IsAmong v n b → Spans left right b
    among_spans n b (k, lt, a, e) = spans_all b (subst (Spans from limit) e (strip.only_spans k b lt))

    after_spans : (n : ℕ) (b : Bar) → IsAfter v n b → Spans left right b
    after_spans n b (k, lt, a, e) = spans_all b (subst (Spans from limit) e (strip.only_spans k b lt))

    -- two neighbours that don't coincide have a gap between them
    pub gap_of : (n : ℕ) (k l : Bar) → n + 1 < length v → get_or v n k ≡ k → get_or v (n + 1) l ≡ l
        → (pos 0 <ℤ gap k.line l.line left) ⊎ (pos 0 <ℤ gap k.line l.line right)
        → IsGapOf Has (IsAmong v (n + 1)) (IsAfter v (n + 1)) left right k l
    gap_of n k l lt at_k at_l opens = record {
      each = split (n + 1);
      low_has = among_has (n + 1);
      high_has = after_has (n + 1);
      low_spans = among_spans (n + 1);
      high_spans = after_spans (n + 1);
      low = low;
      high = high;
      between = subst (λ (b : Bar). IsUnder left right k.line b.line) (get_or_default v (n + 1) k l lt ∙ at_l)
          (subst (λ (b : Bar). IsUnder left right b.line (get_or v (n + 1) k).line) at_k
          (below n (n + 1) k (omega arith) lt));
      opens = opens;
    }
      where
        low : (b : Bar) → IsAmong v (n + 1) b → IsUnder left right b.line k.line
        low b (i, ilt, a, e) =
            subst (λ (c : Bar). IsUnder left right c.line k.line) e
            (subst (λ (c : Bar). IsUnder left right (get_or v i b).line c.line)
            (get_or_default v n b k (omega arith) ∙ at_k) (below i n b (omega arith) (omega arith)))

        high : (b : Bar) → IsAfter v (n + 1) b → IsUnder left right l.line b.line
        high b (i, ilt, a, e) =
            subst (λ (c : Bar). IsUnder left right l.line c.line) e
            (subst (λ (c : Bar). IsUnder left right c.line (get_or v i b).line)
            (get_or_default v (n + 1) b l lt ∙ at_l) (below (n + 1) i b a ilt))

    -- ---- COMPLETE in a slab: a place off the bars' lines has a cut

    -- the first n bars are under the place, and those from n on over it
    pub record IsLevel (p : Place) (n : ℕ) : Type 0 where
      pub within : n ≤ length v
      pub low : (k : ℕ) (d : Bar) → k < n → pos 0 <ℤ height (get_or v k d).line p
      pub high : (k : ℕ) (d : Bar) → n ≤ k → k < length v → height (get_or v k d).line p <ℤ pos 0

    module _ (p : Place) (p_positive : pos 0 <ℤ p.w) (p_after : pos 0 <ℤ run left p)
        (p_before : pos 0 <ℤ run p right) (off : (k : ℕ) (d : Bar) → k < length v
        → height (get_or v k d).line p ≢ pos 0) where
      higher : (i j : ℕ) (d : Bar) → i ≤ j → j < length v → height (get_or v i d).line p <ℤ pos 0
          → height (get_or v j d).line p <ℤ pos 0
      higher i j d le lt h =
          let a = get_or v i d in let b = get_or v j d in
          let o = below i j d le lt in
          under_upper a.line b.line p a.ok.rising.rises b.ok.rising.rises
          (gap-inside a.line b.line left right p next.ahead (omega (arith, linear))
          (omega (arith, linear)) o.at_left o.at_right) h

      -- from the first n bars, which are under the place
      level_from : (m n : ℕ) → n + m ≡ length v → ((k : ℕ) (d : Bar) → k < n
          → pos 0 <ℤ height (get_or v k d).line p) → (d : Bar) → (c : ℕ) × IsLevel p c
      level_from zero n e low d = (
        n,
        record {
          within = omega arith;
          low = low;
          high = λ k f a b. absurd (beyond k a b);
        },
      )
        where
          beyond : (k : ℕ) → n ≤ k → k < length v → ⊥
          beyond k a b = omega arith
      level_from (suc m) n e low d = by_sign (height (get_or v n d).line p)
          (λ h. (
            n,
            record {
              within = omega arith;
              low = low;
              high = λ k f a b. higher n k f a b
                  (subst (λ (c : Bar). height c.line p <ℤ pos 0) (get_or_default v n d f (omega arith)) h);
            },
          ))
          (λ z. absurd (off n d (omega arith) z))
          (λ h. level_from m (n + 1) (omega arith) (λ k f a. more h k f a) d)
        where
          split_at : (k : ℕ) → k < n + 1 → (k < n) ⊎ (k ≡ n)
          split_at k a = grind arith

          more : pos 0 <ℤ height (get_or v n d).line p → (k : ℕ) (f : Bar) → k < n + 1
              → pos 0 <ℤ height (get_or v k f).line p
          more h k f a = elim (split_at k a) [
            | inl b ↦ low k f b
            | inr b ↦ subst
                (λ j. pos 0 <ℤ height (get_or v j f).line p) (sym b)
                (subst (λ (c : Bar). pos 0 <ℤ height c.line p) (get_or_default v n d f (omega arith)) h)
          ]

      pub cut_of_level : (n : ℕ) → IsLevel p n → IsCut Has (IsAmong v n) (IsAfter v n) left right p
      cut_of_level n l = record {
        positive = p_positive;
        after = p_after;
        before = p_before;
        each = split n;
        low_has = among_has n;
        high_has = after_has n;
        low_spans = among_spans n;
        high_spans = after_spans n;
        low = λ b m. subst (λ (c : Bar). pos 0 <ℤ height c.line p) m.3 (l.low m.0 b m.2);
        high = λ b m. subst (λ (c : Bar). height c.line p <ℤ pos 0) m.3 (l.high m.0 b m.2 m.1);
      }

      -- the gap that a place is in, if it is in a face
      pub record IsIn (n : ℕ) : Type 0 where
        pub low : Bar
        pub high : Bar
        pub within : n + 1 < length v
        pub low_is : get_or v n low ≡ low
        pub high_is : get_or v (n + 1) high ≡ high
        pub opens : (pos 0 <ℤ gap low.line high.line left) ⊎ (pos 0 <ℤ gap low.line high.line right)
        pub cut : IsCut Has (IsAmong v (n + 1)) (IsAfter v (n + 1)) left right p

      module _ {Step : ℕ → Line → Type 0} (sheet : AreFaceBars Has Step) where
        pub complete : (f : ℕ) → IsInside Step f p → (n : ℕ) × IsIn n
        complete f inside = first (sheet.around f p p_positive inside
            (λ b h e. off_answers_at slab_of p p_positive p_after p_before b h))
          where
            first : (i : Bar) × Has i × (i.lower ≡ true) × (i.face ≡ f) × IsOver i p → (n : ℕ) × IsIn n
            first (i, h, lower, e, over) = placed (level_from (length v) 0 (omega arith)
                (λ k d a. absurd (none k a)) i)
              where
                none : (k : ℕ) → k < 0 → ⊥
                none k a = omega arith

                placed : (c : ℕ) × IsLevel p c → (n : ℕ) × IsIn n
                placed (zero, l) = absurd (nobody (open_of_inside sheet slab_of (cut_of_level 0 l) f inside))
                  where
                    nobody : IsOpen (IsAmong v 0) f → ⊥
                    nobody o = none o.by_low.0 o.by_low.2
                placed (suc n, l) = over_it (sheet.closes i p p_positive
                    (λ b k q. off_answers_at slab_of p p_positive p_after p_before b k) h lower over)
                  where
                    next_is : suc n ≡ n + 1
                    next_is = omega arith

                    cut : IsCut Has (IsAmong v (n + 1)) (IsAfter v (n + 1)) left right p
                    cut = cut_of_level (n + 1) (subst (IsLevel p) next_is l)

                    last : (k : ℕ) → (k < length v) → n + 1 ≤ k → n + 1 < length v
                    last k a b = omega arith

                    over_it : (u : Bar) × Has u × (u.lower ≡ false) × (u.face ≡ i.face) × IsOver u p → (n : ℕ)
                        × IsIn n
                    over_it (u, hu, upper, same, over_u) = side
                        (cut.each u hu (spans_of_over sheet slab_of cut u hu over_u))
                      where
                        side : IsAmong v (n + 1) u ⊎ IsAfter v (n + 1) u → (n : ℕ) × IsIn n
                        side (inl m) = absurd (closed (open_of_inside sheet slab_of cut f inside))
                          where
                            closed : IsOpen (IsAmong v (n + 1)) f → ⊥
                            closed o = o.none u m upper (same ∙ e)
                        side (inr (k, a, b, at_u)) = (
                          n,
                          record {
                            low = get_or v n u;
                            high = get_or v (n + 1) u;
                            within = last k a b;
                            low_is = get_or_default v n (get_or v n u) u (let z = last k a b in omega arith);
                            high_is = get_or_default v (n + 1) (get_or v (n + 1) u) u (last k a b);
                            cut = cut;
                            opens = opens;
                          },
                        )
                          where
                            low_line : pos 0 <ℤ height (get_or v n u).line p
                            low_line = l.low n u (omega arith)

                            high_line : height (get_or v (n + 1) u).line p <ℤ pos 0
                            high_line = l.high (n + 1) u (omega arith) (last k a b)

                            opens : (pos 0 <ℤ gap (get_or v n u).line (get_or v (n + 1) u).line left)
                                ⊎ (pos 0 <ℤ gap (get_or v n u).line (get_or v (n + 1) u).line right)
                            opens =
                                let x = get_or v n u in let y = get_or v (n + 1) u in
                                let o = below n (n + 1) u (omega arith) (last k a b) in
                                open_between x.line y.line left right p x.ok.rising.rises y.ok.rising.rises
                                next.ahead (omega (arith, linear))
                                (omega (arith, linear)) o.at_left o.at_right low_line high_line
