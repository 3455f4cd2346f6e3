-- One more pair of neighbours on the way to the next border.
use Rattle.std.proofs.Common.{ℕ, ◌≡◌, ◌≢◌, ◌⊎◌, inl, inr, ◌+◌, ◌-◌, ◌<◌, ◌≤◌, List, length, get_or, arith, refl, sym, ap, subst, ◌∙◌, pos, ◌<ℤ◌, ◌≤ℤ◌}
use Rattle.ff_whole.proofs.Signs.{linear}
use Rattle.ff_whole.specs.Places.{height, slant}
use Rattle.ff_whole.specs.declared.places.Place.{Place}
use Rattle.ff_cells.specs.declared.bars.Bar.{Bar}
use Rattle.ff_cells.specs.Gap.{run, gap}
use Rattle.ff_cells.specs.Start.{StartsBelow, ClosesAt}
use Rattle.ff_cells.specs.Next.{StartsUp, StaysUp, IsNext}
use Rattle.ff_cells.proofs.Gaps.{gap-inside}
use Rattle.ff_cells.proofs.Cuts.{run-trans_first}
use Rattle.ff_cells.proofs.Starts.{closes_at, gap_of_start, gap_of_parallel}

-- what holds of the pairs before i and of the one at i
one_more : (v : List Bar) (right : Place) (i : ℕ) (low high : Bar) → 1 ≤ i → i < length v
    → ((d : Bar) → low ≡ get_or v (i - 1) d) → ((d : Bar) → high ≡ get_or v i d) → StaysUp right v i
    → pos 0 ≤ℤ gap low.line high.line right → StaysUp right v (i + 1)
one_more v right i low high h lt lo hi stays g k d b = elim (split k i b) [
  | inl m ↦ stays k d m
  | inr e ↦
      (let at : k ≡ i - 1 = omega arith in let next : k + 1 ≡ i = e in
      subst (λ (b : Bar). pos 0 ≤ℤ gap b.line (get_or v (k + 1) d).line right)
      (lo d ∙ ap (λ j. get_or v j d) (sym at))
      (subst (λ (b : Bar). pos 0 ≤ℤ gap low.line b.line right) (hi d ∙ ap (λ j. get_or v j d) (sym next)) g))
]
  where
    split : (k i : ℕ) → k + 1 < i + 1 → (k + 1 < i) ⊎ (k + 1 ≡ i)
    split k i b = grind arith

starts_at : (v : List Bar) (left : Place) (i : ℕ) (low high : Bar) → 1 ≤ i → i < length v
    → ((d : Bar) → low ≡ get_or v (i - 1) d) → ((d : Bar) → high ≡ get_or v i d) → StartsUp left v
    → StartsBelow left low.line high.line
starts_at v left i low high h lt lo hi up =
    let next : (i - 1) + 1 ≡ i = omega arith in
    subst (λ (b : Bar). StartsBelow left b.line high.line) (sym (lo low))
    (subst (λ (b : Bar). StartsBelow left (get_or v (i - 1) low).line b.line)
    (ap (λ j. get_or v j low) next ∙ sym (hi low)) (up (i - 1) low (omega arith)))

pub next_same : (left limit : Place) (v : List Bar) (i : ℕ) (right : Place) (low high : Bar) → 1 ≤ i
    → i < length v → ((d : Bar) → low ≡ get_or v (i - 1) d) → ((d : Bar) → high ≡ get_or v i d)
    → pos 0 <ℤ left.w → pos 0 <ℤ right.w
    → StartsUp left v → IsNext left limit v i right → (pos 0 ≤ℤ gap low.line high.line right)
    ⊎ (slant low.line high.line ≡ pos 0) → IsNext left limit v (i + 1) right
next_same left limit v i right low high h lt lo hi hl hr up n o = record {
  ahead = n.ahead;
  within = n.within;
  from = n.from;
  stays = one_more v right i low high h lt lo hi n.stays (at o);
}
  where
    at : (pos 0 ≤ℤ gap low.line high.line right) ⊎ (slant low.line high.line ≡ pos 0)
        → pos 0 ≤ℤ gap low.line high.line right
    at (inl g) = g
    at (inr z) = gap_of_parallel low.line high.line left right hl hr
        (gap_of_start left low.line high.line (starts_at v left i low high h lt lo hi up)) z

pub next_nearer : (left limit : Place) (v : List Bar) (i : ℕ) (right m : Place) (low high : Bar) → 1 ≤ i
    → i < length v → ((d : Bar) → low ≡ get_or v (i - 1) d) → ((d : Bar) → high ≡ get_or v i d)
    → pos 0 <ℤ left.w → pos 0 <ℤ right.w → pos 0 <ℤ limit.w → pos 0 <ℤ m.w
    → StartsUp left v → IsNext left limit v i right → (gap low.line high.line right <ℤ pos 0)
    × (slant low.line high.line ≢ pos 0) × (height low.line m ≡ pos 0) × (height high.line m ≡ pos 0)
    → IsNext left limit v (i + 1) m
next_nearer left limit v i right m low high h lt lo hi hl hr hlim hm up n o = record {
  ahead = c.1;
  within = (let a = c.2 in let b = n.within in let t = run-trans_first m right limit hm hr hlim a b in
      omega (arith, linear));
  stays = one_more v m i low high h lt lo hi still (let z = c.0.meets in omega (arith, linear));
  from = inr (record {
    low = low;
    high = high;
    index = i - 1;
    within = (omega arith);
    low_is = lo low;
    high_is = hi high ∙ ap (λ j. get_or v j high) (let e : i ≡ (i - 1) + 1 = omega arith in e);
    closes = c.0;
  });
}
  where
    c : ClosesAt left m low.line high.line × (pos 0 <ℤ run left m) × (pos 0 <ℤ run m right)
    c = closes_at low.line high.line left right m low.ok.rising.rises hl hr hm n.ahead
        (starts_at v left i low high h lt lo hi up) o.0 o.2 o.3

    still : StaysUp m v i
    still k d b =
        let a = c.1 in let e = c.2 in
        gap-inside (get_or v k d).line (get_or v (k + 1) d).line left right m n.ahead (omega (arith, linear))
        (omega (arith, linear)) (gap_of_start left (get_or v k d).line (get_or v (k + 1) d).line
        (up k d (omega arith))) (n.stays k d b)

pub next_first : (left limit : Place) (v : List Bar) → pos 0 <ℤ run left limit → IsNext left limit v 1 limit
next_first left limit v h = record {
  ahead = h;
  within = same limit;
  stays = λ k d b. absurd (none k b);
  from = inl refl;
}
  where
    none : (k : ℕ) → k + 1 < 1 → ⊥
    none k b = omega arith

    same : (p : Place) → pos 0 ≤ℤ run p p
    same p = omega (arith, linear)

pub next_all : (left limit : Place) (v : List Bar) (i : ℕ) (right : Place) → length v ≤ i
    → IsNext left limit v i right → IsNext left limit v (length v) right
next_all left limit v i right h n = record {
  ahead = n.ahead;
  within = n.within;
  from = n.from;
  stays = λ k d b. n.stays k d (omega arith);
}
