-- One more slab of a strip.
use Rattle.std.proofs.Common.{ℕ, zero, suc, ◌≡◌, ◌+◌, ◌<◌, ◌≤◌, List, [], ◌++◌, append_assoc, append-nil, length, get_or, arith, refl, sym, subst, pos, ◌<ℤ◌, true, false, Ordering}
use Rattle.std.proofs.Common.Ordering.{Less, Equal, Greater}
use Rattle.std.specs.Bool.{◌==◌}
use Rattle.std.specs.Ordering.{is_lt, ordering_index}
use Rattle.std.specs.List.Sorted.{IsPermutation}
use Rattle.ff_whole.specs.declared.places.Place.{Place}
use Rattle.ff_cells.specs.Before.{x_before}
use Rattle.ff_cells.specs.declared.bars.Bar.{Bar}
use Rattle.ff_cells.specs.declared.cell.Cell.{Cell}
use Rattle.ff_cells.specs.Gap.{run}
use Rattle.ff_cells.specs.Sheet.{IsUnder}
use Rattle.ff_cells.specs.Next.{StartsUp, IsNext}
use Rattle.ff_cells.specs.Emits.{IsEmitted}
use Rattle.ff_cells.specs.Swept.{IsSwept, IsSlabOf}
use Rattle.std.proofs.Common.{ℤ, ◌-◌, filter}
use Rattle.std.proofs.lemmas.Bool.Decides.{nat_tests}
use Rattle.ff_types.specs.declared.refusals.Refusal.TheVariants.{TooMany}
use Rattle.ff_types.specs.declared.refusals.What.TheVariants.{Cells}
use Rattle.std.proofs.lemmas.List.Sorted.{IsPermutation-trans}
use Rattle.ff_types.specs.declared.refusals.No.{No}
use Rattle.ff_types.specs.declared.refusals.No.TheVariants.{Refused, NoMemory}
use Rattle.ff_types.specs.declared.limits.TheConstants.{MOST_CELLS}
use Rattle.ff_cells.specs.declared.found.Found.{Found}
use Rattle.ff_cells.specs.Tally.{capped, IsTally, Adds, StaysFew}
use Rattle.ff_cells.specs.Stopped.{IsStopped, IsSweptBetween, AreSwept, AreStopped}
use Rattle.ff_cells.specs.Strip.{spans_strip, at_x, IsCells}
use Rattle.ff_cells.proofs.Ends.{IsStartSorted, starts_up, run_of_before, to_go, next_is_less}
use Rattle.ff_cells.proofs.Stacks.{in_order_at, stays_from_starts}

-- from the border on to the next, as the two calls give it
pub next_of : (left limit right : Place) (w u : List Bar) → pos 0 <ℤ left.w → x_before left limit ≡ true
    → IsStartSorted left w → u ≡ w
    → ((l : Place) → pos 0 <ℤ l.w → StartsUp l u → pos 0 <ℤ run l limit → IsNext l limit u (length u) right)
    → IsNext left limit w (length w) right
next_of left limit right w u hl go sorted e next =
    subst (λ z. IsNext left limit z (length z) right) e (next left hl
    (subst (StartsUp left) (sym e) (starts_up left w sorted)) (run_of_before left limit go))

pub all_below : (left limit right : Place) (w u : List Bar) → IsStartSorted left w
    → IsNext left limit w (length w) right → u ≡ w → (i j : ℕ) (d : Bar) → i ≤ j → j < length u
    → IsUnder left right (get_or u i d).line (get_or u j d).line
all_below left limit right w u sorted n e = subst (λ z. (i j : ℕ) (d : Bar) → i ≤ j → j < length z
    → IsUnder left right (get_or z i d).line (get_or z j d).line) (sym e)
    (λ i j d le lt. record {
      at_left = in_order_at left w (stays_from_starts left w (starts_up left w sorted))
          i j d le lt;
      at_right = in_order_at right w n.stays i j d le lt;
    })

-- a slab with its cells, as the calls give them
pub slab_done : (bars : List Bar) (limit left right : Place) (w u : List Bar) (more : List Cell)
    → IsPermutation bars w → pos 0 <ℤ left.w → pos 0 <ℤ right.w → IsStartSorted left w
    → IsNext left limit w (length w) right → u ≡ w
    → IsEmitted u left right (length u) more → IsSlabOf bars limit left right more
slab_done bars limit left right w u more same hl hr sorted next e emitted =
    record {
      stack = w;
      same = same;
      positive = hl;
      ends = hr;
      starts = starts_up left w sorted;
      next = next;
      emitted = subst (λ z. IsEmitted z left right (length z) more) e emitted;
    }

-- the order of a strip's bars doesn't count
pub slab_same : (bars other : List Bar) (limit left right : Place) (cs : List Cell) → IsPermutation bars other
    → IsSlabOf other limit left right cs → IsSlabOf bars limit left right cs
slab_same bars other limit left right cs same s =
    record {
      stack = s.stack;
      same = IsPermutation-trans bars other s.stack same s.same;
      positive = s.positive;
      ends = s.ends;
      starts = s.starts;
      next = s.next;
      emitted = s.emitted;
    }

pub swept_same : (bars other : List Bar) (from limit : Place) (n : ℕ) (left : Place) (cs : List Cell)
    → IsPermutation bars other → IsSwept other from limit n left cs → IsSwept bars from limit n left cs
swept_same bars other from limit zero left cs same s = s
swept_same bars other from limit (suc n) left cs same (prev, before, more, is, swept, slab) = (
  prev,
  before,
  more,
  is,
  swept_same bars other from limit n prev before same swept,
  slab_same bars other limit prev left more same slab,
)

pub between_same : (bars : List Bar) (a c : ℤ) (other : List Bar) (old new : Found) (from limit : Place)
    → from ≡ at_x a → limit ≡ at_x c → IsPermutation (filter (spans_strip a c) bars) other
    → (n : ℕ) × (last : Place) × (more : List Cell) × Adds old more new × StaysFew old new
    × (x_before last limit ≡ false) × IsSwept other from limit n last more
    → IsSweptBetween bars a c old new
between_same bars a c other old new from limit f l same (n, last, more, adds, few, past, swept) = (
  n,
  last,
  more,
  adds,
  few,
  subst (λ t. x_before last t ≡ false) l past,
  swept_same (filter (spans_strip a c) bars) other (at_x a) (at_x c) n last more same
      (subst (λ t. IsSwept other (at_x a) t n last more) l
      (subst (λ t. IsSwept other t limit n last more) f swept)),
)

stopped_same : (bars other : List Bar) (from limit : Place) (old : Found) (why : No) → IsPermutation bars other
    → IsStopped other from limit old why → IsStopped bars from limit old why
stopped_same bars other from limit old NoMemory same s = tt
stopped_same bars other from limit old (Refused r) same (is, s) = (
  is,
  λ all t. let u = s all t in (u.0, u.1, u.2, swept_same bars other from limit u.0 u.1 u.2 same u.3, u.4),
)

pub stopped_between : (bars : List Bar) (a c : ℤ) (other : List Bar) (from limit : Place) (old : Found) (why : No)
    → from ≡ at_x a → limit ≡ at_x c → IsPermutation (filter (spans_strip a c) bars) other
    → IsStopped other from limit old why → IsStopped (filter (spans_strip a c) bars) (at_x a) (at_x c) old why
stopped_between bars a c other from limit old why f l same s =
    stopped_same (filter (spans_strip a c) bars) other (at_x a) (at_x c) old why same
    (subst (λ t. IsStopped other (at_x a) t old why) l (subst (λ t. IsStopped other t limit old why) f s))

pub adds_both : (a b c : Found) (xs ys : List Cell) → Adds a xs b → Adds b ys c → Adds a (xs ++ ys) c
adds_both a b c xs ys f g all t = subst (λ zs. IsTally zs c) (append_assoc all xs ys)
    (g (all ++ xs) (f all t))

-- the slabs so far
abbrev pub Swept : List Bar → Place → Place → Place → Found → Found → Type 0
Swept bars from limit left start found = (n : ℕ) × (more : List Cell) × Adds start more found
    × IsSwept bars from limit n left more

pub swept_one : (bars : List Bar) (from limit left right : Place) (start mid found : Found)
    → (more : List Cell) × Adds mid more found × IsSlabOf bars limit left right more
    → Swept bars from limit left start mid → Swept bars from limit right start found
swept_one bars from limit left right start mid found (more, a, slab) (n, before, b, swept) = (
  suc n,
  before ++ more,
  adds_both start mid found before more b a,
  (left, before, more, refl, swept, slab),
)

pub not_less : (r : Ordering) → (ordering_index r == 0) ≡ false → is_lt r ≡ false
not_less Less h = h
not_less Equal h = refl
not_less Greater h = refl

-- one more strip
pub strips_one : (bars : List Bar) (xs : List ℤ) (j : ℕ) (mid found : Found) → 0 < j
    → IsSweptBetween bars (get_or xs (j - 1) (pos 0)) (get_or xs j (pos 0)) mid found
    → AreSwept bars xs (j - 1) mid → AreSwept bars xs j found
strips_one bars xs zero mid found one s c = absurd (omega (arith, one))
strips_one bars xs (suc j) mid found one s (before, b, cells, few) =
    let back : suc j - 1 ≡ j = omega arith in
    let up : suc j ≡ j + 1 = omega arith in
    let t : IsSweptBetween bars (get_or xs j (pos 0)) (get_or xs (j + 1) (pos 0)) mid found = subst
    (λ k. IsSweptBetween bars (get_or xs j (pos 0)) (get_or xs k (pos 0)) mid found) up
    (subst (λ k. IsSweptBetween bars (get_or xs k (pos 0)) (get_or xs (suc j) (pos 0)) mid found) back
    s) in (
      before ++ t.2,
      t.3 before b,
      (before, t.2, refl, subst (λ k. IsCells bars xs k before) back cells, t.0, t.1, t.5, t.6),
      t.4 few,
    )

-- a strip in which too many cells are found
pub strips_stopped : (bars : List Bar) (xs : List ℤ) (j : ℕ) (mid : Found) (why : No) → 0 < j → j < length xs
    → IsStopped (filter (spans_strip (get_or xs (j - 1) (pos 0)) (get_or xs j (pos 0))) bars)
    (at_x (get_or xs (j - 1) (pos 0))) (at_x (get_or xs j (pos 0))) mid why
    → AreSwept bars xs (j - 1) mid → AreStopped bars xs why
strips_stopped bars xs zero mid why one lt s c = absurd (omega (arith, one))
strips_stopped bars xs (suc j) mid NoMemory one lt s c = tt
strips_stopped bars xs (suc j) mid (Refused r) one lt (is, s) (before, b, cells, few) =
    let back : suc j - 1 ≡ j = omega arith in
    let up : suc j ≡ j + 1 = omega arith in
    let s' = s before b in
    let swept = subst (λ k. IsSwept (filter (spans_strip (get_or xs j (pos 0)) (get_or xs k (pos 0))) bars)
    (at_x (get_or xs j (pos 0))) (at_x (get_or xs k (pos 0))) s'.0 s'.1 s'.2) up
    (subst (λ k. IsSwept (filter (spans_strip (get_or xs k (pos 0)) (get_or xs (suc j) (pos 0))) bars)
    (at_x (get_or xs k (pos 0))) (at_x (get_or xs (suc j) (pos 0))) s'.0 s'.1 s'.2) back s'.3) in (
      is,
      (
        before ++ s'.2,
        record {
          strips = j;
          within = omega (arith, lt);
          before = before;
          more = s'.2;
          cells_are = refl;
          done = subst (λ k. IsCells bars xs k before) back cells;
          slabs = s'.0;
          last = s'.1;
          begun = swept;
        },
        s'.4,
      ),
    )

-- a number that is counted past its limit is past it
pub past_cap : (most n : ℕ) → most < capped most n → most < n
past_cap most n h = grind (arith, nat_tests, h)

pub too_many_found : (bars : List Bar) (from limit right : Place) (start found : Found) (why : No)
    → Swept bars from limit right start found → MOST_CELLS < found.count
    → why ≡ Refused (TooMany Cells MOST_CELLS) → IsStopped bars from limit start why
too_many_found bars from limit right start found why (n, more, adds, swept) over is = subst
    (IsStopped bars from limit start) (sym is) (
      refl,
      λ all t. (
        n,
        right,
        more,
        swept,
        past_cap MOST_CELLS (length (all ++ more))
            (subst (λ k. MOST_CELLS < k) (adds all t).count over),
      ),
    )

-- the sweep comes nearer to its end
pub slab_is_less : (bars active : List Bar) (limit left right : Place) (cs : List Cell) → pos 0 <ℤ right.w
    → x_before left limit ≡ true → IsPermutation bars active → IsSlabOf active limit left right cs
    → to_go right limit bars < to_go left limit bars
slab_is_less bars active limit left right cs hr go same s =
    next_is_less left limit right bars s.stack s.positive hr go
    (IsPermutation-trans bars active s.stack same s.same) s.next
