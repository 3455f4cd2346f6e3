-- The next border to the right of a place, among bars that stand in order there.
-- For the proofs of this crate alone.
use Rattle.std.specs.Prelude.{ℕ, ◌≡◌, ◌⊎◌, ◌+◌, ◌<◌, ◌≤◌, List, length, slice_index_or, pos, ◌<ℤ◌, ◌≤ℤ◌, Bool, true, false, ◌&&◌, int_lt}
use Rattle.std.specs.List.{sum_by, count_by}
use Rattle.ff_whole.specs.Places.{slant}
use Rattle.ff_whole.specs.declared.places.Place.{Place}
use Rattle.ff_cells.specs.declared.bars.Bar.{Bar}
use Rattle.ff_cells.specs.Gap.{gap, run, spot}
use Rattle.ff_cells.specs.Sheet.{Spans}
use Rattle.ff_cells.specs.Start.{StartsBelow, ClosesAt}

-- each bar starts below the next
abbrev pub StartsUp : Place → List Bar → Type 0
StartsUp at v = (k : ℕ) (d : Bar) → k + 1 < length v
    → StartsBelow at (slice_index_or v k d).line (slice_index_or v (k + 1) d).line

-- the first n bars are still in order at right
abbrev pub StaysUp : Place → List Bar → ℕ → Type 0
StaysUp right v n = (k : ℕ) (d : Bar) → k + 1 < n
    → pos 0 ≤ℤ gap (slice_index_or v k d).line (slice_index_or v (k + 1) d).line right

-- two neighbours meet there
pub record Meeting (left right : Place) (v : List Bar) : Type 0 where
  pub low : Bar
  pub high : Bar
  pub index : ℕ
  pub within : index + 1 < length v
  pub low_is : low ≡ slice_index_or v index low
  pub high_is : high ≡ slice_index_or v (index + 1) high
  pub closes : ClosesAt left right low.line high.line

-- right is the limit, or the first place to the right of left where two neighbours meet
pub record IsNext (left limit : Place) (v : List Bar) (n : ℕ) (right : Place) : Type 0 where
  pub ahead : pos 0 <ℤ run left right
  pub within : pos 0 ≤ℤ run right limit
  pub stays : StaysUp right v n
  pub from : (right ≡ limit) ⊎ Meeting left right v

-- l is over k there, and comes down to it further right
abbrev pub approaches : Place → Bar → Bar → Bool
approaches at k l = int_lt (pos 0) (gap k.line l.line at) && int_lt (slant k.line l.line) (pos 0)

-- how many pairs have still to meet
abbrev pub pairs_left : Place → List Bar → ℕ
pairs_left at v = sum_by (λ k. count_by (approaches at k) v) v

-- b is one of the first n bars, or one of the others
abbrev pub IsAmong : List Bar → ℕ → Bar → Type 0
IsAmong v n b = (k : ℕ) × (k < length v) × (k < n) × (slice_index_or v k b ≡ b)

-- the bar stands at the place n or later
abbrev pub IsAfter : List Bar → ℕ → Bar → Type 0
IsAfter v n b = (k : ℕ) × (k < length v) × (n ≤ k) × (slice_index_or v k b ≡ b)

-- the bars that span from one end of bars to the next
pub record IsStrip (Has : Bar → Type 0) (from limit : Place) (v : List Bar) : Type 0 where
  pub from_positive : pos 0 <ℤ from.w
  pub limit_positive : pos 0 <ℤ limit.w
  pub quiet : (b : Bar) → Has b → Spans from limit b
      ⊎ ((pos 0 ≤ℤ run (spot b.hi) from) ⊎ (pos 0 ≤ℤ run limit (spot b.lo)))
  pub all : (b : Bar) → Has b → Spans from limit b → (k : ℕ) × (k < length v) × (slice_index_or v k b ≡ b)
  pub only_has : (k : ℕ) (d : Bar) → k < length v → Has (slice_index_or v k d)
  pub only_spans : (k : ℕ) (d : Bar) → k < length v → Spans from limit (slice_index_or v k d)

-- of the first n bars, the last of the face n is a lower one
pub record IsOpenAfter (v : List Bar) (n f : ℕ) : Type 0 where
  pub at : ℕ
  pub by : Bar
  pub within : at < length v
  pub first : at < n
  pub by_is : slice_index_or v at by ≡ by
  pub by_lower : by.lower ≡ true
  pub by_face : by.face ≡ f
  pub none : (k : ℕ) (d : Bar) → at < k → k < n → k < length v → (slice_index_or v k d).face ≡ f
      → (slice_index_or v k d).lower ≡ false → ⊥
