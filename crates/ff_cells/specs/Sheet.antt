-- The image as bars and as its faces' lines, slabs of it, and cuts across a slab.
use Rattle.std.specs.Prelude.{ℕ, ◌≡◌, ◌≢◌, ◌⊎◌, pos, ◌+ℤ◌, ◌<ℤ◌, ◌≤ℤ◌, true, false, if◌then◌else◌}
use Rattle.ff_whole.specs.Places.{height}
use Rattle.ff_whole.specs.Sizes.{IsSmallPlace}
use Rattle.ff_whole.specs.declared.lines.Line.{Line}
use Rattle.ff_whole.specs.declared.places.Place.{Place}
use Rattle.ff_cells.specs.declared.bars.Bar.{Bar}
use Rattle.ff_cells.specs.Gap.{spot, run, gap, opposite}

-- the bar's line with its face on the left
abbrev pub face_line : Bar → Line
face_line b = if b.lower then b.line else opposite b.line

-- the x of p is strictly between the ends
pub record IsOver (b : Bar) (p : Place) : Type 0 where
  pub after : pos 0 <ℤ run (spot b.lo) p
  pub before : pos 0 <ℤ run p (spot b.hi)

-- the bar goes from border to border, or further
pub record Spans (left right : Place) (b : Bar) : Type 0 where
  pub after : pos 0 ≤ℤ run (spot b.lo) left
  pub before : pos 0 ≤ℤ run right (spot b.hi)

-- p is strictly on the left of each line of the face, which has one
abbrev pub IsInside : (ℕ → Line → Type 0) → ℕ → Place → Type 0
IsInside Step n p = ((f : Line) × Step n f) × ((f : Line) → Step n f → pos 0 <ℤ height f p)

-- Step n f: f is the line of a ring edge of the face n, with the face on its left. Has b: b is one of those
-- edges that isn't vertical.
pub record AreFaceBars (Has : Bar → Type 0) (Step : ℕ → Line → Type 0) : Type 0 where
  pub step : (b : Bar) → Has b → Step b.face (face_line b)
  pub convex : (b : Bar) (f : Line) → Has b → Step b.face f → (pos 0 ≤ℤ height f (spot b.lo))
      × (pos 0 ≤ℤ height f (spot b.hi))
  pub way : (n : ℕ) (f : Line) → Step n f → (f.a ≢ pos 0) ⊎ (f.b ≢ pos 0)
  -- a face isn't flat
  pub solid : (n : ℕ) (f : Line) → Step n f → (z : Place) × (pos 0 <ℤ height f z)
      × ((g : Line) → Step n g → pos 0 ≤ℤ height g z)
  -- a ring that goes over x goes back over it, where none of its ends has this x
  pub closes : (b : Bar) (p : Place) → pos 0 <ℤ p.w → ((c : Bar) → Has c → c.face ≡ b.face
      → (run (spot c.lo) p ≢ pos 0) × (run p (spot c.hi) ≢ pos 0)) → Has b → b.lower ≡ true → IsOver b p
      → (u : Bar) × Has u × (u.lower ≡ false) × (u.face ≡ b.face) × IsOver u p
  -- a ring round a place goes over it
  pub around : (n : ℕ) (p : Place) → pos 0 <ℤ p.w → IsInside Step n p → ((b : Bar) → Has b → b.face ≡ n
      → (run (spot b.lo) p ≢ pos 0) × (run p (spot b.hi) ≢ pos 0)) → (i : Bar) × Has i × (i.lower ≡ true)
      × (i.face ≡ n) × IsOver i p

-- two borders between which no bar ends
pub record IsSlab (Has : Bar → Type 0) (left right : Place) : Type 0 where
  pub left_positive : pos 0 <ℤ left.w
  pub right_positive : pos 0 <ℤ right.w
  pub wide : pos 0 <ℤ run left right
  -- no bar ends between the borders
  pub quiet : (b : Bar) → Has b → Spans left right b ⊎ ((pos 0 ≤ℤ run (spot b.hi) left)
      ⊎ (pos 0 ≤ℤ run right (spot b.lo)))

-- l is no lower than k at both borders
pub record IsUnder (left right : Place) (k l : Line) : Type 0 where
  pub at_left : pos 0 ≤ℤ gap k l left
  pub at_right : pos 0 ≤ℤ gap k l right

-- a place strictly between the borders, over the bars of Low and under those of High, which are all that span
pub record IsCut (Has Low High : Bar → Type 0) (left right p : Place) : Type 0 where
  pub positive : pos 0 <ℤ p.w
  pub after : pos 0 <ℤ run left p
  pub before : pos 0 <ℤ run p right
  pub each : (b : Bar) → Has b → Spans left right b → Low b ⊎ High b
  pub low_has : (b : Bar) → Low b → Has b
  pub high_has : (b : Bar) → High b → Has b
  pub low_spans : (b : Bar) → Low b → Spans left right b
  pub high_spans : (b : Bar) → High b → Spans left right b
  pub low : (b : Bar) → Low b → pos 0 <ℤ height b.line p
  pub high : (b : Bar) → High b → height b.line p <ℤ pos 0

-- the face has a lower bar in Low and no upper one
pub record IsOpen (Low : Bar → Type 0) (n : ℕ) : Type 0 where
  pub by : Bar
  pub by_low : Low by
  pub by_lower : by.lower ≡ true
  pub by_face : by.face ≡ n
  pub none : (u : Bar) → Low u → u.lower ≡ false → u.face ≡ n → ⊥

-- Low are the bars up to k, and High those from l on, with a gap between them
pub record IsGapOf (Has Low High : Bar → Type 0) (left right : Place) (k l : Bar) : Type 0 where
  pub each : (b : Bar) → Has b → Spans left right b → Low b ⊎ High b
  pub low_has : (b : Bar) → Low b → Has b
  pub high_has : (b : Bar) → High b → Has b
  pub low_spans : (b : Bar) → Low b → Spans left right b
  pub high_spans : (b : Bar) → High b → Spans left right b
  pub low : (b : Bar) → Low b → IsUnder left right b.line k.line
  pub high : (b : Bar) → High b → IsUnder left right l.line b.line
  pub between : IsUnder left right k.line l.line
  pub opens : (pos 0 <ℤ gap k.line l.line left) ⊎ (pos 0 <ℤ gap k.line l.line right)

-- the place of the line at the x of `at`
pub record IsSite (l : Line) (at p : Place) : Type 0 where
  pub positive : pos 0 <ℤ p.w
  pub small : IsSmallPlace p
  pub on : height l p ≡ pos 0
  pub same : run at p ≡ pos 0

-- two corners of a gap on its lower line, and one on its upper line where the gap is open
pub record IsCorners (left right : Place) (k l : Line) (a b c : Place) : Type 0 where
  pub first : IsSite k left a
  pub second : IsSite k right b
  pub third : (IsSite l left c × (pos 0 <ℤ gap k l left)) ⊎ (IsSite l right c × (pos 0 <ℤ gap k l right))

-- the middle of three places, or nearly so
abbrev pub total : Place → Place → Place → Place
total a b c = record { x = a.x +ℤ b.x +ℤ c.x; y = a.y +ℤ b.y +ℤ c.y; w = a.w +ℤ b.w +ℤ c.w }

-- none of the places is right of the line, and one is left of it
pub record IsWitness (f : Line) (a b c : Place) : Type 0 where
  pub first : pos 0 ≤ℤ height f a
  pub second : pos 0 ≤ℤ height f b
  pub third : pos 0 ≤ℤ height f c
  pub some : (pos 0 <ℤ height f a) ⊎ ((pos 0 <ℤ height f b) ⊎ (pos 0 <ℤ height f c))
