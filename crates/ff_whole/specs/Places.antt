-- Places (x / w, y / w), and the lines over and past which they lie; elementary.
use Rattle.std.specs.Prelude.{ℕ, ℤ, pos, ◌+ℤ◌, ◌-ℤ◌, ◌*ℤ◌, ◌<ℤ◌, Bool, ◌&&◌}
use Rattle.std.specs.Ordering.{int_eq}
use Rattle.ff_whole.specs.declared.points.Pt.{Pt}
use Rattle.ff_whole.specs.declared.places.Place.{Place}
use Rattle.ff_whole.specs.declared.lines.Line.{Line}

-- a denominator of at least 1
abbrev pub IsPlace : Place → Type 0
IsPlace s = pos 0 <ℤ s.w

-- a point as a place
abbrev pub place_of : Pt → Place
place_of p = record { x = p.x; y = p.y; w = pos 1 }

-- the places are one point
abbrev pub same_place : Place → Place → Bool
same_place s t = int_eq (s.x *ℤ t.w) (t.x *ℤ s.w) && int_eq (s.y *ℤ t.w) (t.y *ℤ s.w)

-- i times s and j times t: a place of the segment, strictly between its ends where i and j are positive
abbrev pub blend : ℕ → Place → ℕ → Place → Place
blend i s j t = record { x = (pos i *ℤ s.x) +ℤ (pos j *ℤ t.x); y = (pos i *ℤ s.y) +ℤ (pos j *ℤ t.y); w = (pos i *ℤ s.w) +ℤ (pos j *ℤ t.w) }

-- the line through p and q, with what is left of the way from p to q on its left side
abbrev pub through : Pt → Pt → Line
through p q = record { a = p.y -ℤ q.y; b = q.x -ℤ p.x; c = ((p.y -ℤ q.y) *ℤ p.x) +ℤ ((q.x -ℤ p.x) *ℤ p.y) }

-- how far left of the line the place is, times its denominator and the line's length: negative on the right
abbrev pub height : Line → Place → ℤ
height l s = ((l.a *ℤ s.x) +ℤ (l.b *ℤ s.y)) -ℤ (l.c *ℤ s.w)

-- how far past p the place is in the direction from p to q, times its denominator and the distance of p and q
abbrev pub past : Pt → Pt → Place → ℤ
past p q s = ((q.x -ℤ p.x) *ℤ (s.x -ℤ (p.x *ℤ s.w))) +ℤ ((q.y -ℤ p.y) *ℤ (s.y -ℤ (p.y *ℤ s.w)))

-- the cross product of the directions (a, b) of two lines: 0 exactly where they are parallel
abbrev pub slant : Line → Line → ℤ
slant k l = (k.a *ℤ l.b) -ℤ (l.a *ℤ k.b)
