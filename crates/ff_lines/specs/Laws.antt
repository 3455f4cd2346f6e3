-- Laws of lines: whole points by division, cuts, and edges that share ends. Elementary.
use Rattle.std.specs.Prelude.{◌≡◌, ◌≢◌, ◌⊎◌, ◌↔◌, ℕ, ℤ, pos, ◌+ℤ◌, ◌*ℤ◌, ◌<ℤ◌, List, [], ◌∷◌, unsigned_abs, slice_get, Some}
use Prim.Native.Nat.{◌∣◌}
use Rattle.ff_whole.specs.declared.points.Pt.{Pt}
use Rattle.ff_whole.specs.declared.places.Place.{Place}
use Rattle.ff_whole.specs.Points.{minus, dot, cross}
use Rattle.ff_whole.specs.Places.{IsPlace}
use Rattle.ff_types.specs.declared.patterns.Mark.{Mark}
use Rattle.ff_lines.specs.declared.items.LineItem.{LineItem}
use Rattle.ff_lines.specs.Lines.{IsEndAt, LiesOn, MeetInWholes}
use Rattle.ff_types.specs.declared.patterns.EdgeEnds.{EdgeEnds}
use Rattle.ff_lines.specs.Drawings.{IsPiece, IsDrawingOf, HaveSameLetters}

-- the steps of a direction have no common divisor
abbrev pub IsPrimitive : Pt → Type 0
IsPrimitive u = (d : ℕ) → d ∣ unsigned_abs u.x → d ∣ unsigned_abs u.y → d ≡ 1

-- k steps from p
abbrev pub step : Pt → Pt → ℤ → Pt
step p u k = record { x = p.x +ℤ (k *ℤ u.x); y = p.y +ℤ (k *ℤ u.y) }

-- the point is on the line through p in the direction u
abbrev pub IsAhead : Pt → Pt → Pt → Type 0
IsAhead p u x = cross u (minus x p) ≡ pos 0

-- The line from p in steps of u and that from r in the direction v meet in a whole point exactly where the cross product
-- of the directions divides another; the quotient is the number of the step.
abbrev pub WholesByDivision : Type 0
WholesByDivision = (p u r v : Pt) → IsPrimitive u → cross u v ≢ pos 0
    → ((x : Pt) → IsAhead p u x → IsAhead r v x → (k : ℤ) × (cross (minus r p) v ≡ k *ℤ cross u v) × (x ≡ step p u k))
    × ((k : ℤ) → cross (minus r p) v ≡ k *ℤ cross u v → IsAhead p u (step p u k) × IsAhead r v (step p u k))

-- points from a on to b in the direction u, one after the other
abbrev pub AreCuts : Pt → Pt → List Pt → Pt → Type 0
AreCuts u a [] b = (cross u (minus b a) ≡ pos 0) × (pos 0 <ℤ dot u (minus b a))
AreCuts u a (c ∷ rest) b = (cross u (minus c a) ≡ pos 0) × (pos 0 <ℤ dot u (minus c a)) × AreCuts u c rest b

-- the place is on one of the pieces
abbrev pub LiesOnPieces : Pt → List Pt → Pt → Place → Type 0
LiesOnPieces a [] b s = LiesOn a b s
LiesOnPieces a (c ∷ rest) b s = LiesOn a c s ⊎ LiesOnPieces c rest b s

-- the pieces together are the line
abbrev pub CutsAreLines : Type 0
CutsAreLines = (u a b : Pt) (cuts : List Pt) → AreCuts u a cuts b → (s : Place) → IsPlace s
    → LiesOn a b s ↔ LiesOnPieces a cuts b s

-- each line has different ends
abbrev pub HaveEnds : List LineItem → Type 0
HaveEnds lines = (i : ℕ) (l : LineItem) → slice_get lines i ≡ Some l → l.p ≢ l.q

-- A place of two pieces with different ends is an end of both.
abbrev pub EdgesShareEnds : Type 0
EdgesShareEnds = (lines : List LineItem) → HaveEnds lines → MeetInWholes lines
    → (m n : Mark) (a b c d : Pt) → IsPiece lines m a b → IsPiece lines n c d
    → ((a ≡ c) × (b ≡ d) → ⊥) → ((a ≡ d) × (b ≡ c) → ⊥)
    → (s : Place) → IsPlace s → LiesOn a b s → LiesOn c d s
    → IsEndAt a b s × IsEndAt c d s

-- In a drawing of lines, for each letter a place is on an edge with it exactly where it is on a line with it.
abbrev pub DrawingsKeepLetters : Type 0
DrawingsKeepLetters = (lines : List LineItem) (points : List Pt) (edges : List EdgeEnds) (marks : List Mark) → HaveEnds lines
    → IsDrawingOf lines points edges marks → HaveSameLetters lines points edges marks
