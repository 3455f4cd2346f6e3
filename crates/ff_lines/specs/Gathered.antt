-- The points of the drawing, gathered pair by pair. For the proofs of this crate alone.
use Rattle.std.specs.Prelude.{◌≡◌, ◌⊎◌, ◌↔◌, ℕ, ◌<◌, Bool, true, false, List, length, slice_get, Some, IsTrue}
use Rattle.std.specs.List.{Contains}
use Rattle.ff_whole.specs.declared.points.Pt.{Pt}
use Rattle.ff_whole.specs.declared.places.Place.{Place}
use Rattle.ff_whole.specs.Places.{place_of, same_place}
use Rattle.ff_types.specs.declared.limits.TheConstants.{MOST_VERTICES}
use Rattle.ff_lines.specs.declared.items.LineItem.{LineItem}
use Rattle.ff_lines.specs.Lines.{AreLines, AreOverlapping, ComesBefore, IsOnlyCommon}
use Rattle.ff_lines.specs.Drawings.{HasManyVertices, IsVertexOf, Rise}

-- the pair doesn't stop, and where its lines meet is among the points, unless no more are kept
pub record IsPairDone (k l : LineItem) (points : List Pt) (full : Bool) : Type 0 where
  pub wholes : (s : Place) → IsOnlyCommon k l s → (v : Pt) × IsTrue (same_place (place_of v) s) × (full ≡ false → Contains points v)
  pub letters : AreOverlapping k l → ⊥

-- both ends of the first n lines are among the points
abbrev pub HoldEnds : List LineItem → ℕ → List Pt → Type 0
HoldEnds lines n points = (i : ℕ) (l : LineItem) → i < n → slice_get lines i ≡ Some l → Contains points l.p × Contains points l.q

-- each pair before (i, j) is done
abbrev pub ArePairsDone : List LineItem → ℕ → ℕ → List Pt → Bool → Type 0
ArePairsDone lines i j points full = (a b : ℕ) (k l : LineItem) → ComesBefore a b i j → AreLines lines a b k l → IsPairDone k l points full

-- vertices of the drawing: all of the lines and pairs so far, or more than the limit
pub record AreGathered (lines : List LineItem) (i j : ℕ) (points : List Pt) (full : Bool) : Type 0 where
  pub only : (v : Pt) → Contains points v → IsVertexOf lines v
  pub ends : full ≡ false → HoldEnds lines (length lines) points
  pub done : ArePairsDone lines i j points full
  pub many : full ≡ true → HasManyVertices lines

-- the point is there too, unless no more are kept
pub record IsKept (old : List Pt) (full : Bool) (v : Pt) (new : List Pt) : Type 0 where
  pub from : (x : Pt) → Contains new x → Contains old x ⊎ (x ≡ v)
  pub keeps : (x : Pt) → Contains old x → Contains new x
  pub has : full ≡ false → Contains new v

-- the same points
abbrev pub HoldSame : List Pt → List Pt → Type 0
HoldSame old new = (x : Pt) → Contains new x ↔ Contains old x

-- the same points in order, each once
pub record IsSqueezed (old new : List Pt) : Type 0 where
  pub same : HoldSame old new
  pub rise : Rise new

-- the same points, which are in order and more than the limit where it says so
pub record IsCounted (old new : List Pt) (many : Bool) : Type 0 where
  pub same : HoldSame old new
  pub rise : many ≡ true → Rise new
  pub more : many ≡ true → MOST_VERTICES < length new

-- the ends of the first n lines, and nothing else
pub record AreEndsOf (lines : List LineItem) (n : ℕ) (points : List Pt) : Type 0 where
  pub only : (v : Pt) → Contains points v → IsVertexOf lines v
  pub ends : HoldEnds lines n points
