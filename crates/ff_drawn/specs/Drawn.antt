-- Whether a pattern is a drawing, or which of two vertices at one point, two edges that cross, or a loose vertex comes first.
use Rattle.std.specs.Prelude.{ℕ, ◌<◌, List, length, Option, Some, None}
use Rattle.ff_whole.specs.declared.points.Pt.{Pt}
use Rattle.ff_types.specs.declared.patterns.EdgeEnds.{EdgeEnds}
use Rattle.ff_types.specs.declared.refusals.No.{No}
use Rattle.ff_types.specs.declared.refusals.No.TheVariants as no
use Rattle.ff_types.specs.declared.refusals.Refusal.{Refusal}
use Rattle.ff_types.specs.declared.refusals.Refusal.TheVariants.{SamePoint, Crossing, Loose}
use Rattle.ff_types.specs.Drawings.{IsEnd, Common, HasTwoEdges, IsDrawing}
use Rattle.ff_drawn.specs.declared.darts.Dart.{Dart}
use Rattle.ff_drawn.specs.declared.extents.Extent.{Extent}
use Rattle.ff_drawn.specs.Extents.{AreSpots}
use Rattle.ff_drawn.specs.Darts.{AreDarts, AreStarts}
use Rattle.ff_types.specs.FaceRefusals.{IsLeast, LooseAt, IsFirstCrossing, NoCrossing, RefusesFaces}

-- the edges share a point that isn't an end of both
abbrev pub Cross : List Pt → EdgeEnds → EdgeEnds → Type 0
Cross points e k = (s t u v : ℕ) × Common points e k s t u v × (IsEnd s t × IsEnd u v → ⊥)

-- the first two edges that cross, or none
abbrev pub FirstCross : List Pt → List EdgeEnds → Option (ℕ × ℕ) → Type 0
FirstCross points edges (Some (e, k)) = IsFirstCrossing points edges e k
FirstCross points edges None = NoCrossing points edges

-- the first vertex with fewer than two edges, or none
abbrev pub FirstLoose : List Pt → List EdgeEnds → Option ℕ → Type 0
FirstLoose points edges (Some v) = IsLeast (LooseAt points edges) v
FirstLoose points edges None = (v : ℕ) → v < length points → HasTwoEdges edges v

-- a drawing, and its darts
pub record IsDrawnBy (points : List Pt) (edges : List EdgeEnds) (darts : List Dart) : Type 0 where
  pub drawing : IsDrawing points edges
  pub darts_are : AreDarts edges darts

-- and where those that leave each vertex begin, and the vertices from west to east
pub record IsDrawnAt (points : List Pt) (edges : List EdgeEnds) (darts : List Dart) (starts : List ℕ) (spots : List Extent) : Type 0 where
  pub drawn : IsDrawnBy points edges darts
  pub starts_are : AreStarts darts (length points) starts
  pub spots_are : AreSpots points spots

-- the refusal of what is no drawing
abbrev pub RefusesDrawing : List Pt → List EdgeEnds → Refusal → Type 0
RefusesDrawing points edges (SamePoint v) = RefusesFaces points edges None (SamePoint v)
RefusesDrawing points edges (Crossing e k) = RefusesFaces points edges None (Crossing e k)
RefusesDrawing points edges (Loose v) = RefusesFaces points edges None (Loose v)
RefusesDrawing points edges _ = ⊥

-- why there is no drawing
abbrev pub IsNoDrawing : List Pt → List EdgeEnds → No → Type 0
IsNoDrawing points edges (no.Refused r) = RefusesDrawing points edges r × (IsDrawing points edges → ⊥)
IsNoDrawing points edges no.NoMemory = Unit {0}
