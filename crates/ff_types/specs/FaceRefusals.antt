-- Why a pattern has no faces: each refusal's condition at one vertex, edge or face, and the first that comes.
-- This project's own.
use Rattle.std.specs.Prelude.{◌≡◌, ℕ, ◌<◌, ◌≢◌, ◌⊎◌, pos, ◌<ℤ◌, List, length, Option, Some, None}
use Rattle.ff_whole.specs.declared.points.Pt.{Pt}
use Rattle.ff_whole.specs.Convex.{point_at, left_of}
use Rattle.ff_types.specs.declared.limits.TheConstants.{MOST_FACES}
use Rattle.ff_types.specs.declared.patterns.EdgeEnds.{EdgeEnds}
use Rattle.ff_types.specs.declared.patterns.Mark.{Mark}
use Rattle.ff_types.specs.declared.patterns.Mark.TheVariants.{B}
use Rattle.ff_types.specs.declared.refusals.Refusal.{Refusal}
use Rattle.ff_types.specs.declared.refusals.Refusal.TheVariants.{SamePoint, Crossing, Loose, Rim, Pinch, Reflex, Enclosed, Apart, TooMany}
use Rattle.ff_types.specs.declared.refusals.What.{What}
use Rattle.ff_types.specs.declared.refusals.What.TheVariants as what
use Rattle.ff_types.specs.Patterns.{edge_at}
use Rattle.ff_types.specs.Drawings.{Common, IsEnd, HasTwoEdges}
use Rattle.ff_types.specs.Rings.{corner, corners, IsStrictlyIn}
use Rattle.ff_types.specs.Faces.{mark_at, AreChained, AreRings}
use Rattle.ff_types.specs.Walks.{IsRingWalk, IsOuterSide, AreRingWalks}

-- an earlier vertex has the point of this one
abbrev pub SamePointAt : List Pt → ℕ → Type 0
SamePointAt points v = (v < length points) × ((w : ℕ) × (w < v) × (point_at points w ≡ point_at points v))

-- they share a point that isn't an end of both
abbrev pub CrossingAt : List Pt → List EdgeEnds → ℕ → ℕ → Type 0
CrossingAt points edges e k = (e < k) × (k < length edges)
    × ((s t u v : ℕ) × Common points (edge_at edges e) (edge_at edges k) s t u v × (IsEnd s t × IsEnd u v → ⊥))

-- the vertex has fewer than two edges
abbrev pub LooseAt : List Pt → List EdgeEnds → ℕ → Type 0
LooseAt points edges v = (v < length points) × (HasTwoEdges edges v → ⊥)

-- which of the two sides of an edge are outside
abbrev pub BothOut : List Pt → List EdgeEnds → EdgeEnds → Type 0
BothOut points edges e = IsOuterSide points edges e.a e.b × IsOuterSide points edges e.b e.a

-- neither side of the edge is outside
abbrev pub NoneOut : List Pt → List EdgeEnds → EdgeEnds → Type 0
NoneOut points edges e = (IsOuterSide points edges e.a e.b → ⊥) × (IsOuterSide points edges e.b e.a → ⊥)

-- exactly one side of the edge is outside
abbrev pub OneOut : List Pt → List EdgeEnds → EdgeEnds → Type 0
OneOut points edges e = (IsOuterSide points edges e.a e.b × (IsOuterSide points edges e.b e.a → ⊥))
    ⊎ ((IsOuterSide points edges e.a e.b → ⊥) × IsOuterSide points edges e.b e.a)

-- a border edge with the outside on neither side, or another edge with the outside on one
abbrev pub MarkOut : List Pt → List EdgeEnds → EdgeEnds → Mark → Type 0
MarkOut points edges e B = NoneOut points edges e
MarkOut points edges e _ = OneOut points edges e

-- so it is by the mark of the edge, where marks are given
abbrev pub MarksOut : List Pt → List EdgeEnds → ℕ → Option (List Mark) → Type 0
MarksOut points edges e (Some marks) = MarkOut points edges (edge_at edges e) (mark_at marks e)
MarksOut points edges e None = ⊥

-- both sides of the edge are outside, or its mark disagrees with the sides that are
abbrev pub RimAt : List Pt → List EdgeEnds → Option (List Mark) → ℕ → Type 0
RimAt points edges marks e = (e < length edges)
    × (BothOut points edges (edge_at edges e) ⊎ MarksOut points edges e marks)

-- outer walks leave the vertex more than once
abbrev pub PinchAt : List Pt → List EdgeEnds → ℕ → Type 0
PinchAt points edges v = (v < length points)
    × ((w z : ℕ) × (w ≢ z) × IsOuterSide points edges v w × IsOuterSide points edges v z)

-- the vertex stands twice in one ring, or strictly right of a directed edge of a ring in which it stands
abbrev pub ReflexAt : List Pt → List EdgeEnds → ℕ → Type 0
ReflexAt points edges v = (v < length points)
    × ((walk : List ℕ) × IsRingWalk points edges walk × ((i : ℕ) × (i < length walk) × (corner walk i ≡ v)
    × (((j : ℕ) × (j < length walk) × (i ≢ j) × (corner walk j ≡ v))
    ⊎ ((j : ℕ) × (j < length walk) × (left_of (corners points walk) j (point_at points v) <ℤ pos 0)))))

-- the vertex is strictly inside a ring
abbrev pub EnclosedAt : List Pt → List EdgeEnds → ℕ → Type 0
EnclosedAt points edges v = (v < length points)
    × ((walk : List ℕ) × IsRingWalk points edges walk × IsStrictlyIn (corners points walk) (point_at points v))

-- the face isn't joined to the first one through edges
abbrev pub ApartAt : List Pt → List EdgeEnds → ℕ → Type 0
ApartAt points edges f = (rings : List (List ℕ)) × AreRingWalks points edges rings × (f < length rings)
    × (AreChained rings 0 f → ⊥)

-- it holds at n and nowhere before; or nowhere
abbrev pub IsLeast : (ℕ → Type 0) → ℕ → Type 0
IsLeast P n = P n × ((k : ℕ) → k < n → P k → ⊥)

-- it is so of no number
abbrev pub Never : (ℕ → Type 0) → Type 0
Never P = (n : ℕ) → P n → ⊥

-- the least edge, and for it the least other edge, that cross
pub record IsFirstCrossing (points : List Pt) (edges : List EdgeEnds) (e k : ℕ) : Type 0 where
  pub crosses : CrossingAt points edges e k
  pub least_first : (d l : ℕ) → d < e → CrossingAt points edges d l → ⊥
  pub least_second : (l : ℕ) → l < k → CrossingAt points edges e l → ⊥

-- no two edges cross
abbrev pub NoCrossing : List Pt → List EdgeEnds → Type 0
NoCrossing points edges = (e k : ℕ) → CrossingAt points edges e k → ⊥

-- no two vertices at one point, no crossing, no loose vertex
pub record IsDrawn (points : List Pt) (edges : List EdgeEnds) : Type 0 where
  pub none_same : Never (SamePointAt points)
  pub none_cross : NoCrossing points edges
  pub none_loose : Never (LooseAt points edges)

-- there are more faces than the limit
abbrev pub TooManyFaces : List Pt → List EdgeEnds → Option (List Mark) → What → ℕ → Type 0
TooManyFaces points edges marks what.Faces limit = (limit ≡ MOST_FACES)
    × ((rings : List (List ℕ)) × AreRings points edges marks rings × (limit < length rings))
TooManyFaces points edges marks _ limit = ⊥

-- none of the refusals of its faces but the last
pub record IsClear (points : List Pt) (edges : List EdgeEnds) (marks : Option (List Mark)) : Type 0 where
  pub drawn : IsDrawn points edges
  pub none_rim : Never (RimAt points edges marks)
  pub none_pinch : Never (PinchAt points edges)
  pub none_reflex : Never (ReflexAt points edges)
  pub none_enclosed : Never (EnclosedAt points edges)
  pub none_apart : Never (ApartAt points edges)

-- Why a pattern has no faces, or too many: the refusal's condition holds, at the least number, and none that is tried before.
abbrev pub RefusesFaces : List Pt → List EdgeEnds → Option (List Mark) → Refusal → Type 0
RefusesFaces points edges marks (SamePoint v) = IsLeast (SamePointAt points) v
RefusesFaces points edges marks (Crossing e k) = Never (SamePointAt points) × IsFirstCrossing points edges e k
RefusesFaces points edges marks (Loose v) = Never (SamePointAt points) × NoCrossing points edges
    × IsLeast (LooseAt points edges) v
RefusesFaces points edges marks (Rim e) = IsDrawn points edges × IsLeast (RimAt points edges marks) e
RefusesFaces points edges marks (Pinch v) = IsDrawn points edges × Never (RimAt points edges marks)
    × IsLeast (PinchAt points edges) v
RefusesFaces points edges marks (Reflex v) = IsDrawn points edges × Never (RimAt points edges marks)
    × Never (PinchAt points edges) × IsLeast (ReflexAt points edges) v
RefusesFaces points edges marks (Enclosed v) = IsDrawn points edges × Never (RimAt points edges marks)
    × Never (PinchAt points edges) × Never (ReflexAt points edges) × IsLeast (EnclosedAt points edges) v
RefusesFaces points edges marks (Apart f) = IsDrawn points edges × Never (RimAt points edges marks)
    × Never (PinchAt points edges) × Never (ReflexAt points edges) × Never (EnclosedAt points edges)
    × IsLeast (ApartAt points edges) f
RefusesFaces points edges marks (TooMany what limit) = IsClear points edges marks
    × TooManyFaces points edges marks what limit
RefusesFaces points edges marks _ = ⊥
