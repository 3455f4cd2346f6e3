-- What the search for faces gives.
use Rattle.std.specs.Prelude.{◌≡◌, ℕ, ◌<◌, ◌≤◌, List, length, Option}
use Rattle.ff_whole.specs.declared.points.Pt.{Pt}
use Rattle.ff_types.specs.declared.limits.TheConstants.{MOST_FACES}
use Rattle.ff_types.specs.declared.patterns.EdgeEnds.{EdgeEnds}
use Rattle.ff_types.specs.declared.patterns.Mark.{Mark}
use Rattle.ff_types.specs.declared.faces.EdgeSides.{EdgeSides}
use Rattle.ff_types.specs.declared.refusals.No.{No}
use Rattle.ff_types.specs.declared.refusals.No.TheVariants as no
use Rattle.ff_types.specs.Drawings.{IsDrawing}
use Rattle.ff_types.specs.declared.faces.Faces.{Faces}
use Rattle.ff_types.specs.Faces.{AreRings, mark_at}
use Rattle.ff_types.specs.Sides.{sides_at, IsMarkOf, AreFaces}
use Rattle.ff_types.specs.FaceRefusals.{RefusesFaces, IsClear}
use Rattle.ff_planar.specs.Seen.{AreAllSeen}

-- no rings are faces of the drawing
abbrev pub HasNoFaces : List Pt → List EdgeEnds → Option (List Mark) → Type 0
HasNoFaces points edges marks = (rings : List (List ℕ)) → AreRings points edges marks rings → ⊥

-- why a drawing has no faces
abbrev pub WhyNoRings : List Pt → List EdgeEnds → Option (List Mark) → No → Type 0
WhyNoRings points edges marks (no.Refused r) = RefusesFaces points edges marks r × HasNoFaces points edges marks
WhyNoRings points edges marks no.NoMemory = Unit {0}

-- rings that are faces: no refusal but the last comes
pub record AreFound (points : List Pt) (edges : List EdgeEnds) (marks : Option (List Mark)) (rings : List (List ℕ)) : Type 0 where
  pub clear : IsClear points edges marks
  pub rings_are : AreRings points edges marks rings

-- what has been found: a drawing, its faces' rings and what lies beside each edge
pub record IsFound (points : List Pt) (edges : List EdgeEnds) (marks : Option (List Mark)) (rings : List (List ℕ)) (seen : List EdgeSides) : Type 0 where
  pub drawing : IsDrawing points edges
  pub found : AreFound points edges marks rings
  pub seen_are : AreAllSeen points edges rings seen

-- why nothing was found: no drawing, or no faces
abbrev pub IsNotFound : List Pt → List EdgeEnds → Option (List Mark) → No → Type 0
IsNotFound points edges marks (no.Refused r) = RefusesFaces points edges marks r × (IsDrawing points edges → HasNoFaces points edges marks)
IsNotFound points edges marks no.NoMemory = Unit {0}

-- the faces of a drawing, within the limit
pub record AreGiven (points : List Pt) (edges : List EdgeEnds) (marks : Option (List Mark)) (faces : Faces) : Type 0 where
  pub drawing : IsDrawing points edges
  pub faces_are : AreFaces points edges marks faces.rings faces.sides faces.marks
  pub few : length faces.rings ≤ MOST_FACES

-- why none are given: a refusal, and so no faces within the limit
abbrev pub WhyNoFaces : List Pt → List EdgeEnds → Option (List Mark) → No → Type 0
WhyNoFaces points edges marks (no.Refused r) = RefusesFaces points edges marks r × (IsDrawing points edges → (rings : List (List ℕ)) → AreRings points edges marks rings → length rings ≤ MOST_FACES → ⊥)
WhyNoFaces points edges marks no.NoMemory = Unit {0}

-- a mark for each edge, absent ones filled in
pub record AreFilled (marks : Option (List Mark)) (seen : List EdgeSides) (filled_in : List Mark) : Type 0 where
  pub as_many : length filled_in ≡ length seen
  pub each : (e : ℕ) → e < length seen → IsMarkOf marks e (sides_at seen e) (mark_at filled_in e)
