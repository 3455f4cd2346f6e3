-- Laws of faces and refusals.
use Rattle.std.specs.Prelude.{◌≡◌, ℕ, List, Option}
use Rattle.ff_whole.specs.declared.points.Pt.{Pt}
use Rattle.ff_types.specs.declared.patterns.EdgeEnds.{EdgeEnds}
use Rattle.ff_types.specs.declared.patterns.Mark.{Mark}
use Rattle.ff_types.specs.declared.faces.Faces.{Faces}
use Rattle.ff_types.specs.declared.refusals.Refusal.{Refusal}
use Rattle.ff_types.specs.Patterns.{IsPattern}
use Rattle.ff_types.specs.Drawings.{IsDrawing}
use Rattle.ff_types.specs.Faces.{AreRings}
use Rattle.ff_types.specs.FaceRefusals.{RefusesFaces}
use Rattle.ff_planar.specs.Given.{AreGiven}

-- a drawing has at most one list of faces
abbrev pub FacesAreOne : Type 0
FacesAreOne = (points : List Pt) (edges : List EdgeEnds) (marks : Option (List Mark)) (rings others : List (List ℕ)) → IsDrawing points edges → AreRings points edges marks rings → AreRings points edges marks others → rings ≡ others

-- where the faces of a pattern are given nothing is refused
abbrev pub GivenAreNotRefused : Type 0
GivenAreNotRefused = (points : List Pt) (edges : List EdgeEnds) (marks : Option (List Mark)) (faces : Faces) (r : Refusal) → IsPattern points edges marks → AreGiven points edges marks faces → RefusesFaces points edges marks r → ⊥

-- it can't be that a pattern has no faces and nothing is refused
abbrev pub GivenOrRefused : Type 0
GivenOrRefused = (points : List Pt) (edges : List EdgeEnds) (marks : Option (List Mark)) → IsPattern points edges marks → ((faces : Faces) → AreGiven points edges marks faces → ⊥) → ((r : Refusal) → RefusesFaces points edges marks r → ⊥) → ⊥

-- at most one refusal comes
abbrev pub FaceRefusalsAreOne : Type 0
FaceRefusalsAreOne = (points : List Pt) (edges : List EdgeEnds) (marks : Option (List Mark)) (r s : Refusal) → RefusesFaces points edges marks r → RefusesFaces points edges marks s → r ≡ s
