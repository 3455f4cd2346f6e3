-- A crease pattern with its faces and its folding, as the calls give them. Nothing else is known of one.
use Rattle.std.specs.Prelude.{◌≤◌, length}
use Rattle.ff_types.specs.declared.limits.TheConstants.{MOST_FACES}
use Rattle.ff_types.specs.declared.patterns.Pattern.{Pattern}
use Rattle.ff_types.specs.declared.faces.Faces.{Faces}
use Rattle.ff_types.specs.declared.faces.Folded.{Folded}
use Rattle.ff_types.specs.Drawings.{IsDrawing}
use Rattle.ff_types.specs.Sides.{AreFaces}
use Rattle.ff_types.specs.Foldings.{IsFolding, AreNear}

-- The pattern is a drawing, these are its faces, and this is their folding, within the limits.
pub record IsFoldedPattern (pattern : Pattern) (faces : Faces) (folded : Folded) : Type 0 where
  pub drawing : IsDrawing pattern.points pattern.edges
  pub faces_are : AreFaces pattern.points pattern.edges pattern.marks faces.rings faces.sides faces.marks
  pub few_faces : length faces.rings ≤ MOST_FACES
  pub folding : IsFolding pattern.points faces.rings faces.sides faces.marks folded.scale folded.points folded.up
  pub near : AreNear folded.points
