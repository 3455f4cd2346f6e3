-- What is so of every folded sheet, and the two faces of its edges. This project's own.
use Rattle.std.specs.Prelude.{◌≡◌, ◌≢◌, ℕ, ◌<◌, ◌⊎◌, length, Some}
use Rattle.ff_types.specs.declared.patterns.Mark.TheVariants.{B}
use Rattle.ff_types.specs.declared.patterns.Pattern.{Pattern}
use Rattle.ff_types.specs.declared.faces.Faces.{Faces}
use Rattle.ff_types.specs.declared.faces.Folded.{Folded}
use Rattle.ff_types.specs.Sheets.{Sheet, sheet_of, mark_of, left_face, right_face}
use Rattle.ff_types.specs.Cites.{lesser, greater}
use Rattle.ff_types.specs.FoldedPatterns.{IsFoldedPattern}

-- the sheet of each pattern, with its faces and its folding, is so
abbrev pub OfEachFolded : (Sheet → Type 0) → Type 0
OfEachFolded Is = (pattern : Pattern) (faces : Faces) (folded : Folded) → IsFoldedPattern pattern faces folded
    → Is (sheet_of pattern faces folded)

-- two different faces, one on either side of the edge on the sheet as it was drawn
pub record AreBeside (g : Sheet) (e f h : ℕ) : Type 0 where
  pub first : f < length g.rings
  pub second : h < length g.rings
  pub differ : f ≢ h
  pub beside : ((left_face g e ≡ Some f) × (right_face g e ≡ Some h))
      ⊎ ((left_face g e ≡ Some h) × (right_face g e ≡ Some f))

-- an edge that isn't a border edge has two different faces
abbrev pub InnerEdgesHaveTwoFaces : Sheet → Type 0
InnerEdgesHaveTwoFaces g = (e : ℕ) → e < length g.edges → mark_of g e ≢ B
    → (lesser g e < greater g e) × AreBeside g e (lesser g e) (greater g e)
