-- Laws of folding.
use Rattle.std.specs.Prelude.{◌≡◌, ℤ, Bool, List}
use Rattle.ff_whole.specs.declared.points.Pt.{Pt}
use Rattle.ff_types.specs.declared.patterns.Pattern.{Pattern}
use Rattle.ff_types.specs.declared.faces.Faces.{Faces}
use Rattle.ff_types.specs.declared.refusals.Refusal.{Refusal}
use Rattle.ff_types.specs.Foldings.{IsFolding, AreNear}
use Rattle.ff_types.specs.FoldRefusals.{RefusesFolding}
use Rattle.ff_reflect.specs.Sheets.{Paper, paper_of, HasFaces}
use Rattle.ff_reflect.specs.Folding.{Excludes}

-- two foldings are one
pub record IsSameFolding (d : ℤ) (images : List Pt) (up : List Bool) (e : ℤ) (others : List Pt) (flags : List Bool) : Type 0 where
  pub scale : d ≡ e
  pub points : images ≡ others
  pub flags_too : up ≡ flags

-- a list of faces has at most one folding
abbrev pub HaveOneFolding : Type 0
HaveOneFolding = (paper : Paper) → HasFaces paper → (d : ℤ) (images : List Pt) (up : List Bool) → IsFolding paper.points paper.rings paper.sides paper.marks d images up
    → (e : ℤ) (others : List Pt) (flags : List Bool) → IsFolding paper.points paper.rings paper.sides paper.marks e others flags → IsSameFolding d images up e others flags

-- Faces that are refused don't fold: where flags break or folded faces don't meet, at no scale; where a coordinate is
-- too large, with no near points.
abbrev pub RefusedDontFold : Type 0
RefusedDontFold = (pattern : Pattern) (faces : Faces) → HasFaces (paper_of pattern faces) → (r : Refusal)
    → RefusesFolding pattern.points faces.rings pattern.edges faces.sides faces.marks r → Excludes pattern faces r

-- faces have at most one refusal
abbrev pub HaveOneRefusal : Type 0
HaveOneRefusal = (paper : Paper) → HasFaces paper → (r s : Refusal) → RefusesFolding paper.points paper.rings paper.edges paper.sides paper.marks r
    → RefusesFolding paper.points paper.rings paper.edges paper.sides paper.marks s → r ≡ s

-- it can't be that faces have no folding with near points and nothing is refused
abbrev pub FoldOrRefused : Type 0
FoldOrRefused = (paper : Paper) → HasFaces paper → ((scale : ℤ) (images : List Pt) (up : List Bool) → IsFolding paper.points paper.rings paper.sides paper.marks scale images up → AreNear images → ⊥)
    → ((r : Refusal) → RefusesFolding paper.points paper.rings paper.edges paper.sides paper.marks r → ⊥) → ⊥
