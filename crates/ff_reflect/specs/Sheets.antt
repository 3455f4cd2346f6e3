-- A crease pattern that is a drawing, with its faces.
use Rattle.std.specs.Prelude.{ℕ, List, Option}
use Rattle.ff_whole.specs.declared.points.Pt.{Pt}
use Rattle.ff_types.specs.declared.patterns.EdgeEnds.{EdgeEnds}
use Rattle.ff_types.specs.declared.patterns.Mark.{Mark}
use Rattle.ff_types.specs.declared.patterns.Pattern.{Pattern}
use Rattle.ff_types.specs.declared.faces.EdgeSides.{EdgeSides}
use Rattle.ff_types.specs.declared.faces.Faces.{Faces}
use Rattle.ff_types.specs.Drawings.{IsDrawing}
use Rattle.ff_types.specs.Sides.{AreFaces}

-- what is folded, as lists
pub record Paper : Type 0 where
  pub points : List Pt
  pub edges : List EdgeEnds
  pub given : Option (List Mark)
  pub rings : List (List ℕ)
  pub sides : List EdgeSides
  pub marks : List Mark

-- a pattern with its faces, as one record
abbrev pub paper_of : Pattern → Faces → Paper
paper_of pattern faces = record { points = pattern.points; edges = pattern.edges; given = pattern.marks; rings = faces.rings; sides = faces.sides; marks = faces.marks }

-- it is a drawing with these faces
pub record HasFaces (paper : Paper) : Type 0 where
  pub drawing : IsDrawing paper.points paper.edges
  pub faces : AreFaces paper.points paper.edges paper.given paper.rings paper.sides paper.marks
