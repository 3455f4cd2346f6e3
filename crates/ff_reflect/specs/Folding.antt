-- What folding answers: the one folding with near points, or why there is none.
use Rattle.std.specs.Prelude.{ℤ, Bool, List}
use Rattle.ff_whole.specs.declared.points.Pt.{Pt}
use Rattle.ff_types.specs.declared.patterns.Pattern.{Pattern}
use Rattle.ff_types.specs.declared.faces.Faces.{Faces}
use Rattle.ff_types.specs.declared.faces.Folded.{Folded}
use Rattle.ff_types.specs.declared.refusals.No.{No}
use Rattle.ff_types.specs.declared.refusals.No.TheVariants.{Refused, NoMemory}
use Rattle.ff_types.specs.declared.refusals.Refusal.{Refusal}
use Rattle.ff_types.specs.declared.refusals.Refusal.TheVariants.{Parity, Inconsistent, Oversized}
use Rattle.ff_types.specs.Foldings.{IsFolding, AreNear}
use Rattle.ff_types.specs.FoldRefusals.{RefusesFolding}

-- a folding whose points are within the limit
pub record IsNearFolding (pattern : Pattern) (faces : Faces) (folded : Folded) : Type 0 where
  pub folding : IsFolding pattern.points faces.rings faces.sides faces.marks folded.scale folded.points folded.up
  pub near : AreNear folded.points

-- there is no folding, at no scale
abbrev pub HasNoFolding : Pattern → Faces → Type 0
HasNoFolding pattern faces = (scale : ℤ) (images : List Pt) (up : List Bool) → IsFolding pattern.points faces.rings faces.sides faces.marks scale images up → ⊥

-- there is none whose points are within the limit
abbrev pub HasNoNearFolding : Pattern → Faces → Type 0
HasNoNearFolding pattern faces = (scale : ℤ) (images : List Pt) (up : List Bool) → IsFolding pattern.points faces.rings faces.sides faces.marks scale images up → AreNear images → ⊥

-- what a refusal excludes
abbrev pub Excludes : Pattern → Faces → Refusal → Type 0
Excludes pattern faces (Parity e) = HasNoFolding pattern faces
Excludes pattern faces (Inconsistent v) = HasNoFolding pattern faces
Excludes pattern faces (Oversized v) = HasNoNearFolding pattern faces
Excludes pattern faces _ = ⊥

-- the first stop of the walk by the placing order, and what it excludes
pub record IsRefused (pattern : Pattern) (faces : Faces) (r : Refusal) : Type 0 where
  pub stop : RefusesFolding pattern.points faces.rings pattern.edges faces.sides faces.marks r
  pub none : Excludes pattern faces r

-- why there is no folding: the refusal, or no memory
abbrev pub WhyNoFolding : Pattern → Faces → No → Type 0
WhyNoFolding pattern faces (Refused r) = IsRefused pattern faces r
WhyNoFolding pattern faces NoMemory = Unit {0}

-- the same, before it is known what is excluded
abbrev pub WhyNotPlaced : Pattern → Faces → No → Type 0
WhyNotPlaced pattern faces (Refused r) = RefusesFolding pattern.points faces.rings pattern.edges faces.sides faces.marks r
WhyNotPlaced pattern faces NoMemory = Unit {0}
