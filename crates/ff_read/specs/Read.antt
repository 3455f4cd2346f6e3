-- What a call that reads a list or an object gives.
use Rattle.std.specs.Prelude.{ℕ, ◌≡◌, ◌<◌, ◌^◌, List, length, Option, None, Some}
use Rattle.serde_json.specs.Data.{Data}
use Rattle.ff_read.specs.declared.items.ItemNo.{ItemNo}
use Rattle.ff_read.specs.declared.items.ItemNo.TheVariants.{Bad, NoMemory}
use Rattle.ff_types.specs.declared.refusals.No.{No}
use Rattle.ff_types.specs.declared.refusals.No.TheVariants as no
use Rattle.ff_types.specs.declared.refusals.No.TheVariants.{Refused}
use Rattle.ff_types.specs.declared.refusals.Refusal.TheVariants.{NotJson, BadVertex, FarVertex, BadEdge, BadMark}
use Rattle.ff_types.specs.declared.refusals.Refusal.{Refusal}
use Rattle.ff_types.specs.declared.patterns.Pattern.{Pattern}
use Rattle.ff_whole.specs.declared.points.Pt.{Pt}
use Rattle.ff_read.specs.Refused.{AreNear, IsFirstBad, IsFirstBadEdge, IsFirstFar, RefusesFold}
use Rattle.ff_read.specs.Spelling.{Keys, IsKeyed, Spells, object_of, point_of, mark_of, all_of}

-- why not all items were read
abbrev pub IsBadItem : {B A : Type 0} → (B → Option A) → List B → ItemNo → Type 0
IsBadItem f ds (Bad i) = IsFirstBad f ds i
IsBadItem f ds NoMemory = Unit {0}

-- why not all edges were read
abbrev pub IsBadEdgeItem : ℕ → List Data → ItemNo → Type 0
IsBadEdgeItem n ds (Bad e) = IsFirstBadEdge n ds e
IsBadEdgeItem n ds NoMemory = Unit {0}

-- the first far point, where there is one
abbrev pub FirstFar : List Pt → Option ℕ → Type 0
FirstFar points None = AreNear points
FirstFar points (Some v) = IsFirstFar points v

-- why the points weren't read
abbrev pub ArePointsNot : List Data → No → Type 0
ArePointsNot ds (Refused (BadVertex v)) = IsFirstBad point_of ds v
ArePointsNot ds (Refused (FarVertex v)) = (points : List Pt) × (all_of point_of ds ≡ Some points) × IsFirstFar points v
ArePointsNot ds (Refused r) = ⊥
ArePointsNot ds no.NoMemory = Unit {0}

-- why the edges weren't read
abbrev pub AreEdgesNot : ℕ → List Data → No → Type 0
AreEdgesNot n ds (Refused (BadEdge e)) = IsFirstBadEdge n ds e
AreEdgesNot n ds (Refused r) = ⊥
AreEdgesNot n ds no.NoMemory = Unit {0}

-- why the marks weren't read
abbrev pub AreMarksNot : Option (List Data) → No → Type 0
AreMarksNot marks (Refused (BadMark e)) = (ds : List Data) × (marks ≡ Some ds) × IsFirstBad mark_of ds e
AreMarksNot marks (Refused r) = ⊥
AreMarksNot marks no.NoMemory = Unit {0}

-- fewer than 2^32 items under the first two keys
pub record AreFew (k : Keys) : Type 0 where
  pub vertices : length k.vertices < 2 ^ 32
  pub edges : length k.edges < 2 ^ 32

-- so it is of the lists of the object
pub record HasFewItems (d : Data) : Type 0 where
  pub few : (k : Keys) → IsKeyed d k → AreFew k

-- the bytes are an object that spells the pattern
pub record IsReadAs (bytes : List ℕ) (p : Pattern) : Type 0 where
  pub object : Data
  pub read : object_of bytes ≡ Some object
  pub spells : Spells object p

-- why no pattern was read of the bytes: they are no object, or the object spells no pattern within the limits
abbrev pub RefusesBytes : List ℕ → Refusal → Type 0
RefusesBytes bytes NotJson = object_of bytes ≡ None
RefusesBytes bytes r = (d : Data) × (object_of bytes ≡ Some d) × RefusesFold d r

-- why bytes are no pattern: the refusal, or no memory
abbrev pub IsNoPattern : List ℕ → No → Type 0
IsNoPattern bytes (Refused r) = RefusesBytes bytes r
IsNoPattern bytes no.NoMemory = Unit {0}

-- refused as no JSON object exactly where this holds
abbrev pub IsNotJson : Type 0 → No → Type 0
IsNotJson P (Refused NotJson) = P
IsNotJson P (Refused r) = ⊥
IsNotJson P no.NoMemory = Unit {0}
