-- Faces that edges join to the first one.
-- For the proofs of this crate alone.
use Rattle.std.specs.Prelude.{◌≡◌, ℕ, suc, ◌<◌, ◌⊎◌, Bool, true, false, List, [], ◌∷◌, length, slice_index_or, Option, Some, None}
use Rattle.ff_types.specs.declared.faces.EdgeSides.{EdgeSides}
use Rattle.ff_types.specs.Sides.{sides_at}

-- whether a face has been reached
abbrev pub reached_at : List Bool → ℕ → Bool
reached_at reached f = slice_index_or reached f false

-- the two faces lie on the two sides of an edge
pub record AreBeside (sides : List EdgeSides) (f g : ℕ) : Type 0 where
  pub edge : ℕ
  pub within : edge < length sides
  pub left : (sides_at sides edge).left ≡ Some f
  pub right : (sides_at sides edge).right ≡ Some g

-- a step over an edge, either way
abbrev pub Steps : List EdgeSides → ℕ → ℕ → Type 0
Steps sides f g = AreBeside sides f g ⊎ AreBeside sides g f

-- the faces of the list lead from f to g, each over an edge to the next
abbrev pub IsWay : List EdgeSides → ℕ → List ℕ → ℕ → Type 0
IsWay sides f [] g = f ≡ g
IsWay sides f (h ∷ rest) g = Steps sides f h × IsWay sides h rest g

-- there is a way from one face to the other over shared edges
abbrev pub AreLinked : List EdgeSides → ℕ → ℕ → Type 0
AreLinked sides f g = (way : List ℕ) × IsWay sides f way g

-- how many haven't been reached
abbrev pub unreached : List Bool → ℕ
unreached [] = 0
unreached (true ∷ rest) = unreached rest
unreached (false ∷ rest) = suc (unreached rest)

-- both faces beside the edge have been reached, or neither
abbrev pub IsEven : List Bool → Option ℕ → Option ℕ → Type 0
IsEven reached (Some f) (Some g) = reached_at reached f ≡ reached_at reached g
IsEven reached left right = Unit {0}

-- one edge has been looked at: the face on one side is reached where that on the other was
pub record Stepped (left right : Option ℕ) (old new : List Bool) (grown : Bool) : Type 0 where
  pub as_many : length new ≡ length old
  pub kept : (f : ℕ) → reached_at old f ≡ true → reached_at new f ≡ true
  pub from : (f : ℕ) → reached_at new f ≡ true → (reached_at old f ≡ true) ⊎ ((g : ℕ) × (reached_at old g ≡ true) × (((left ≡ Some g) × (right ≡ Some f)) ⊎ ((left ≡ Some f) × (right ≡ Some g))))
  pub still : grown ≡ false → (new ≡ old) × IsEven old left right
  pub more : grown ≡ true → unreached new < unreached old

-- the first n edges have been looked at
pub record PassedTo (sides : List EdgeSides) (n : ℕ) (old new : List Bool) (grown : Bool) : Type 0 where
  pub as_many : length new ≡ length old
  pub kept : (f : ℕ) → reached_at old f ≡ true → reached_at new f ≡ true
  pub linked : ((f : ℕ) → reached_at old f ≡ true → AreLinked sides 0 f) → (f : ℕ) → reached_at new f ≡ true → AreLinked sides 0 f
  pub still : grown ≡ false → (new ≡ old) × ((e : ℕ) → e < n → IsEven old (sides_at sides e).left (sides_at sides e).right)
  pub more : grown ≡ true → unreached new < unreached old

-- exactly the faces that edges join to face 0 have been reached
pub record AreReached (sides : List EdgeSides) (count : ℕ) (reached : List Bool) : Type 0 where
  pub as_many : length reached ≡ count
  pub linked : (f : ℕ) → reached_at reached f ≡ true → AreLinked sides 0 f
  pub all : (f : ℕ) → AreLinked sides 0 f → reached_at reached f ≡ true

-- the faces of all edges are there
abbrev pub AreBelow : List EdgeSides → ℕ → Type 0
AreBelow sides count = (e f : ℕ) → e < length sides → ((sides_at sides e).left ≡ Some f) ⊎ ((sides_at sides e).right ≡ Some f) → f < count

-- the first face that isn't joined to face 0, or none
abbrev pub FirstLost : List EdgeSides → ℕ → Option ℕ → Type 0
FirstLost sides count (Some f) = (f < count) × (AreLinked sides 0 f → ⊥) × ((g : ℕ) → g < f → AreLinked sides 0 g)
FirstLost sides count None = (g : ℕ) → g < count → AreLinked sides 0 g
