-- The constraints that rest on edges: taco-taco, taco-tortilla and tortilla-tortilla. The families are those
-- of Flat-Folder's documentation.
use Rattle.std.specs.Prelude.{◌≡◌, ℕ, ◌+◌, ◌<◌, Bool, true, false, List, ◌++◌, length, slice_get, Some, IsTrue}
use Rattle.ff_types.specs.declared.cites.Cite.{Cite}
use Rattle.ff_types.specs.declared.cites.Cite.TheVariants.{Transitivity, TacoTaco, TacoFace, TacoEdge, FlatFace, FlatEdge}
use Rattle.ff_types.specs.declared.cites.Listed.{Listed}
use Rattle.ff_types.specs.declared.refusals.No.{No}
use Rattle.ff_types.specs.declared.refusals.No.TheVariants.{Refused, NoMemory}
use Rattle.ff_types.specs.declared.refusals.Refusal.TheVariants.{TooMany}
use Rattle.ff_types.specs.declared.refusals.What.TheVariants.{Constraints}
use Rattle.ff_types.specs.Faces.{list_before}
use Rattle.ff_types.specs.Sheets.{Sheet}
use Rattle.ff_types.specs.Inside.{Overlap}
use Rattle.ff_types.specs.Cites.{Holds, Witnessed, HasSmallPlaces}
use Rattle.ff_types.specs.Cases.{key, IsConstraintOf}
use Rattle.ff_types.specs.declared.limits.TheConstants.{MOST_CONSTRAINTS}

-- every family but transitivity
abbrev pub is_of_edges : Cite → Bool
is_of_edges (Transitivity f h k at) = false
is_of_edges (TacoTaco e k) = true
is_of_edges (TacoFace e face at) = true
is_of_edges (TacoEdge e flat) = true
is_of_edges (FlatFace flat face at) = true
is_of_edges (FlatEdge flat flat2) = true

-- each pair of overlapping faces has a number
abbrev pub AreNumbered : Sheet → List (ℕ × ℕ) → Type 0
AreNumbered g pairs = (f h : ℕ) → f < h → Overlap g f h → (n : ℕ) × (slice_get pairs n ≡ Some (f, h))

-- a constraint that rests on an edge and holds, with places that witness it
pub record IsTaco (g : Sheet) (pairs : List (ℕ × ℕ)) (l : Listed) : Type 0 where
  pub of_edges : IsTrue (is_of_edges l.cite)
  pub holds : Holds g l.cite
  pub witnessed : Witnessed g l.cite
  pub small : HasSmallPlaces l.cite
  pub constraint : IsConstraintOf g pairs l.cite l.constraint

-- the list has a constraint with this key
abbrev pub HasCite : List Listed → List ℕ → Type 0
HasCite list ks = (n : ℕ) × (l : Listed) × (slice_get list n ≡ Some l) × (key l.cite ≡ ks)

-- the constraints stand in order of their keys, so that none stands twice
abbrev pub AreInOrder : List Listed → Type 0
AreInOrder list = (m n : ℕ) (l o : Listed) → m < n → slice_get list m ≡ Some l → slice_get list n ≡ Some o
    → IsTrue (list_before (key l.cite) (key o.cite))

-- All such constraints and nothing else, in order. The keys of at most one list are so.
pub record AreTacos (g : Sheet) (pairs : List (ℕ × ℕ)) (list : List Listed) : Type 0 where
  pub each : (n : ℕ) (l : Listed) → slice_get list n ≡ Some l → IsTaco g pairs l
  pub complete : (c : Cite) → IsTrue (is_of_edges c) → Holds g c → HasCite list (key c)
  pub sorted : AreInOrder list

-- the new list is the old one with these constraints behind it
pub record AddsTacos (g : Sheet) (pairs : List (ℕ × ℕ)) (old new : List Listed) : Type 0 where
  pub tacos : List Listed
  pub are : AreTacos g pairs tacos
  pub appended : new ≡ old ++ tacos

-- Why they can't be appended to n others: there would be more than the limit, or memory was refused.
abbrev pub AreTooMany : Sheet → List (ℕ × ℕ) → ℕ → No → Type 0
AreTooMany g pairs n NoMemory = Unit {0}
AreTooMany g pairs n (Refused r) = (r ≡ TooMany Constraints MOST_CONSTRAINTS)
    × ((tacos : List Listed) × AreTacos g pairs tacos × (MOST_CONSTRAINTS < n + length tacos))
