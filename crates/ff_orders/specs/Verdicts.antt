-- The verdict on given orders: the first thing that is wrong with them. This project's own.
use Rattle.std.specs.Prelude.{◌≡◌, ℕ, ◌<◌, Bool, List, length, slice_get, Some, IsTrue}
use Rattle.ff_whole.specs.declared.places.Place.{Place}
use Rattle.ff_types.specs.declared.cites.Cite.{Cite}
use Rattle.ff_types.specs.declared.cites.Cite.TheVariants as cite
use Rattle.ff_types.specs.declared.cases.Case.{Case}
use Rattle.ff_types.specs.declared.patterns.Pattern.{Pattern}
use Rattle.ff_types.specs.declared.faces.Faces.{Faces}
use Rattle.ff_types.specs.declared.faces.Folded.{Folded}
use Rattle.ff_types.specs.FoldedPatterns.{IsFoldedPattern}
use Rattle.ff_types.specs.Sheets.{Sheet, sheet_of}
use Rattle.ff_types.specs.Cases.{IsCaseOf}
use Rattle.ff_types.specs.Terms.{HasItsRow}
use Rattle.ff_types.specs.Keeping.{KeepsEdge}
use Rattle.ff_orders.specs.declared.items.OrderItem.{OrderItem}
use Rattle.ff_orders.specs.declared.items.OrderVerdict.{OrderVerdict}
use Rattle.ff_orders.specs.declared.items.OrderVerdict.TheVariants.{Verified, Contradiction, Missing, Mark, Cycle, Crossing}
use Rattle.ff_orders.specs.Said.{is_said, IsSaid}

-- both orders of the pair with this number are said
pub record ContradictionAt (g : Sheet) (case : Case) (items : List OrderItem) (n : ℕ) : Type 0 where
  pub pair : ℕ × ℕ
  pub there : slice_get case.pairs n ≡ Some pair
  pub lesser_said : IsTrue (is_said g.up items pair.0 pair.1)
  pub greater_said : IsTrue (is_said g.up items pair.1 pair.0)

-- none of its orders is said
pub record MissingAt (g : Sheet) (case : Case) (items : List OrderItem) (n : ℕ) : Type 0 where
  pub pair : ℕ × ℕ
  pub there : slice_get case.pairs n ≡ Some pair
  pub lesser_not : IsTrue (is_said g.up items pair.0 pair.1) → ⊥
  pub greater_not : IsTrue (is_said g.up items pair.1 pair.0) → ⊥

-- the mark of an edge isn't kept, so that it is M or V
pub record MarkAt (g : Sheet) (above : ℕ → ℕ → Bool) (e : ℕ) : Type 0 where
  pub edge : e < length g.edges
  pub broken : KeepsEdge g above e → ⊥

-- the constraint with this number has none of its rows
pub record NoRowAt (g : Sheet) (case : Case) (above : ℕ → ℕ → Bool) (n : ℕ) : Type 0 where
  pub cite : Cite
  pub there : slice_get case.cites n ≡ Some cite
  pub none : HasItsRow g above cite → ⊥

-- no number is so
abbrev pub Never : (ℕ → Type 0) → Type 0
Never P = (n : ℕ) → P n → ⊥

-- the least number that is so
pub record IsFirst (P : ℕ → Type 0) (n : ℕ) : Type 0 where
  pub is : P n
  pub before : (m : ℕ) → m < n → P m → ⊥

-- each pair has one order: on none are both said, and on none is none
pub record AreOrders (g : Sheet) (case : Case) (items : List OrderItem) : Type 0 where
  pub no_contradiction : Never (ContradictionAt g case items)
  pub none_missing : Never (MissingAt g case items)

-- and each mark is kept
pub record AreCreased (g : Sheet) (case : Case) (items : List OrderItem) (above : ℕ → ℕ → Bool) : Type 0 where
  pub orders : AreOrders g case items
  pub no_mark : Never (MarkAt g above)

-- it isn't of three faces with a common place
abbrev pub IsNoTriple : Cite → Type 0
IsNoTriple (cite.Transitivity f h k at) = ⊥
IsNoTriple _ = Unit {0}

-- the cite of the first constraint without a row
pub record IsFirstNoRow (g : Sheet) (case : Case) (above : ℕ → ℕ → Bool) (c : Cite) : Type 0 where
  pub number : ℕ
  pub there : slice_get case.cites number ≡ Some c
  pub first : IsFirst (NoRowAt g case above) number

-- The first of these that holds, by the number of its pair, edge or constraint, of the set of the said pairs.
abbrev pub IsVerdict : Sheet → Case → List OrderItem → (ℕ → ℕ → Bool) → OrderVerdict → Type 0
IsVerdict g case items above (Contradiction f h) =
    (n : ℕ) × (slice_get case.pairs n ≡ Some (f, h)) × IsFirst (ContradictionAt g case items) n
IsVerdict g case items above (Missing f h) = Never (ContradictionAt g case items)
    × ((n : ℕ) × (slice_get case.pairs n ≡ Some (f, h)) × IsFirst (MissingAt g case items) n)
IsVerdict g case items above (Mark e) = AreOrders g case items × IsFirst (MarkAt g above) e
IsVerdict g case items above (Cycle f h k) = AreCreased g case items above
    × ((at : List Place) × IsFirstNoRow g case above (cite.Transitivity f h k at))
IsVerdict g case items above (Crossing c) = AreCreased g case items above × IsNoTriple c × IsFirstNoRow g case above c
IsVerdict g case items above Verified = AreCreased g case items above × Never (NoRowAt g case above)

-- the verdict on the orders that the items say on a sheet
pub record IsJudged (g : Sheet) (case : Case) (items : List OrderItem) (verdict : OrderVerdict) : Type 0 where
  pub above : ℕ → ℕ → Bool
  pub said : IsSaid g items above
  pub verdict_is : IsVerdict g case items above verdict

-- so it is on the sheet of whatever pattern and faces have this folding and this case
abbrev pub IsOrderVerdict : Folded → Case → List OrderItem → OrderVerdict → Type 0
IsOrderVerdict folded case items verdict = (pattern : Pattern) (faces : Faces) → IsFoldedPattern pattern faces folded
    → IsCaseOf (sheet_of pattern faces folded) case → IsJudged (sheet_of pattern faces folded) case items verdict
