-- Facts in the order of their levels, and those of them that a clash rests on.
-- For the proofs of this crate alone.
use Rattle.std.specs.Prelude.{◌≡◌, ℕ, ◌<◌, ◌≤◌, ◌⊎◌, Bool, true, false, List, [], length, slice_get, slice_index_or, Option, Some, Contains}
use Rattle.ff_tables.specs.declared.terms.Term.{Term}
use Rattle.ff_tables.specs.declared.terms.Constraint.{Constraint}
use Rattle.ff_tables.specs.Orders.{term_at}
use Rattle.ff_types.specs.declared.cases.Case.{Case}
use Rattle.ff_propagate.specs.declared.facts.Fact.{Fact}
use Rattle.ff_propagate.specs.declared.facts.Reason.TheVariants as by
use Rattle.ff_propagate.specs.Facts.{fact_at}
use Rattle.ff_refute.specs.declared.ordering.Ordered.{Ordered}
use Rattle.ff_refute.specs.declared.making.Maker.{Maker}
use Rattle.ff_log.specs.declared.claims.Claim.{Claim}
use Rattle.ff_refute.specs.Making.{claim_of, Holds, IsMaking}

-- the j-th entry, and anything past the end
abbrev pub entry_at : List Ordered → ℕ → Ordered
entry_at order j = slice_index_or order j (record { level = 0; var = 0 })

-- a variable with a fact, and its level
pub record IsEntry (fs : List (Option Fact)) (e : Ordered) : Type 0 where
  pub fact : Fact
  pub there : fact_at fs e.var ≡ Some fact
  pub level : fact.level ≡ e.level

-- all of them are entries of these facts
abbrev pub AreEntries : List (Option Fact) → List Ordered → Type 0
AreEntries fs order = (e : Ordered) → Contains order e → IsEntry fs e

-- each variable below n that has a fact is there
abbrev pub HasAll : List (Option Fact) → List Ordered → ℕ → Type 0
HasAll fs order n = (v : ℕ) (h : Fact) → v < n → fact_at fs v ≡ Some h
    → Contains order (record { level = h.level; var = v })

-- all variables that have facts, by their levels
pub record IsOrderOf (fs : List (Option Fact)) (order : List Ordered) : Type 0 where
  pub each : AreEntries fs order
  pub all : HasAll fs order (length fs)
  pub sorted : (i j : ℕ) (d : Ordered) → i ≤ j → j < length order
      → (slice_index_or order i d).level ≤ (slice_index_or order j d).level

-- the variable is marked
abbrev pub IsMarked : List Bool → ℕ → Type 0
IsMarked marks v = slice_index_or marks v false ≡ true

-- the marks have those of the old ones
abbrev pub HasMarks : List Bool → List Bool → Type 0
HasMarks new old = (v : ℕ) → IsMarked old v → IsMarked new v

-- the variables of the first n terms with a fact of a level below k are marked
abbrev pub ArePremises : List (Option Fact) → List Term → ℕ → ℕ → List Bool → Type 0
ArePremises fs ts n k marks = (j : ℕ) (h : Fact) → j < n → fact_at fs (term_at ts j).var ≡ Some h → h.level < k
    → IsMarked marks (term_at ts j).var

-- what was marked since has a fact of a level below k
abbrev pub OnlyBelow : List (Option Fact) → ℕ → List Bool → List Bool → Type 0
OnlyBelow fs k old new = (v : ℕ) → IsMarked new v → IsMarked old v
    ⊎ ((h : Fact) × (fact_at fs v ≡ Some h) × (h.level < k))

-- what forces the variable's fact is marked
abbrev pub IsBased : List Constraint → List (Option Fact) → List Bool → ℕ → Type 0
IsBased cons fs marks v = (h : Fact) (d : ℕ) (con : Constraint) → fact_at fs v ≡ Some h → h.reason ≡ by.Forced d
    → slice_get cons d ≡ Some con → ArePremises fs con.terms (length con.terms) h.level marks

-- so it is for each marked variable from the k-th on
abbrev pub AreBased : List Constraint → List (Option Fact) → List Ordered → ℕ → List Bool → Type 0
AreBased cons fs order k marks = (j : ℕ) → k ≤ j → j < length order → IsMarked marks (entry_at order j).var
    → IsBased cons fs marks (entry_at order j).var

-- so it is for each marked variable
abbrev pub AreClosed : List Constraint → List (Option Fact) → List Bool → Type 0
AreClosed cons fs marks = (v : ℕ) → IsMarked marks v → IsBased cons fs marks v

-- the marked facts among the first n hold
pub record IsWritten (case : Case) (pins : List Claim) (fs : List (Option Fact)) (order : List Ordered) (marks : List Bool)
    (n : ℕ) (m : Maker) : Type 0 where
  pub held : List Claim
  pub making : IsMaking case pins held [] m
  pub has : (j : ℕ) (h : Fact) → j < n → IsMarked marks (entry_at order j).var
      → fact_at fs (entry_at order j).var ≡ Some h → Holds held (claim_of case.pairs (entry_at order j).var h.value)

-- each reason by a constraint names one that is there
abbrev pub HaveReasons : List Constraint → List (Option Fact) → Type 0
HaveReasons cons fs = (v : ℕ) (h : Fact) (d : ℕ) → fact_at fs v ≡ Some h → h.reason ≡ by.Forced d → d < length cons

-- what was marked since has a fact of a level below that of the variable's fact
abbrev pub OnlyBase : List (Option Fact) → ℕ → List Bool → List Bool → Type 0
OnlyBase fs w old new = (v : ℕ) → IsMarked new v → IsMarked old v
    ⊎ ((h : Fact) × (g : Fact) × (fact_at fs v ≡ Some h) × (fact_at fs w ≡ Some g) × (h.level < g.level))

-- the variables of the first n terms are marked
abbrev pub AreMarked : List Term → ℕ → List Bool → Type 0
AreMarked ts n marks = (j : ℕ) → j < n → IsMarked marks (term_at ts j).var

-- the constraint's variables are marked
abbrev pub IsRoot : List Constraint → List Bool → ℕ → Type 0
IsRoot cons marks c = (con : Constraint) → slice_get cons c ≡ Some con → AreMarked con.terms (length con.terms) marks
