-- What the case of a folded sheet says of its stackings, and that a sheet has one case. This project's own.
use Rattle.std.specs.Prelude.{◌≡◌}
use Rattle.ff_types.specs.declared.cases.Case.{Case}
use Rattle.ff_types.specs.Sheets.{Sheet}
use Rattle.ff_types.specs.Cases.{IsCaseOf}
use Rattle.ff_types.specs.Assignments.{IsTrueTo}

-- the case of a sheet is true to it
abbrev pub CasesAreTrue : Sheet → Type 0
CasesAreTrue g = (case : Case) → IsCaseOf g case → IsTrueTo g case

-- two cases differ at most in the places of their cites
pub record AreAlike (case other : Case) : Type 0 where
  pub pairs : case.pairs ≡ other.pairs
  pub vars : case.system.vars ≡ other.system.vars
  pub constraints : case.system.constraints ≡ other.system.constraints
  pub starts : case.starts ≡ other.starts

-- two cases of one sheet are alike but for places
abbrev pub CasesAreAlike : Sheet → Type 0
CasesAreAlike g = (case other : Case) → IsCaseOf g case → IsCaseOf g other → AreAlike case other
