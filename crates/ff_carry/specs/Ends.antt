-- What carrying gives.
use Rattle.std.specs.Prelude.{◌≡◌, ℕ, List, Option, Some, None}
use Rattle.ff_tables.specs.declared.terms.Constraint.{Constraint}
use Rattle.ff_tables.specs.declared.givens.Given.{Given}
use Rattle.ff_propagate.specs.declared.facts.Fact.{Fact}
use Rattle.ff_propagate.specs.declared.facts.ClashAt.{ClashAt}
use Rattle.ff_propagate.specs.declared.facts.ClashAt.TheVariants as at
use Rattle.ff_propagate.specs.Agreeing.{Agree}
use Rattle.ff_propagate.specs.Closing.{IsFirstContradiction}
use Rattle.ff_carry.specs.declared.carrying.Opened.{Opened}
use Rattle.ff_carry.specs.declared.carrying.Opened.TheVariants.{Board, Clash}
use Rattle.ff_carry.specs.Carrying.{IsCarried}

-- the new givens agree, and the facts are the carried ones; or the first two new givens that contradict each other
abbrev pub CarriesTo : ℕ → List Constraint → List Given → List (Option Fact) → Opened → Type 0
CarriesTo vars cons gs old (Board new) = Agree gs × IsCarried vars cons gs old new
CarriesTo vars cons gs old (Clash first second) = IsFirstContradiction gs first second

-- the same of a list that was filled
abbrev pub Fills : ℕ → List Constraint → List Given → List (Option Fact) → List (Option Fact) → Option ClashAt → Type 0
Fills vars cons gs old new None = Agree gs × IsCarried vars cons gs old new
Fills vars cons gs old new (Some (at.Givens first second)) = IsFirstContradiction gs first second
Fills vars cons gs old new (Some (at.Dead c)) = ⊥

-- what a list that was filled gives
abbrev pub Opens : List (Option Fact) → Option ClashAt → Opened → Type 0
Opens fs None r = r ≡ Board fs
Opens fs (Some (at.Givens first second)) r = r ≡ Clash first second
Opens fs (Some (at.Dead c)) r = Unit {0}
