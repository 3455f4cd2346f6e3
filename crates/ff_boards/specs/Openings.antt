-- What a board may be opened with.
-- For the proofs of this crate alone.
use Rattle.std.specs.Prelude.{List, Option}
use Rattle.ff_tables.specs.declared.givens.Given.{Given}
use Rattle.ff_types.specs.declared.cases.Case.{Case}
use Rattle.ff_propagate.specs.declared.facts.Fact.{Fact}
use Rattle.ff_propagate.specs.Agreeing.{Agree}
use Rattle.ff_propagate.specs.FactRule.{MeetsFactRule}
use Rattle.ff_board.specs.Views.{AreFew}

-- the givens agree, the facts meet the fact rule under them, and there are few enough of all
pub record MayOpen (case : Case) (gs : List Given) (fs : List (Option Fact)) : Type 0 where
  pub agree : Agree gs
  pub rule : MeetsFactRule case.system.vars case.system.constraints gs fs
  pub few : AreFew case gs fs
