use Rattle.std.proofs.Common.{◌+◌, ◌<◌, ◌^◌, length, arith, sym, subst}
use Rattle.ff_journal.specs.Epochs.{last_begun}
use Rattle.ff_core.specs.States.{State}
use Rattle.ff_core.proofs.AfterSaying.{begun_few}
use Rattle.ff_core.proofs.state.Core.conclude.Goals as goal

pub outcome_of-requires-clause-few : goal.outcome_of-requires-clause-few
outcome_of-requires-clause-few c =
    let l = begun_few c.args.self.now.journal in
    let r = c.requires.few in
    subst (λ (x : State). length c.args.case.now.starts + last_begun x.journal < 2 ^ 32) (sym c.self.view_is) (omega (arith, l, r))
