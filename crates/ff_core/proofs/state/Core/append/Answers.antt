use Rattle.std.proofs.Common.{◌≡◌, ◌+◌, ◌<◌, ◌^◌, length, arith, sym, subst, Some}
use Rattle.std.specs.Prelude.{option_map}
use Rattle.ff_journal.specs.Epochs.{last_begun}
use Rattle.ff_journal.specs.Publications.{published, IsOutcome}
use Rattle.ff_core.specs.States.{State, StandsFor}
use Rattle.ff_core.proofs.AfterSaying.{begun_few}
use Rattle.ff_core.proofs.AfterPublishing.{appended}
use Rattle.ff_core.proofs.state.Core.append.Goals as goal

pub opened-requires-clause-few : goal.opened-requires-clause-few
opened-requires-clause-few c =
    let l = begun_few c.args.self.now.journal in
    let r = c.requires.few in
    subst (λ (x : State). length c.args.case.now.starts + last_begun x.journal < 2 ^ 32) (sym c.self.view_is) (omega (arith, l, r))

pub returns-clause-stands : goal.returns-clause-stands
returns-clause-stands c = (appended c.args.case.now _ c.args.facts c.args.outcome (option_map (λ v. v.items) c.in_ok-next.next) c.args.epoch c.push.new.self
    (subst (λ (x : State). StandsFor c.args.case.now x) (sym c.self.view_is) c.requires.stands)
    (subst (λ (x : State). x.working ≡ Some c.args.facts) (sym c.self.view_is) c.requires.working)
    (subst (λ (x : State). c.args.epoch ≡ published x.journal) (sym c.self.view_is) c.requires.epoch)
    (subst (λ (x : State). IsOutcome c.args.case.now x.journal c.args.epoch c.args.outcome) (sym c.self.view_is) c.requires.right)
    c.requires.board c.in_ok-next.ensures c.in_ok-push.ensures.pushed).0
