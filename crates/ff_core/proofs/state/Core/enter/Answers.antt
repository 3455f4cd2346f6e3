use Rattle.std.proofs.Common.{◌+◌, ◌<◌, ◌^◌, ◌∙◌, length, arith, ap, sym, subst}
use Rattle.ff_journal.specs.declared.entries.Entry.TheVariants.{Said}
use Rattle.ff_journal.specs.Journals.{IsSaid, commands_of}
use Rattle.ff_journal.specs.Shown.{NamesFit}
use Rattle.ff_core.specs.States.{State, StandsFor}
use Rattle.ff_core.proofs.Heard.{Enters, entered_all, entered_room}
use Rattle.ff_core.proofs.state.Core.enter.Goals as goal

pub reopen-requires-clause-few : goal.reopen-requires-clause-few
reopen-requires-clause-few c =
    let r = subst (λ (x : State). length c.args.case.now.starts + length x.journal < 2 ^ 32) (sym c.self.view_is) c.requires.few in
    let l = entered_room c.args.case.now c.self.inside.budget c.self.inside.journal c.push.new.self c.args.viewer c.entries_of-index.result c.args.command c.args.told c.in_ok-push.ensures.pushed
    (subst (λ (x : State). IsSaid c.args.case.now x.budget x.journal c.args.viewer (length (commands_of c.args.viewer x.journal)) c.args.command c.args.told) (sym c.self.view_is) c.requires.said) in
    omega (arith, l, r)

pub returns-in-Ok-clause-stands : goal.returns-in-Ok-clause-stands
returns-in-Ok-clause-stands c = (entered_all c.args.case.now _ c.reopen.new.self c.push.new.self c.args.viewer c.entries_of-index.result c.args.command c.args.told
    (subst (λ (x : State). StandsFor c.args.case.now x) (sym c.self.view_is) c.requires.stands) c.in_ok-push.ensures.pushed
    (c.entries_of-index.ensures ∙ ap (λ j. length (commands_of c.args.viewer j)) c.as_slice.ensures)
    (subst (λ (x : State). IsSaid c.args.case.now x.budget x.journal c.args.viewer (length (commands_of c.args.viewer x.journal)) c.args.command c.args.told) (sym c.self.view_is) c.requires.said)
    (subst (λ (x : State). NamesFit c.args.case.now x.shown (Said c.args.viewer (length (commands_of c.args.viewer x.journal)) c.args.command c.args.told)) (sym c.self.view_is) c.requires.names)
    c.in-Ok.ensures.opened).0

pub returns-in-Ok-clause-entered : goal.returns-in-Ok-clause-entered
returns-in-Ok-clause-entered c = subst (λ (x : State). Enters c.args.case.now x c.args.viewer c.args.command c.args.told c.reopen.new.self) c.self.view_is
    (entered_all c.args.case.now _ c.reopen.new.self c.push.new.self c.args.viewer c.entries_of-index.result c.args.command c.args.told
    (subst (λ (x : State). StandsFor c.args.case.now x) (sym c.self.view_is) c.requires.stands) c.in_ok-push.ensures.pushed
    (c.entries_of-index.ensures ∙ ap (λ j. length (commands_of c.args.viewer j)) c.as_slice.ensures)
    (subst (λ (x : State). IsSaid c.args.case.now x.budget x.journal c.args.viewer (length (commands_of c.args.viewer x.journal)) c.args.command c.args.told) (sym c.self.view_is) c.requires.said)
    (subst (λ (x : State). NamesFit c.args.case.now x.shown (Said c.args.viewer (length (commands_of c.args.viewer x.journal)) c.args.command c.args.told)) (sym c.self.view_is) c.requires.names)
    c.in-Ok.ensures.opened).1
