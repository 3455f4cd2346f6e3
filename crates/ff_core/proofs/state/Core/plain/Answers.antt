use Rattle.std.proofs.Common.{sym, subst}
use Rattle.ff_journal.specs.Journals.{IsLegal}
use Rattle.ff_core.specs.States.{State, StandsFor}
use Rattle.ff_core.proofs.Heard.{shown_last}
use Rattle.ff_core.proofs.state.Core.plain.Goals as goal

pub reply-requires-clause-legal : goal.reply-requires-clause-legal
reply-requires-clause-legal c = (c.args.self.now.budget, subst (λ (x : State). IsLegal c.args.case.now c.args.self.now.budget x.journal) (sym c.self.view_is) c.requires.stands.legal)

pub reply-requires-clause-shown : goal.reply-requires-clause-shown
reply-requires-clause-shown c = shown_last c.args.case.now _ c.in-Some.facts
    (subst (λ (x : State). StandsFor c.args.case.now x) (sym c.self.view_is) c.requires.stands) c.in-Some.is
