use Rattle.std.proofs.Common.{◌∙◌, refl, ap}
use Rattle.ff_viewer.specs.declared.commands.Command.TheVariants.{Ask}
use Rattle.ff_viewer.specs.declared.commands.Question.TheVariants.{Page, Stack}
use Rattle.ff_told.proofs.Asked.{asked_said, asked_names}
use Rattle.ff_core.proofs.state.Core.answer.Goals as goal

pub returns-in_ok-told-in-Page-clause-said : goal.returns-in_ok-told-in-Page-clause-said
returns-in_ok-told-in-Page-clause-said c = asked_said c.args.case.now c.args.self.now.budget c.args.self.now.journal c.args.viewer c.args.command.now (Page c.in-Page.part c.in-Page.page)
    c.in_ok-told-in-Page.told (c.requires.asks ∙ ap Ask c.in-Page.is) refl c.in_ok-told-in-Page.ensures.answers

pub returns-in_ok-told-in-Page-clause-names : goal.returns-in_ok-told-in-Page-clause-names
returns-in_ok-told-in-Page-clause-names c = asked_names c.args.case.now c.args.self.now.shown c.args.self.now.journal c.args.viewer c.args.command.now (Page c.in-Page.part c.in-Page.page)
    c.in_ok-told-in-Page.told (c.requires.asks ∙ ap Ask c.in-Page.is) refl

pub returns-in_ok-told-in-Stack-clause-said : goal.returns-in_ok-told-in-Stack-clause-said
returns-in_ok-told-in-Stack-clause-said c = asked_said c.args.case.now c.args.self.now.budget c.args.self.now.journal c.args.viewer c.args.command.now (Stack c.in-Stack.choice)
    c.in_ok-told-in-Stack.told (c.requires.asks ∙ ap Ask c.in-Stack.is) refl c.in_ok-told-in-Stack.ensures.answers

pub returns-in_ok-told-in-Stack-clause-names : goal.returns-in_ok-told-in-Stack-clause-names
returns-in_ok-told-in-Stack-clause-names c = asked_names c.args.case.now c.args.self.now.shown c.args.self.now.journal c.args.viewer c.args.command.now (Stack c.in-Stack.choice)
    c.in_ok-told-in-Stack.told (c.requires.asks ∙ ap Ask c.in-Stack.is) refl
