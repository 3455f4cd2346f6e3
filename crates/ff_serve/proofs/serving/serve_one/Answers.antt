use Rattle.std.proofs.Common.{rules, ◌≡◌, subst}
use Rattle.ff_core.specs.declared.events.Event.{Event}
use Rattle.ff_core.specs.Steps.{IsStep}
use Rattle.ff_serve.specs.Served.{event_of}
use Rattle.ff_serve.specs.Reaching.{Happens}
use Rattle.ff_serve.proofs.Quieted.{on_ok}
use Rattle.ff_serve.proofs.Commands.{IsAfterSaid, step_says, after_said, served}
use Rattle.ff_serve.proofs.serving.serve_one.Goals as goal

pub publish_begun-requires-clause-next : goal.publish_begun-requires-clause-next
publish_begun-requires-clause-next g c =
    let h = subst (λ (e : Event). Happens c.args.case.now c.args.core.now e c.happen.new.core) c.in_ok-event.ensures c.in_ok-happen.ensures.happens in
    (after_said c.args.case.now c.args.core.now c.happen.new.core c.args.viewer c.args.command.now h.0 c.requires.all
    (step_says c.args.case.now c.args.core.now c.happen.new.core c.args.viewer c.args.command.now h.0 h.1)).next

pub returns-clause-served : goal.returns-clause-served
returns-clause-served g c =
    let h = subst (λ (e : Event). Happens c.args.case.now c.args.core.now e c.happen.new.core) c.in_ok-event.ensures c.in_ok-happen.ensures.happens in
    let after = after_said c.args.case.now c.args.core.now c.happen.new.core c.args.viewer c.args.command.now h.0 c.requires.all
    (step_says c.args.case.now c.args.core.now c.happen.new.core c.args.viewer c.args.command.now h.0 h.1) in
    on_ok c.publish_begun.result (served c.args.case.now c.args.viewer c.args.command.now c.args.core.now c.happen.new.core c.publish_begun.new.core after)
    c.publish_begun.ensures.more
