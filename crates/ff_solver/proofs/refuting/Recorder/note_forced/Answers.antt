use Rattle.std.proofs.Common.{◌≡◌, List, Option, Some, None, sym, ap, ◌∙◌}
use Rattle.ff_tables.specs.declared.orders.Order.{Order}
use Rattle.ff_propagate.specs.declared.trail.Step.{Step}
use Rattle.ff_propagate.specs.Trails.{known}
use Rattle.ff_solver.proofs.Noting.{forced_noted, forced_value, forced_number, same_value, same_number, name_within, number_within}
use Rattle.ff_solver.proofs.refuting.Recorder.note_forced.Goals as goal

some_none : {A T : Type 0} {o : Option T} {x : T} → o ≡ Some x → o ≡ None → A
some_none p q = cc

pub bounds-naming-step : goal.bounds-naming-step
bounds-naming-step c = name_within c.args.naming.now c.requires.naming c.args.self.now.path.trail c.args.number c.requires.trail
    c.requires.number c.step-step.result c.step-step.ensures

pub bounds-naming-by : goal.bounds-naming-by
bounds-naming-by c = number_within c.args.naming.now c.requires.naming c.args.self.now.path.trail c.args.number c.requires.forced
    c.step-step.result c.step-step.ensures c.in-Some.by c.in-Some.is

pub returns-in-None-clause-noted : goal.returns-in-None-clause-noted
returns-in-None-clause-noted c = some_none
    (forced_number c.args.naming.now.own.now.constraints c.args.self.now.path.trail c.args.number c.requires.forced c.step-step.result c.step-step.ensures)
    c.in-None.is

pub returns-in-None-value-clause-noted : goal.returns-in-None-value-clause-noted
returns-in-None-value-clause-noted c = some_none
    (forced_value c.args.naming.now.own.now.constraints c.args.self.now.path.trail c.args.number c.requires.forced)
    (ap (λ (x : Step). known c.args.self.now.path.trail x.var) (sym c.step-step.ensures) ∙ sym c.value.ensures
    ∙ c.in-None-value.is)

pub returns-in_ok-push-in-Some-value-clause-noted : goal.returns-in_ok-push-in-Some-value-clause-noted
returns-in_ok-push-in-Some-value-clause-noted c value stack = forced_noted c.args.naming.now value c.requires.naming
    c.args.self.now.path.trail stack c.args.self.now.steps.items _ c.args.number c.requires.number c.requires.forced
    c.step-step.result.var (ap (λ (x : Step). x.var) c.step-step.ensures) c.in-Some-value.value
    (same_value c.args.naming.now.own.now.constraints c.args.self.now.path.trail c.args.number c.requires.forced c.step-step.result c.step-step.ensures
    c.in-Some-value.value (sym c.value.ensures ∙ c.in-Some-value.is))
    c.in-Some.by
    (same_number c.args.naming.now.own.now.constraints c.args.self.now.path.trail c.args.number c.requires.forced c.step-step.result c.step-step.ensures
    c.in-Some.by c.in-Some.is)
    c.in_ok-push-in-Some-value.ensures.items
