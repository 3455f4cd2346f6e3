use Rattle.std.proofs.Common.{◌≡◌, List, Option, Some, None, sym, ap, ◌∙◌, subst, arith}
use Rattle.ff_tables.specs.declared.orders.Order.{Order}
use Rattle.ff_tables.specs.declared.terms.Term.{Term}
use Rattle.ff_tables.specs.declared.terms.Constraint.{Constraint}
use Rattle.ff_propagate.specs.declared.trail.Step.{Step}
use Rattle.ff_propagate.specs.Levels.{IsOver}
use Rattle.ff_propagate.specs.Trails.{known}
use Rattle.ff_propagate.proofs.TrailSteps.{trail_long}
use Rattle.ff_propagate.proofs.TrailVisits.{con_read}
use Rattle.ff_propagate.proofs.StepFacts.{told_by, forced_known, number_within}
use Rattle.ff_propagate.proofs.telling.tell_one.Goals as goal

pub level_over-level-requires-clause-few : goal.level_over-level-requires-clause-few
level_over-level-requires-clause-few c =
    let a = trail_long c.args.system.now.vars c.args.trail.now c.requires.trail in
    omega (arith, a, c.requires.number, c.requires.trail.few)

some_none : {A : Type 0} {o : Option Order} {s : Order} → o ≡ Some s → o ≡ None → A
some_none p q = cc

pub returns-in-None-value-clause-told : goal.returns-in-None-value-clause-told
returns-in-None-value-clause-told c = some_none
    (forced_known c.args.system.now.constraints c.args.trail.now c.args.number c.requires.forced)
    (ap (λ (x : Step). known c.args.trail.now x.var) (sym c.step-step.ensures) ∙ sym c.value.ensures
    ∙ c.in-None-value.is)

pub returns-in-Some-value-clause-told : goal.returns-in-Some-value-clause-told
returns-in-Some-value-clause-told c = told_by c.args.system.now.vars c.args.system.now.constraints
    c.args.givens.now c.args.trail.now c.args.number c.args.facts.now c.requires.trail c.requires.number
    c.requires.forced c.requires.told c.step-step.result c.step-step.ensures c.in-Some.c c.in-Some.is
    c.in-Some-value.value (sym c.value.ensures ∙ c.in-Some-value.is) c.index-as_slice-c.result
    (con_read c.args.system.now.constraints _ c.in-Some.c c.index-as_slice-c.result c.as_slice.ensures
    (number_within c.args.system.now.constraints c.args.trail.now c.args.number c.requires.forced
    c.step-step.result c.step-step.ensures c.in-Some.c c.in-Some.is) c.index-as_slice-c.is)
    c.level_over-level.result c.level_over-level.ensures.some
    (subst (λ (d : Constraint). IsOver c.args.facts.now d.terms c.level_over-level.result)
    (sym c.index-as_slice-c.is)
    (subst (λ (ts : List Term). IsOver c.args.facts.now ts c.level_over-level.result)
    c.as_slice-terms.ensures.value c.level_over-level.ensures.over))
    c.level_over-level.ensures.low
