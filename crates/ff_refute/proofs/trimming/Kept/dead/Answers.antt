use Rattle.std.proofs.Common.{◌∙◌, ap, ◌∷◌, ◌++◌, []}
use Rattle.ff_solver.specs.declared.steps.Step.TheVariants as step
use Rattle.ff_refute.proofs.Trimmed.{dead_enough}
use Rattle.ff_refute.proofs.Rested.{dead_lean}
use Rattle.ff_refute.proofs.trimming.Kept.dead.Goals as goal

pub returns-clause-enough : goal.returns-clause-enough
returns-clause-enough c value held dead = dead_enough c.args.system.now.vars c.args.system.now.constraints value held
    (record { steps = c.push_back.new.self; uses = c.use_by.new.uses }) c.args.by
    (c.in_ok-push_back.ensures.items ∙ ap (λ xs. xs ++ step.Dead c.args.by ∷ []) c.new-steps.ensures.items)
    c.in_ok-use_by.ensures.covers dead

pub returns-clause-lean : goal.returns-clause-lean
returns-clause-lean c = dead_lean c.args.system.now.constraints
    (record { steps = c.push_back.new.self; uses = c.use_by.new.uses }) c.new-uses.result c.args.by
    (c.in_ok-push_back.ensures.items ∙ ap (λ xs. xs ++ step.Dead c.args.by ∷ []) c.new-steps.ensures.items)
    c.new-uses.ensures.empty c.in_ok-use_by.ensures.only
