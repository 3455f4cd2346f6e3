use Rattle.std.proofs.Common.{◌<◌, length, refl, subst, ◌∷◌}
use Rattle.ff_refute.specs.Marks.{IsRoot}
use Rattle.ff_refute.specs.Telling.{IsAtSteps}
use Rattle.ff_refute.proofs.Stepping.{by_there, var_there, if_ok, step_set, step_try, step_dead}
use Rattle.ff_refute.proofs.making.Maker.write_step.Goals as goal

pub try_value-requires : goal.try_value-requires
try_value-requires c = record { var = var_there (λ k. k < c.args.case.now.system.vars) c.args.step _ c.in-Try.var c.in-Try.is refl c.requires.var }

pub force-requires-clause-c : goal.force-requires-clause-c
force-requires-clause-c c = by_there (λ k. k < length c.args.case.now.system.constraints) c.args.step _ c.in-Set.by c.in-Set.is refl c.requires.there

pub force-requires-clause-var : goal.force-requires-clause-var
force-requires-clause-var c = var_there (λ k. k < c.args.case.now.system.vars) c.args.step _ c.in-Set.var c.in-Set.is refl c.requires.var

pub dead-requires : goal.dead-requires
dead-requires c = record { c = by_there (λ k. k < length c.args.case.now.system.constraints) c.args.step _ c.in-Dead.by c.in-Dead.is refl c.requires.there }

pub returns-in-Try : goal.returns-in-Try
returns-in-Try c = if_ok c.try_value.result c.try_value.ensures (λ tries pins value marks rest roots at.
    step_try c.args.case.now pins value marks c.in-Try.var rest c.args.self.now c.try_value.new.self
    (subst (λ q. IsAtSteps c.args.case.now pins value marks (q ∷ rest) c.args.self.now) c.in-Try.is at) tries)

pub returns-in-Set : goal.returns-in-Set
returns-in-Set c = if_ok c.force.result c.force.ensures (λ force pins value marks rest roots at.
    step_set c.args.case.now pins value marks c.in-Set.var c.in-Set.value c.in-Set.by rest c.args.self.now c.force.new.self
    (by_there (IsRoot c.args.case.now.system.constraints marks) c.args.step _ c.in-Set.by c.in-Set.is refl roots)
    (subst (λ q. IsAtSteps c.args.case.now pins value marks (q ∷ rest) c.args.self.now) c.in-Set.is at) force)

pub returns-in-Dead : goal.returns-in-Dead
returns-in-Dead c = if_ok c.dead.result c.dead.ensures (λ close pins value marks rest roots at.
    step_dead c.args.case.now pins value marks c.in-Dead.by rest c.args.self.now c.dead.new.self
    (by_there (IsRoot c.args.case.now.system.constraints marks) c.args.step _ c.in-Dead.by c.in-Dead.is refl roots)
    (subst (λ q. IsAtSteps c.args.case.now pins value marks (q ∷ rest) c.args.self.now) c.in-Dead.is at) close)
