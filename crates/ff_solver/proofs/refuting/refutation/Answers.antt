use Rattle.std.proofs.Common.{refl, sym, subst, List, []}
use Rattle.ff_propagate.specs.Facts.{value_at}
use Rattle.ff_solver.specs.declared.steps.Step.{Step}
use Rattle.ff_solver.specs.Steps.{Runs}
use Rattle.ff_solver.proofs.Started.{begun}
use Rattle.ff_solver.proofs.Rooted.{root_naming, root_places, root_unsolved, root_at}
use Rattle.ff_solver.proofs.refuting.refutation.Goals as goal

pub run-requires-clause-naming : goal.run-requires-clause-naming
run-requires-clause-naming c = root_naming _ c.args.facts.now c.args.part.now.vars c.args.part.now.touching c.in_ok-root.root.names.items c.in_ok-root.root.places c.in_ok-root.root.uses c.in_ok-root.root.path c.in_ok-root.ensures c.as_slice-2.ensures.value c.as_slice-3.ensures c.as_slice.ensures

pub run-requires-clause-few : goal.run-requires-clause-few
run-requires-clause-few c = c.in_ok-root.ensures.few

pub run-requires-clause-uses : goal.run-requires-clause-uses
run-requires-clause-uses c = c.in_ok-root.ensures.uses_are

pub run-requires-clause-places : goal.run-requires-clause-places
run-requires-clause-places c = root_places _ c.args.facts.now c.args.part.now.vars c.args.part.now.touching c.in_ok-root.root.names.items c.in_ok-root.root.places c.in_ok-root.root.uses c.in_ok-root.root.path c.in_ok-root.ensures c.as_slice-2.ensures.value c.as_slice-3.ensures c.as_slice.ensures c.args.case.now.system.vars refl c.requires.part
    (begun c.args.case.now.system.vars c.args.case.now.system.constraints c.requires.board.0 c.args.facts.now c.args.part.now.vars
    c.args.part.now.touching c.in_ok-root.root.names.items c.in_ok-root.root.system c.in_ok-root.root.places c.in_ok-root.root.uses
    c.in_ok-root.root.path c.args.case.now.system.fit c.requires.board.1 c.requires.part c.in_ok-root.ensures).within

pub run-requires-clause-path : goal.run-requires-clause-path
run-requires-clause-path c = c.in_ok-root.ensures.is_path

pub run-requires-clause-ready : goal.run-requires-clause-ready
run-requires-clause-ready c = (begun c.args.case.now.system.vars c.args.case.now.system.constraints c.requires.board.0 c.args.facts.now c.args.part.now.vars
    c.args.part.now.touching c.in_ok-root.root.names.items c.in_ok-root.root.system c.in_ok-root.root.places c.in_ok-root.root.uses
    c.in_ok-root.root.path c.args.case.now.system.fit c.requires.board.1 c.requires.part c.in_ok-root.ensures).ready

pub run-requires-clause-none : goal.run-requires-clause-none
run-requires-clause-none c = root_unsolved c.args.case.now.system.constraints c.args.facts.now c.args.part.now.vars c.args.part.now.touching
    c.in_ok-root.root.names.items c.in_ok-root.root.system c.in_ok-root.root.places _ c.in_ok-root.root.uses c.in_ok-root.root.path
    c.in_ok-root.ensures c.as_slice.ensures
    (begun c.args.case.now.system.vars c.args.case.now.system.constraints c.requires.board.0 c.args.facts.now c.args.part.now.vars
    c.args.part.now.touching c.in_ok-root.root.names.items c.in_ok-root.root.system c.in_ok-root.root.places c.in_ok-root.root.uses
    c.in_ok-root.root.path c.args.case.now.system.fit c.requires.board.1 c.requires.part c.in_ok-root.ensures) c.requires.none

pub returns : goal.returns
returns c = subst (λ (steps : List Step). Runs c.args.case.now.system.vars c.args.case.now.system.constraints (value_at c.args.facts.now) [] [] steps)
    (sym c.of.ensures)
    (c.in_ok-run.ensures.refuted (value_at c.args.facts.now)
    (root_at _ c.args.facts.now c.args.part.now.vars c.args.part.now.touching c.in_ok-root.root.names.items c.in_ok-root.root.places
    c.in_ok-root.root.uses c.in_ok-root.root.path c.in_ok-root.ensures c.as_slice-2.ensures.value c.as_slice-3.ensures c.as_slice.ensures
    c.new.result.items c.new.ensures.items))
