use Rattle.std.proofs.Common.{ap, refl}
use Rattle.ff_propagate.specs.declared.parts.Part.{Part}
use Rattle.ff_solver.proofs.Started.{started}
use Rattle.ff_solver.proofs.starting.start.Goals as goal

pub returns-clause-stands : goal.returns-clause-stands
returns-clause-stands c = started c.args.case.now.system.vars c.args.case.now.system.constraints c.requires.board.0 c.args.facts.now
    c.args.part.now.vars c.args.part.now.touching c.in_ok-root.root.names.items _ c.args.case.now.system.fit c.requires.board.1
    c.requires.part c.in_ok-root.ensures (ap (λ (p : Part). p.vars) c.in_ok-copy.ensures) refl
