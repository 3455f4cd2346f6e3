use Rattle.std.proofs.Common.{refl}
use Rattle.ff_solver.proofs.Visited.{closed_path, all_silent, passed_clash, solved_full, passed_fork}
use Rattle.ff_solver.proofs.path.Path.visit.Goals as goal

pub backtrack-requires : goal.backtrack-requires
backtrack-requires
    c = record { path = closed_path c.args.system.now.vars c.args.system.now.constraints c.args.self.now _ c.requires.path c.close.ensures.trail c.close.ensures.grows refl }

pub returns-in-Some-clause-passed : goal.returns-in-Some-clause-passed
returns-in-Some-clause-passed c _ value nodes = passed_clash c.args.system.now.vars
    c.args.system.now.constraints c.args.system.now.fit c.args.self.now
    (record { trail = c.close.new.self; branches = c.args.self.now.branches; next = c.args.self.now.next })
    c.backtrack.new.self
    (record { path = c.requires.path; grows = c.close.ensures.grows; same = refl })
    c.in-Some._dead c.in-Some.ensures.ends value c.args.part.now nodes
    (λ later. c.backtrack.ensures.left value c.args.part.now later)

pub branch-self-requires-clause-path : goal.branch-self-requires-clause-path
branch-self-requires-clause-path c = closed_path c.args.system.now.vars c.args.system.now.constraints
    c.args.self.now _ c.requires.path c.close.ensures.trail c.close.ensures.grows refl

pub branch-self-requires-clause-silent : goal.branch-self-requires-clause-silent
branch-self-requires-clause-silent c = all_silent c.args.system.now.constraints c.close.new.self
    c.in-None.ensures.ends

pub returns-in-None-first_open-clause-path : goal.returns-in-None-first_open-clause-path
returns-in-None-first_open-clause-path c = closed_path c.args.system.now.vars c.args.system.now.constraints
    c.args.self.now _ c.requires.path c.close.ensures.trail c.close.ensures.grows refl

pub returns-in-None-first_open-clause-solved : goal.returns-in-None-first_open-clause-solved
returns-in-None-first_open-clause-solved c _ value nodes = solved_full c.args.system.now.vars
    c.args.system.now.constraints c.args.self.now
    (record { trail = c.close.new.self; branches = c.args.self.now.branches; next = c.args.self.now.next })
    (record { path = c.requires.path; grows = c.close.ensures.grows; same = refl })
    (all_silent c.args.system.now.constraints c.close.new.self c.in-None.ensures.ends) value
    c.args.part.now nodes c.in-None-first_open.ensures

pub returns-in-Some-first_open-clause-passed : goal.returns-in-Some-first_open-clause-passed
returns-in-Some-first_open-clause-passed c _ value nodes = passed_fork c.args.system.now.vars
    c.args.system.now.constraints c.args.self.now
    (record { trail = c.close.new.self; branches = c.args.self.now.branches; next = c.args.self.now.next })
    c.branch-self.new.self
    (record { path = c.requires.path; grows = c.close.ensures.grows; same = refl })
    (all_silent c.args.system.now.constraints c.close.new.self c.in-None.ensures.ends) value
    c.args.part.now nodes c.in-Some-first_open.var c.in-Some-first_open.ensures
    (λ tried below above later. c.branch-self.ensures.left value c.args.part.now tried below above later)
