use Rattle.std.proofs.Common.{ℕ, ◌+◌, arith, subst, IfOk}
use Rattle.ff_pages.specs.Paging.{RunsTo}
use Rattle.ff_pages.proofs.Closing.{runs_none}
use Rattle.ff_pages.proofs.pages.Pages.run_for.Goals as goal

pub returns-then-more-cost-clause-ran : goal.returns-then-more-cost-clause-ran
returns-then-more-cost-clause-ran c = runs_none c.args.case.now.system.constraints c.args.self.now c.args.more c.cost.result c.cost.ensures c.if-more-cost.true

pub overflow_add-target : goal.overflow_add-target
overflow_add-target c = let e = (c.spent.ensures c.args.case.now.system.vars c.args.case.now.system.constraints c.requires.stands) in omega (arith, e, c.requires.more, c.requires.stands.few)

pub run_to-requires-clause-spent : goal.run_to-requires-clause-spent
run_to-requires-clause-spent c = let e = (c.spent.ensures c.args.case.now.system.vars c.args.case.now.system.constraints c.requires.stands) in omega (arith, e)

pub run_to-requires-clause-target : goal.run_to-requires-clause-target
run_to-requires-clause-target c = let e = (c.spent.ensures c.args.case.now.system.vars c.args.case.now.system.constraints c.requires.stands) in omega (arith, e, c.requires.more)

pub returns-clause-ran : goal.returns-clause-ran
returns-clause-ran c = subst (λ (n : ℕ). IfOk c.run_to.result (λ _. RunsTo c.args.case.now.system.constraints (n + c.args.more) c.run_to.new.self))
    (c.spent.ensures c.args.case.now.system.vars c.args.case.now.system.constraints c.requires.stands) c.run_to.ensures.ran
