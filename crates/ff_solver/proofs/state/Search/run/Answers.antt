use Rattle.std.proofs.Common.{ℕ, ◌-◌, arith, subst, sym}
use Rattle.ff_solver.specs.Searches.{IsRunning}
use Rattle.ff_solver.proofs.Running.{run_spent, run_found, run_on, run_room}
use Rattle.ff_solver.proofs.state.Search.run.Goals as goal

pub returns-then-left-cost-clause-run : goal.returns-then-left-cost-clause-run
returns-then-left-cost-clause-run c = run_spent c.args.turns c.args.self.now c.nodes.self c.nodes.left c.in-Some.head c.nodes.invariant c.in-Some.is
    (omega (arith, c.if-left-cost.true, c.cost-cost.ensures))

pub returns-then-step-clause-run : goal.returns-then-step-clause-run
returns-then-step-clause-run c = run_found c.args.turns
    c.args.self.now c.nodes.self c.step.new.self c.answer.new.self c.nodes.left c.in-Some.head c.answer.result
    c.nodes.invariant c.in-Some.is (λ l. omega (arith, l, c.if-left-cost.false, c.cost-cost.ensures))
    c.step.ensures.visited c.answer.ensures.visited c.step.ensures.same
    (c.step.ensures.solved c.if-step.true)
    c.answer.ensures.values c.answer.ensures.left

pub nodes-preserved : goal.nodes-preserved
nodes-preserved
    c = subst (λ (n : ℕ). IsRunning c.args.turns c.args.self.now c.step.new.self (c.nodes.left - n)) (sym c.cost-cost.ensures)
    (run_on c.args.turns c.args.self.now c.nodes.self
    c.step.new.self c.nodes.left c.in-Some.head c.nodes.invariant c.in-Some.is
    (λ l. omega (arith, l, c.if-left-cost.false, c.cost-cost.ensures)) (c.step.ensures.search c.if-step.false)
    c.step.ensures.same c.step.ensures.visited (c.step.ensures.passed c.if-step.false))

pub step-requires-clause-room : goal.step-requires-clause-room
step-requires-clause-room c = run_room c.args.turns
    c.args.self.now c.nodes.self c.nodes.left c.nodes.invariant
    (λ l. omega (arith, l, c.if-left-cost.false, c.cost-cost.ensures)) c.requires.turns
