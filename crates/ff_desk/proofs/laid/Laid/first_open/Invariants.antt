use Rattle.std.proofs.Common.{ℕ, ◌<◌}
use Rattle.ff_desk.specs.Searched.{IsOpenMarked}
use Rattle.ff_desk.proofs.laid.Laid.first_open.Given as goal

abbrev pub invariant-loop-p : goal.invariant-loop-p
invariant-loop-p l = (q : ℕ) → q < l.p → IsOpenMarked l.case.system.constraints l.self l.marks q → ⊥
