use Rattle.std.proofs.Common.{◌≡◌, ℕ, ◌<◌, length, get_or, true, false}
use Rattle.ff_desk.proofs.demands.mark_all.Given as goal

abbrev pub invariant-loop-p : goal.invariant-loop-p
invariant-loop-p l = (length l.marks ≡ length l.fn.marks) × ((q : ℕ) → q < l.p → get_or l.marks q false ≡ true)
