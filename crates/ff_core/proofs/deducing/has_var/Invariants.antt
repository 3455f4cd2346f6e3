use Rattle.std.proofs.Common.{◌≢◌, ℕ, ◌<◌}
use Rattle.ff_tables.specs.Orders.{term_at}
use Rattle.ff_core.proofs.deducing.has_var.Given as goal

abbrev pub invariant-loop-j : goal.invariant-loop-j
invariant-loop-j l = (k : ℕ) → k < l.j → (term_at l.terms k).var ≢ l.var
