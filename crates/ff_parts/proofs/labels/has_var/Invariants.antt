use Rattle.std.proofs.Common.{◌≡◌, ℕ, ◌<◌}
use Rattle.ff_tables.specs.Orders.{term_at}
use Rattle.ff_parts.proofs.labels.has_var.Given as goal

abbrev pub invariant-loop-j : goal.invariant-loop-j
invariant-loop-j l = (i : ℕ) → i < l.j → (term_at l.terms i).var ≡ l.var → ⊥
