use Rattle.std.proofs.Common.{◌≡◌, ℕ, ◌+◌, ◌<◌, ◌≤◌, Some}
use Rattle.ff_tables.specs.Orders.{term_at}
use Rattle.ff_propagate.specs.declared.facts.Fact.{Fact}
use Rattle.ff_propagate.specs.Facts.{fact_at}
use Rattle.ff_propagate.proofs.levels.level_over.Given as goal

abbrev pub invariant-loop-j : goal.invariant-loop-j
invariant-loop-j l = ((i : ℕ) (h : Fact) → i < l.j → fact_at l.facts (term_at l.terms i).var ≡ Some h
    → h.level < l.level) × (0 < l.level) × (l.level ≤ l.most + 1)
