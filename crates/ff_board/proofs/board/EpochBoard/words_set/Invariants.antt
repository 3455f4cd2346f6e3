use Rattle.std.proofs.Common.{ℕ, ◌≡◌, ◌≤◌, ◌<◌, Some}
use Rattle.ff_propagate.specs.declared.facts.Fact.{Fact}
use Rattle.ff_propagate.specs.Facts.{fact_at}
use Rattle.ff_propagate.specs.declared.words.Held.{Held}
use Rattle.ff_propagate.specs.Words.{held}
use Rattle.ff_board.specs.Facts.{Grows, AllIn}
use Rattle.ff_board.specs.Rule.{set_below}
use Rattle.ff_board.specs.Views.{GoesOn}
use Rattle.ff_board.proofs.board.EpochBoard.words_set.Given as goal

abbrev pub invariant-loop-v : goal.invariant-loop-v
invariant-loop-v l = record {
  goes : GoesOn l.initial.seat l.seat;
  counted : l.count ≡ set_below l.v l.seat.view.seen;
  small : l.count ≤ l.v;
  opened : (u : ℕ) (f : Fact) → u < l.v → fact_at l.self.opening.facts u ≡ Some f → (m : ℕ) × (held l.seat.view.seen u ≡ Some (record { fact = f; marks = m }));
}
