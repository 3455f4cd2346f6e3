use Rattle.std.proofs.Common.{ℕ, ◌≡◌, ◌+◌, ◌<◌, ◌≤◌, ◌⊎◌, length, Some}
use Rattle.ff_tables.specs.declared.orders.Order.{Order}
use Rattle.ff_tables.specs.Orders.{term_at}
use Rattle.ff_propagate.specs.declared.words.Held.{Held}
use Rattle.ff_propagate.specs.Words.{held}
use Rattle.ff_board.specs.Facts.{vars_in, Grows}
use Rattle.ff_board.specs.Found.{value_in}
use Rattle.ff_board.specs.Standing.{top_level}
use Rattle.ff_board.specs.Swept.{Base}
use Rattle.ff_board.specs.Views.{GoesOn}
use Rattle.ff_board.proofs.board.EpochBoard.terms.Given as goal

abbrev pub invariant-loop-j : goal.invariant-loop-j
invariant-loop-j l = record {
  goes : GoesOn l.initial.seat l.seat;
  wide : length l.values ≡ length l.initial.values;
  before : (i : ℕ) (s : Order) → i < l.j → Base l.self.opening l.initial.seat.view.seen (term_at l.terms i).var s → value_in l.values i ≡ Some s;
  after : (i : ℕ) (s : Order) → i < l.j → value_in l.values i ≡ Some s → (h : Held) × (held l.seat.view.seen (term_at l.terms i).var ≡ Some h) × (h.fact.value ≡ s) × (h.fact.level ≤ l.top);
  bound : l.top ≤ top_level l.self.opening.facts + vars_in l.self.opening;
  level : (l.top ≡ 0) ⊎ ((u : ℕ) × (h : Held) × (held l.seat.view.seen u ≡ Some h) × (h.fact.level ≡ l.top));
}
