use Rattle.std.proofs.Common.{ℕ, ◌≡◌, ◌≢◌, ◌+◌, ◌-◌, ◌^◌, ◌<◌, ◌≤◌, length, true, Some}
use Rattle.ff_tables.specs.Orders.{term_at}
use Rattle.ff_propagate.specs.declared.words.Held.{Held}
use Rattle.ff_propagate.specs.Words.{held}
use Rattle.ff_board.specs.Facts.{Lower, Grows, is_marked}
use Rattle.ff_board.specs.Views.{GoesOn}
use Rattle.ff_board.proofs.board.EpochBoard.marks.Given as goal

abbrev pub invariant-loop-left : goal.invariant-loop-left
invariant-loop-left l = record {
  goes : GoesOn l.initial.seat l.seat;
  inside : l.left ≤ length l.terms;
  few : l.marks < 2 ^ (length l.terms - l.left);
  marked : (k : ℕ) → k + l.left < length l.terms → is_marked l.marks k ≡ true → Lower l.seat.view.seen l.level (term_at l.terms (k + l.left)).var;
  all : (k : ℕ) (g : Held) → k + l.left < length l.terms → (term_at l.terms (k + l.left)).var ≢ l.var → held l.initial.seat.view.seen (term_at l.terms (k + l.left)).var ≡ Some g → g.fact.level < l.level → is_marked l.marks k ≡ true;
}

abbrev pub decreases-loop-left : goal.decreases-loop-left
decreases-loop-left l = l.left
