use Rattle.std.proofs.Common.{ℕ, ◌≡◌, ◌+◌, ◌<◌, ◌≤◌, ◌⊎◌, length, true, false, slice_get, Some}
use Rattle.ff_propagate.specs.declared.words.Held.{Held}
use Rattle.ff_tables.specs.declared.terms.Constraint.{Constraint}
use Rattle.ff_tables.specs.Orders.{term_at}
use Rattle.ff_propagate.specs.declared.facts.Fact.{Fact}
use Rattle.ff_propagate.specs.declared.facts.Reason.TheVariants as by
use Rattle.ff_propagate.specs.Facts.{fact_at}
use Rattle.ff_propagate.specs.Words.{held}
use Rattle.ff_board.specs.Facts.{Grows, Sound, cons_in, is_marked}
use Rattle.ff_board.specs.Rule.{words_set}
use Rattle.ff_board.specs.Views.{GoesOn}
use Rattle.ff_board.proofs.board.EpochBoard.round.Given as goal

abbrev pub invariant-loop-v : goal.invariant-loop-v
invariant-loop-v l = record {
  goes : GoesOn l.initial.seat l.seat;
  covers : Grows l.words l.seat.view.seen;
  noted : (u : ℕ) → u < l.v → held l.words u ≡ held l.seat.view.seen u;
  quiet : (l.fresh ≡ true) ⊎ (l.words ≡ l.initial.words);
  more : words_set l.initial.words ≤ words_set l.words;
  less : l.fresh ≡ true → words_set l.initial.words < words_set l.words;
  backed : (u : ℕ) (h : Held) → held l.initial.seat.view.seen u ≡ Some h → (d : ℕ) → h.fact.reason ≡ by.Forced d → (con : Constraint) → slice_get (cons_in l.self.opening) d ≡ Some con → (j : ℕ) → j < length con.terms → is_marked h.marks j ≡ true → (term_at con.terms j).var < l.v → (g : Held) × (held l.seat.view.seen (term_at con.terms j).var ≡ Some g);
  sound : 0 < l.v → Sound l.self.opening l.seat.view.seen;
  opened : (u : ℕ) (f : Fact) → u < l.v → fact_at l.self.opening.facts u ≡ Some f → (m : ℕ) × (held l.seat.view.seen u ≡ Some (record { fact = f; marks = m }));
}
