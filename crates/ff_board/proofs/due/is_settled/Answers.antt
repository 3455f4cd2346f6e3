use Rattle.std.proofs.Common.{rules, ◌≡◌, ℕ, List, length, subst}
use Rattle.ff_tables.specs.declared.terms.Term.{Term}
use Rattle.ff_tables.specs.Forces.{AreKnown}
use Rattle.ff_propagate.specs.Facts.{value_at}
use Rattle.ff_board.proofs.due.is_settled.Goals as goal

pub returns-in-Nothing : goal.returns-in-Nothing
returns-in-Nothing c _ = (
  subst (λ (ts : List Term). AreKnown ts (value_at c.args.facts.now) (length ts)) c.as_slice.ensures.value (c.are_known.ensures (search rules)),
  c.in-Nothing.ensures.0,
)
