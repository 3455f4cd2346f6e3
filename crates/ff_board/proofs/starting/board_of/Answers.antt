use Rattle.std.proofs.Common.{rules, ◌≡◌, List, ℕ, [], sym, subst}
use Rattle.atomic_table.specs.Table.{opening}
use Rattle.ff_board.specs.Rule.{Kept, Stand, starting}
use Rattle.ff_board.specs.declared.opening.Opening.{Opening}
use Rattle.ff_board.proofs.Steps.{starts, learned_at}
use Rattle.ff_board.proofs.starting.board_of.Goals as goal

pub of_words-requires : goal.of_words-requires
of_words-requires c = subst (λ (z : Opening). Kept z (opening c.args.words.now [] (starting z))) (sym c.of-key.ensures) (starts c.args.opening c.args.words.now c.requires.stand)

pub invariant_of-result : goal.invariant_of-result
invariant_of-result c = learned_at _ c.args.opening (search rules)
