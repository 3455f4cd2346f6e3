use Rattle.std.proofs.Common.{rules, refl, sym, ap, ne_eqb, eq-eqb, cond, ◌≡◌, Bool, false, true, Option, Some, None, ◌==◌}
use Rattle.ff_propagate.specs.Words.{held_of, unpack}
use Rattle.ff_propagate.proofs.words.read_word.Goals as goal

pub returns-then-word-eq0 : goal.returns-then-word-eq0
unfolding held_of
returns-then-word-eq0 c = search rules

pub returns : goal.returns
unfolding held_of
returns c = search rules
