use Rattle.std.proofs.Common.{◌≡◌, ◌<◌, ℕ, rules, sym, subst, Option, None}
use Rattle.ff_propagate.specs.declared.facts.Fact.{Fact}
use Rattle.ff_propagate.specs.Words.{held_of}
use Rattle.ff_board.specs.Opened.{HeldOf}
use Rattle.ff_propagate.proofs.Packs.{held_zero}
use Rattle.ff_board.proofs.starting.opening_word.Goals as goal

pub write_word-requires : goal.write_word-requires
write_word-requires c = let r = c.requires.room c.in-Some.fact (sym c.in-Some.ensures) in (c.marks_of.ensures.few, r.0, r.1)

pub returns-in-None : goal.returns-in-None
returns-in-None c = subst (λ (x : Option Fact). HeldOf c.args.constraints.now c.args.facts.now x (held_of 0)) c.in-None.ensures held_zero
