use Rattle.std.proofs.Common.{rules, arith, sym}
use Rattle.ff_viewer.proofs.Words.{none_at, numbers_step}
use Rattle.ff_viewer.proofs.numbers.numbers_in.Goals as goal

pub returns-in-None : goal.returns-in-None
returns-in-None c = sym (none_at c.args.words.now c.loop-word.word-index _ (omega arith) (sym c.in-None.ensures))

pub loop-word-preserved : goal.loop-word-preserved
loop-word-preserved c = numbers_step c.args.words.now c.loop-word.word-index _ c.loop-word.list.items c.push.new.self.items c.in-Some.n (omega arith) c.loop-word.invariant
    (sym c.in-Some.ensures) (search rules)
