use Rattle.std.proofs.Common.{◌≡◌, ℕ, ◌+◌, ◌*◌, nat_eq, rules, refl, sym, cond, arith, Some, true, false}
use Rattle.ff_propagate.specs.Words.{held_of}
use Rattle.ff_propagate.proofs.Packs.{packed, numbers}
use Rattle.ff_propagate.proofs.words.write_word.Goals as goal

pub returns : goal.returns
returns c = let h = c.args.held in let r = c.requires in let n = c.numbered-kind.result in
    packed h c.bit_of-value.result n.0 n.1 _ c.bit_of-value.ensures.few c.numbered-kind.ensures.few c.bit_of-value.ensures.is c.numbered-kind.ensures.is r.0 (numbers h n.0 n.1 r c.numbered-kind.ensures.is) r.2 (omega arith)
