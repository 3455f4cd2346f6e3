use Rattle.std.proofs.Common.{w64}
use Rattle.ff_whole.proofs.Bounds.{read}
use Rattle.ff_lines.proofs.Apart.{apart_in_y, less_of}
use Rattle.ff_lines.proofs.pairs.is_above.Goals as goal

pub returns : goal.returns
returns c = λ t.
    let h = c.high_of.ensures in let l = c.low_of.ensures in
    apart_in_y c.args.k c.args.l c.requires.first c.requires.second c.high_of.result.y c.low_of.result.y
    (less_of _ _ _ _ (read w64 h.near.y_below tt).is (read w64 l.near.y_below tt).is t) h.first_y h.second_y l.first_y l.second_y
