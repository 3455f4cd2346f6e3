use Rattle.std.proofs.Common.{sym, ap, ◌∙◌, w64, to_z}
use Rattle.std.proofs.lemmas.Bool.{eqb-true}
use Rattle.ff_whole.proofs.Bounds.{read}
use Rattle.ff_lines.proofs.Apart.{square}
use Rattle.ff_lines.proofs.pairs.is_crossed.Goals as goal

pub returns-then-k : goal.returns-then-k
returns-then-k c = λ t.
    let k = c.requires.first in let l = c.requires.second in
    square c.args.k c.args.l k l
    (sym (read w64 k.p_near.x_below tt).is ∙ ap (to_z w64) c.if-k.true ∙ (read w64 k.q_near.x_below tt).is)
    (sym (read w64 l.p_near.y_below tt).is ∙ ap (to_z w64) (eqb-true _ _ t) ∙ (read w64 l.q_near.y_below tt).is)
