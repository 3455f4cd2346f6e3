use Rattle.ff_pairs.proofs.Marks.{mark_more}
use Rattle.ff_pairs.proofs.marking.mark_face.Goals as goal

pub returns : goal.returns
returns c = mark_more c.args.width c.args.table.now c.mark_column.new.table c.mark_row.new.table _ _ _ c.mark_column.ensures c.mark_row.ensures (λ f h. (λ t. t, λ t. t))
