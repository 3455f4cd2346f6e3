use Rattle.std.proofs.Common.{◌<◌, sym, subst, slice_index}
use Rattle.ff_basics.proofs.NumberedLists.{length_in}
use Rattle.ff_basics.specs.NumberedLists.{lists_in}
use Rattle.ff_trans.proofs.Indexes.{put_more}
use Rattle.ff_trans.proofs.index.put_cell.Goals as goal

pub loop-j-preserved : goal.loop-j-preserved
loop-j-preserved c = put_more c.args.faces.now c.loop-j.j c.args.cell (lists_in c.args.lists.now) (lists_in c.loop-j.lists) (lists_in c.put.new.lists)
    c.requires.rising c.loop-j-test.true (subst (λ n. slice_index c.args.faces.now c.loop-j.j < n) (sym (length_in c.args.lists.now)) (c.requires.below c.loop-j.j 0 c.loop-j-test.true))
    c.loop-j.invariant c.in_ok-put.ensures
