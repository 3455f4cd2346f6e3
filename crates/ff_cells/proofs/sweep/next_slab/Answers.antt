use Rattle.ff_cells.proofs.Sweeping.{next_of, all_below, slab_done}
use Rattle.ff_cells.proofs.sweep.next_slab.Goals as goal

pub slab-requires : goal.slab-requires
slab-requires c =
    let left = c.args.left.now.place in let limit = c.args.limit.place in
    let right = c.next_border-right.result.place in
    let w = c.sort_bars.new.v.items in
    let sorted = c.in_ok-sort_bars.ensures.sorted in
    let n = next_of left limit right w c.deref.result.now c.args.left.now.ok.positive c.requires sorted
    c.deref.ensures.value c.next_border-right.ensures in
    all_below left limit right w c.deref-2.result.now sorted n c.deref-2.ensures.value

pub returns-clause-done : goal.returns-clause-done
returns-clause-done c =
    let left = c.args.left.now.place in let limit = c.args.limit.place in
    let right = c.next_border-right.result.place in
    let w = c.sort_bars.new.v.items in
    let sorted = c.in_ok-sort_bars.ensures.sorted in
    let n = next_of left limit right w c.deref.result.now c.args.left.now.ok.positive c.requires sorted
    c.deref.ensures.value c.next_border-right.ensures in
    let s = c.in_ok-slab.ensures in (
      s.0,
      s.1,
      slab_done c.args.bars.now.items limit left right w c.deref-2.result.now s.0
          c.sort_bars.ensures.same c.args.left.now.ok.positive c.next_border-right.result.ok.positive sorted n
          c.deref-2.ensures.value s.2,
    )
