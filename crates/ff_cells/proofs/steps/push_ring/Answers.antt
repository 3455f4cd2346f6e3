use Rattle.std.proofs.Common.{ap, get_or, ◌∙◌, subst}
use Rattle.ff_whole.specs.Points.{origin}
use Rattle.ff_types.specs.Rings.{corner}
use Rattle.ff_cells.specs.Steps.{way_of, AddsBar}
use Rattle.ff_cells.proofs.Stepping.{adds_one}
use Rattle.ff_cells.proofs.steps.push_ring.Goals as goal

pub loop-i-preserved : goal.loop-i-preserved
loop-i-preserved c =
    let points = c.args.points.now in
    let ring = c.args.ring.now in
    let i = c.loop-i.i in
    let w = c.way.ensures ∙ ap (λ j. way_of c.args.up (get_or points (corner ring i) origin)
    (get_or points (get_or ring j 0) origin)) c.next_place.ensures.value in
    adds_one points ring c.args.up c.args.face i c.args.bars.now.items c.loop-i.bars.items
    c.push_bar.new.bars.items c.loop-i.invariant
    (subst (λ way. AddsBar way c.args.face c.loop-i.bars.items c.push_bar.new.bars.items) w
    c.in_ok-push_bar.ensures)
