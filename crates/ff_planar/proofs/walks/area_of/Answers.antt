use Rattle.std.proofs.Common.{arith, ◌≡◌, length, ap, sym, ◌∙◌}
use Rattle.ff_whole.specs.Points.{cross}
use Rattle.ff_whole.specs.Convex.{point_at}
use Rattle.ff_whole.proofs.Searches.{sum}
use Rattle.ff_types.specs.Rings.{corner}
use Rattle.ff_planar.proofs.AreaSums.{one_more}
use Rattle.ff_planar.proofs.CyclicSums.{sweep_at, area_sum}
use Rattle.ff_planar.proofs.walks.area_of.Goals as goal

pub loop-i-preserved : goal.loop-i-preserved
loop-i-preserved c =
    let few = c.requires.few in
    let points = c.args.points.now in
    let ring = c.args.ring.now in
    one_more c.loop-i.i (sweep_at points ring) _ c.sweep-area.result c.loop-i.invariant (omega (arith, few, c.loop-i-test.true))
    (c.sweep-area.ensures.value ∙ ap (λ k. cross (point_at points (corner ring c.loop-i.i)) (point_at points (corner ring k))) c.next_place.ensures.value) c.sweep-area.ensures.size

pub returns : goal.returns
returns c =
    let end : c.loop-i.i ≡ length c.args.ring.now = omega (arith, c.loop-i-test.false, c.loop-i.auto.i-end) in
    c.loop-i.invariant.value
    ∙ ap (λ k. sum k (sweep_at c.args.points.now c.args.ring.now)) end
    ∙ sym (area_sum c.args.points.now c.args.ring.now)
