use Rattle.std.proofs.Common.{◌+◌, ◌<◌, ◌∙◌, ap, arith, sym, subst, List, ℕ, length}
use Rattle.std.proofs.lemmas.List.{length_push}
use Rattle.ff_types.specs.Rings.{corner}
use Rattle.ff_planar.specs.Frames.{IsRingExtent}
use Rattle.ff_drawn.proofs.VertexSpots.{each_more}
use Rattle.ff_planar.proofs.Boxes.{ring_is}
use Rattle.ff_planar.proofs.frames.ring_extents.Goals as goal

pub ring_extent-requires-clause-there : goal.ring_extent-requires-clause-there
ring_extent-requires-clause-there c = let r = c.requires in subst (λ (r : List ℕ). (k : ℕ) → k < length r → corner r k < length c.args.points.now) (sym c.ring_of.ensures) (λ k l. r.there c.loop-f.f k c.loop-f-test.true l)

pub ring_extent-requires-clause-some : goal.ring_extent-requires-clause-some
ring_extent-requires-clause-some c = let r = c.requires in subst (λ (r : List ℕ). 0 < length r) (sym c.ring_of.ensures) (r.some c.loop-f.f c.loop-f-test.true)

pub loop-f-preserved : goal.loop-f-preserved
loop-f-preserved c =
    let v = c.loop-f.invariant in
    let x = c.ring_extent.ensures in
    rw c.in_ok-push.ensures.items (record {
      count = length_push c.loop-f.list.items _ ∙ ap (λ n. n + 1) v.count;
      each = each_more (IsRingExtent c.args.points.now c.args.rings.now) c.loop-f.list.items c.loop-f.f _ v.count v.each (ring_is c.args.points.now c.args.rings.now c.loop-f.f c.ring_of.result.now _ c.loop-f-test.true c.ring_of.ensures x.number x.around) x.number;
    })

pub returns : goal.returns
returns c = let v = c.loop-f.invariant in let n = v.count in record {
  each = λ i l. (v.each i (omega (arith, l, n))).0;
  all = λ k l. let m : k < c.loop-f.f = omega (arith, l, c.loop-f-test.false) in (k, omega (arith, m, n), (v.each k m).1);
}
