use Rattle.ff_planar.proofs.Boxes.{none_inside, west_of_next, hollow_more}
use Rattle.std.proofs.Common.{◌<◌, ℕ, List, length, sym, subst}
use Rattle.ff_types.specs.Rings.{corner}
use Rattle.ff_drawn.specs.Extents.{extent_at}
use Rattle.ff_planar.specs.Frames.{IsAroundCorners}
use Rattle.ff_planar.proofs.frames.any_held.Goals as goal

pub holds_any-requires-clause-there : goal.holds_any-requires-clause-there
holds_any-requires-clause-there c = let r = c.requires in
    subst (λ (q : List ℕ). (k : ℕ) → k < length q → corner q k < length c.args.points.now) (sym c.ring_of-ring.ensures) (λ k l. r.there (extent_at c.args.frames.now c.loop-i.i).number k (r.frames.each c.loop-i.i c.loop-i-test.true).there l)

pub holds_any-requires-clause-some : goal.holds_any-requires-clause-some
holds_any-requires-clause-some c = let r = c.requires in
    subst (λ (q : List ℕ). 0 < length q) (sym c.ring_of-ring.ensures) (r.some (extent_at c.args.frames.now c.loop-i.i).number (r.frames.each c.loop-i.i c.loop-i-test.true).there)

pub holds_any-requires-clause-frame : goal.holds_any-requires-clause-frame
holds_any-requires-clause-frame c = let r = c.requires in
    subst (λ (q : List ℕ). IsAroundCorners c.args.points.now q (length q) (extent_at c.args.frames.now c.loop-i.i)) (sym c.ring_of-ring.ensures) (r.frames.each c.loop-i.i c.loop-i-test.true).corners

pub loop-i-preserved : goal.loop-i-preserved
loop-i-preserved c =
    let r = c.requires in
    let f = c.first_from-start.ensures in
    record {
      within = f.within;
      before = west_of_next c.args.spots.now c.args.frames.now c.loop-i.i c.first_from-start.result r.frames_in_order f.before;
      hollow = hollow_more c.args.points.now c.args.rings.now c.args.spots.now c.args.frames.now c.loop-i.i c.first_from-start.result c.ring_of-ring.result.now r.some r.spots r.frames c.loop-i-test.true c.ring_of-ring.ensures f.within f.before
          (c.holds_any.ensures c.if-holds_any.false) c.loop-i.invariant.hollow;
    }

pub returns : goal.returns
returns c = λ _. let r = c.requires in none_inside c.args.points.now c.args.rings.now c.args.spots.now c.args.frames.now c.loop-i.i r.spots r.frames c.loop-i.invariant.hollow c.loop-i-test.false
