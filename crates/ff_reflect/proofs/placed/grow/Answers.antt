use Rattle.std.proofs.Common.{◌≡◌, subst, ℤ, ◌*ℤ◌, to_z, of_z, length, ◌<◌}
use Rattle.std.proofs.lemmas.List.{get_or_read}
use mir.Syntax.{w128}
use Rattle.ff_whole.specs.declared.points.Pt.{Pt}
use Rattle.ff_whole.specs.Points.{origin}
use Rattle.ff_reflect.specs.Puts.{IsNearPoint}
use Rattle.ff_reflect.proofs.Puts.{grown_more, still_there}
use Rattle.ff_reflect.proofs.placed.grow.Goals as goal

pub loop-i-preserved : goal.loop-i-preserved
loop-i-preserved c =
    let f : ℤ = to_z w128 (of_z w128 c.args.factor) in
    let h : c.loop-i.i < length c.loop-i.points.items = still_there f c.args.points.now c.loop-i.points c.loop-i.i _ c.loop-i.invariant c.len-i-end.ensures c.loop-i-test.true in
    let e : c.index.result.now ≡ _ = get_or_read c.loop-i.points.items c.loop-i.i c.index.result.now h c.index.ensures origin in
    grown_more f c.args.points.now.items c.loop-i.points.items c.loop-i.i c.in-Some.p c.loop-i.invariant h
    (subst (λ (p : Pt). IsNearPoint (f *ℤ p.x) (f *ℤ p.y) c.in-Some.p) e c.in-Some.ensures)
