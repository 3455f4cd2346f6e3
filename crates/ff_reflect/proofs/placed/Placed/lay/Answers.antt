use Rattle.std.proofs.Common.{◌∙◌, sym, ap, subst, List, ℕ, take, slice_set, slice_index}
use Rattle.ff_whole.specs.Convex.{point_at}
use Rattle.std.proofs.lemmas.List.{take_more, take_all}
use Rattle.ff_whole.specs.declared.points.Pt.{Pt}
use Rattle.ff_reflect.specs.Puts.{IsLaid}
use Rattle.ff_reflect.proofs.Whole.{laid_none, laid_more}
use Rattle.ff_reflect.proofs.placed.Placed.lay.Goals as goal

pub loop-i-init : goal.loop-i-init
loop-i-init c = laid_none c.args.pattern.now.points c.args.self.now c.requires.nothing

pub loop-i-preserved : goal.loop-i-preserved
loop-i-preserved c =
    let e = c.lay_one.ensures in
    subst (λ (vs : List ℕ). IsLaid c.args.pattern.now.points vs c.lay_one.new.self) (sym (take_more c.args.ring.now c.loop-i.i 0 c.loop-i-test.true))
    (laid_more c.args.pattern.now.points (take c.loop-i.i c.args.ring.now) _ c.loop-i.self c.lay_one.new.self c.loop-i.invariant (c.requires.ring c.loop-i.i c.loop-i-test.true) e.scale (e.points ∙ ap (λ (ps : List Pt). slice_set c.loop-i.self.points.items (slice_index c.args.ring.now c.loop-i.i) (point_at ps (slice_index c.args.ring.now c.loop-i.i))) c.as_slice-points.ensures) e.placed)

pub returns : goal.returns
returns c = subst (λ (vs : List ℕ). IsLaid c.args.pattern.now.points vs c.loop-i.self) (take_all c.loop-i.i c.args.ring.now c.loop-i-test.false) c.loop-i.invariant
