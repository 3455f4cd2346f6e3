use Rattle.std.proofs.Common.{arith, sym, ◌∙◌, subst, Option}
use borrow.Author.Count.{below_more}
use Rattle.std.proofs.lemmas.Bool.{false≢true}
use Rattle.ff_types.specs.declared.patterns.Mark.{Mark}
use Rattle.ff_types.specs.FaceRefusals.{RimAt}
use Rattle.ff_types.specs.Sides.{sides_at}
use Rattle.ff_planar.specs.Seen.{IsUnfit}
use Rattle.ff_planar.proofs.Rims.{rim_from, from_rim}
use Rattle.ff_planar.proofs.sides.first_rim.Goals as goal

pub returns-then-is_unfit : goal.returns-then-is_unfit
returns-then-is_unfit c =
    let r = c.requires in
    let e = c.loop-e.e in
    let s = sides_at c.args.seen.now e in
    let unfit = subst (λ (m : Option Mark). IsUnfit m s.left s.right) c.mark_of.ensures (c.is_unfit.ensures.0 c.if-is_unfit.true) in
    (rim_from c.args.points.now c.args.edges.now r.drawing c.args.rings.now r.rings c.args.seen.now r.seen c.args.marks.now e c.loop-e-test.true unfit, c.loop-e.invariant)

pub loop-e-preserved : goal.loop-e-preserved
loop-e-preserved c =
    let r = c.requires in
    let e = c.loop-e.e in
    let s = sides_at c.args.seen.now e in
    below_more (λ k. RimAt c.args.points.now c.args.edges.now c.args.marks.now k → ⊥) e c.loop-e.invariant
    (λ h. false≢true (sym c.if-is_unfit.false ∙ c.is_unfit.ensures.1 (subst (λ (m : Option Mark). IsUnfit m s.left s.right) (sym c.mark_of.ensures)
    (from_rim c.args.points.now c.args.edges.now r.drawing c.args.rings.now r.rings c.args.seen.now r.seen c.args.marks.now e h))))

pub returns : goal.returns
returns c = λ k h. let l = h.0 in c.loop-e.invariant k (omega (arith, l, c.loop-e-test.false)) h
