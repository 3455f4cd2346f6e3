use Rattle.std.proofs.Common.{arith, sym, ◌∙◌}
use borrow.Author.Count.{below_more}
use Rattle.std.proofs.lemmas.Bool.{false≢true}
use Rattle.ff_types.specs.FaceRefusals.{EnclosedAt}
use Rattle.ff_planar.proofs.TraceSteps.{all_near}
use Rattle.ff_planar.proofs.RingTests.{rings_there, from_enclosed, enclosed_from}
use Rattle.ff_planar.proofs.reflex.first_enclosed.Goals as goal

pub returns-then-not-any : goal.returns-then-not-any
returns-then-not-any c = λ v h.
    let r = c.requires in
    let s = from_enclosed c.args.points.now c.args.edges.now r.drawing c.args.rings.now r.rings v h in
    r.known c.if-not-any.true s.0 v s.1 h.0 s.2

pub some_inside-requires-clause-near : goal.some_inside-requires-clause-near
some_inside-requires-clause-near c = all_near c.args.points.now c.args.edges.now c.requires.graph

pub some_inside-requires-clause-there : goal.some_inside-requires-clause-there
some_inside-requires-clause-there c = let r = c.requires in rings_there c.args.points.now c.args.edges.now r.drawing c.args.rings.now r.rings

pub returns-then-some_inside : goal.returns-then-some_inside
returns-then-some_inside c = let r = c.requires in (enclosed_from c.args.points.now c.args.edges.now r.drawing c.args.rings.now r.rings c.loop-v.v c.loop-v-test.true (c.some_inside.ensures.0 c.if-some_inside.true), c.loop-v.invariant)

pub loop-v-preserved : goal.loop-v-preserved
loop-v-preserved c = let r = c.requires in below_more (λ k. EnclosedAt c.args.points.now c.args.edges.now k → ⊥) c.loop-v.v c.loop-v.invariant (λ h. false≢true (sym c.if-some_inside.false ∙ c.some_inside.ensures.1 (from_enclosed c.args.points.now c.args.edges.now r.drawing c.args.rings.now r.rings c.loop-v.v h)))

pub returns : goal.returns
returns c = λ k h. let l = h.0 in c.loop-v.invariant k (omega (arith, l, c.loop-v-test.false)) h
