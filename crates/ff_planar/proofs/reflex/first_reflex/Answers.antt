use Rattle.std.proofs.Common.{arith, sym, ◌∙◌}
use borrow.Author.Count.{below_more}
use Rattle.std.proofs.lemmas.Bool.{false≢true}
use Rattle.ff_types.specs.FaceRefusals.{ReflexAt}
use Rattle.ff_planar.proofs.TraceSteps.{all_near}
use Rattle.ff_planar.proofs.RingTests.{rings_there, from_reflex, reflex_from}
use Rattle.ff_planar.proofs.reflex.first_reflex.Goals as goal

pub any_bent-requires-clause-near : goal.any_bent-requires-clause-near
any_bent-requires-clause-near c = all_near c.args.points.now c.args.edges.now c.requires.graph

pub any_bent-requires-clause-there : goal.any_bent-requires-clause-there
any_bent-requires-clause-there c = let r = c.requires in rings_there c.args.points.now c.args.edges.now r.drawing c.args.rings.now r.rings

pub returns-then-not-branch : goal.returns-then-not-branch
returns-then-not-branch c = λ v h.
    let r = c.requires in
    let s = from_reflex c.args.points.now c.args.edges.now r.drawing c.args.rings.now r.rings v h in
    let x = s.2 in
    c.in_ok-any_bent.ensures c.if-not-branch.true s.0 s.1 x.0 x.1 x.3

pub some_reflex-requires-clause-near : goal.some_reflex-requires-clause-near
some_reflex-requires-clause-near c = all_near c.args.points.now c.args.edges.now c.requires.graph

pub some_reflex-requires-clause-there : goal.some_reflex-requires-clause-there
some_reflex-requires-clause-there c = let r = c.requires in rings_there c.args.points.now c.args.edges.now r.drawing c.args.rings.now r.rings

pub returns-then-some_reflex : goal.returns-then-some_reflex
returns-then-some_reflex c = let r = c.requires in (reflex_from c.args.points.now c.args.edges.now r.drawing c.args.rings.now r.rings c.loop-v.v c.loop-v-test.true (c.some_reflex.ensures.0 c.if-some_reflex.true), c.loop-v.invariant)

pub loop-v-preserved : goal.loop-v-preserved
loop-v-preserved c = let r = c.requires in below_more (λ k. ReflexAt c.args.points.now c.args.edges.now k → ⊥) c.loop-v.v c.loop-v.invariant (λ h. false≢true (sym c.if-some_reflex.false ∙ c.some_reflex.ensures.1 (from_reflex c.args.points.now c.args.edges.now r.drawing c.args.rings.now r.rings c.loop-v.v h)))

pub returns : goal.returns
returns c = λ k h. let l = h.0 in c.loop-v.invariant k (omega (arith, l, c.loop-v-test.false)) h
