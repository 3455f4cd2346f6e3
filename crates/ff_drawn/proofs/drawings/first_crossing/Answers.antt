use Rattle.std.proofs.Common.{arith, ℕ}
use borrow.Author.Count.{below_more}
use Rattle.ff_types.specs.FaceRefusals.{CrossingAt}
use Rattle.ff_drawn.proofs.drawings.first_crossing.Goals as goal

pub loop-e-preserved : goal.loop-e-preserved
loop-e-preserved c = λ d k l. below_more (λ d. (k : ℕ) → CrossingAt c.args.points.now c.args.edges.now d k → ⊥) c.loop-e.e (λ d l k. c.loop-e.invariant d k l) (λ k. c.in_default.ensures k) d l k

pub returns : goal.returns
returns c = λ e k h. let l = h.0 in let m = h.1 in c.loop-e.invariant e k (omega (arith, c.loop-e-test.false)) h
