use Rattle.std.proofs.Common.{sym, ◌∙◌}
use borrow.Author.Count.{below_more}
use Rattle.std.proofs.lemmas.Bool.{false≢true}
use Rattle.ff_planar.specs.Reflex.{IsBad}
use Rattle.ff_planar.proofs.reflex.is_reflex.Goals as goal

pub loop-j-preserved : goal.loop-j-preserved
loop-j-preserved c = below_more (λ k. IsBad c.args.points.now c.args.ring.now c.args.i k → ⊥) c.loop-j.j c.loop-j.invariant (λ b. false≢true (sym c.if-is_bad.false ∙ c.is_bad.ensures.1 b))
