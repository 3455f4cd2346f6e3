use Rattle.std.proofs.Common.{◌∙◌, sym, arith}
use borrow.Author.Count.{below_more}
use Rattle.std.proofs.lemmas.Bool.{false≢true}
use Rattle.ff_drawn.proofs.drawings.first_across.Goals as goal

pub loop-k-preserved : goal.loop-k-preserved
loop-k-preserved c = below_more _ _ c.loop-k.invariant (λ h. false≢true (sym c.if-cross.false ∙ c.cross.ensures.1 h))

pub returns : goal.returns
returns c = λ k h. let l = h.1 in c.loop-k.invariant k (omega (arith, l, c.loop-k-test.false)) h
