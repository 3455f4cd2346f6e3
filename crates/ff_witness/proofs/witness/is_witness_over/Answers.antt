use Rattle.std.proofs.Common.{◌∙◌, sym, arith}
use Rattle.std.proofs.lemmas.Bool.{false≢true}
use Rattle.std.proofs.lemmas.Int.{ints}
use Rattle.ff_witness.proofs.Witnesses.{one_tested}
use Rattle.ff_witness.proofs.witness.is_witness_over.Goals as goal

pub returns-then-is_right : goal.returns-then-is_right
returns-then-is_right c = (
  (λ t. absurd (false≢true t)),
  (λ w. let r = c.is_right.ensures.0 c.if-is_right.true in let n = w.none c.loop-k.k c.loop-k-test.true in absurd (omega (arith, ints, r, n))),
)

pub loop-k-preserved : goal.loop-k-preserved
loop-k-preserved c = one_tested c.args.line c.args.places.now c.loop-k.k c.loop-k.some c.is_left-some.result c.loop-k.invariant
    (λ h. false≢true (sym c.if-is_right.false ∙ c.is_right.ensures.1 h)) c.is_left-some.ensures
