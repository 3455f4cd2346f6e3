use Rattle.std.proofs.Common.{length, subst}
use Rattle.ff_orders.specs.Noted.{AreNoted, IsNotedVerdict}
use Rattle.ff_orders.proofs.Judging.{judged}
use Rattle.ff_orders.proofs.verifying.verify.Goals as goal

pub returns : goal.returns
returns c = λ pattern faces h is. judged h c.args.case.now is c.args.items.now c.in_ok-said.said.items
    (subst (λ up. AreNoted up c.args.case.now.pairs c.args.items.now (length c.args.items.now) c.in_ok-said.said.items) c.as_slice.ensures
    (subst (λ xs. AreNoted c.as_slice.result.now c.args.case.now.pairs xs (length xs) c.in_ok-said.said.items) c.as_slice-2.ensures c.in_ok-said.ensures))
    c.verdict_of.result
    (subst (λ said. IsNotedVerdict c.args.case.now said c.verdict_of.result) c.as_slice-3.ensures.value c.verdict_of.ensures)
