use Rattle.std.proofs.Common.{◌++◌, ap, ◌∙◌, sym, arith}
use Rattle.ff_types.specs.Pairs.{pair_at}
use Rattle.ff_journal.specs.Epochs.{changes, in_force_after}
use Rattle.ff_journal.specs.Reading.{givens_on}
use Rattle.ff_journal.proofs.EpochGivens.{givens_next}
use Rattle.ff_journal.proofs.givens.givens_now.Goals as goal

pub loop-n-preserved : goal.loop-n-preserved
loop-n-preserved c =
    let made = changes c.args.journal.now in
    let pairs = c.args.case.now.pairs in
    let l = c.loop-n-test.true in
    let m = c.count-n-end.ensures.value in
    c.in_ok-add_touched.ensures
    ∙ ap (λ xs. xs ++ givens_on c.loop-n.n (in_force_after made (pair_at pairs c.loop-n.n))) c.loop-n.invariant
    ∙ sym (givens_next c.args.case.now.starts pairs made c.loop-n.n c.count-n-end.ensures.pairs.sorted (omega (arith, l, m)))
