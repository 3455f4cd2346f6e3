use Rattle.std.proofs.Common.{[], sym, ap, subst}
use Rattle.ff_tables.specs.declared.orders.Order.TheVariants.{Below, Above}
use Rattle.ff_refute.specs.Making.{claim_of, Holds}
use Rattle.ff_log.specs.Logs.{with_claim}
use Rattle.ff_log.specs.Grounds.{claim_of_given}
use Rattle.ff_refute.specs.Givens.{pin_claims}
use Rattle.ff_refute.proofs.Written.{both_held, given_read}
use Rattle.ff_refute.proofs.clashes.log_of_givens.Goals as goal

pub returns : goal.returns
returns c =
    let case = c.args.source.now.case.now in
    let gs = c.args.source.now.givens.now in
    let pins = pin_claims case gs in
    let g = c.requires.clash.0 in
    let h = c.requires.clash.1 in
    let held = with_claim (with_claim [] (claim_of_given case.pairs g)) (claim_of_given case.pairs h) in
    let one = c.in_ok-give.ensures [] [] (c.new-maker.ensures pins) g c.requires.clash.2 in
    let two = c.in_ok-give-2.ensures (with_claim [] (claim_of_given case.pairs g)) [] one h c.requires.clash.3 in
    let both = both_held case g h [] c.requires.clash.4.0 c.requires.clash.4.1 in
    let var = sym (ap (λ x. x.var) (given_read gs c.as_slice.result.now c.as_slice.ensures c.args.first g _ c.requires.clash.2)) in
    c.in_ok-clash.ensures pins held [] two (subst (λ v. Holds held (claim_of case.pairs v Above)) var both.0)
    (subst (λ v. Holds held (claim_of case.pairs v Below)) var both.1)
