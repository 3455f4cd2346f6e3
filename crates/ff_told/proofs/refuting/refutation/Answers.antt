use Rattle.std.proofs.Common.{◌≡◌, subst, sym}
use Rattle.ff_propagate.specs.Closing.{GivensFit}
use Rattle.ff_told.specs.Ends.{pins_in}
use Rattle.ff_told.proofs.Refuted.{givens_in, refuted_is}
use Rattle.ff_told.proofs.refuting.refutation.Goals as goal

pub pins_in-requires : goal.pins_in-requires
pins_in-requires c = record { fit = subst (λ gs. GivensFit c.args.case.now.system.vars gs) (sym c.as_slice-list.ensures) (givens_in c.args.case.now c.args.givens.now c.requires.givens) }

pub returns : goal.returns
returns c = refuted_is c.dead_facts_clash.ensures c.contradictions_clash.ensures c.args.case.now c.args.givens.now c.args.facts.now c.args.at
    c.in_ok-pins.pins c.in_ok-log.log c.requires.rule c.requires.clash c.in_ok-log.ensures
    (subst (λ gs. c.in_ok-pins.pins ≡ pins_in c.args.case.now gs) c.as_slice-list.ensures c.in_ok-pins.ensures)
