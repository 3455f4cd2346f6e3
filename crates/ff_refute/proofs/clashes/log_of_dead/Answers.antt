use Rattle.std.proofs.Common.{[], length, subst}
use Rattle.ff_refute.specs.Givens.{pin_claims}
use Rattle.ff_refute.specs.Marks.{IsWritten}
use Rattle.ff_refute.proofs.Written.{can_close}
use Rattle.ff_refute.proofs.clashes.log_of_dead.Goals as goal

pub returns : goal.returns
returns c =
    let case = c.args.source.now.case.now in
    let pins = pin_claims case c.args.source.now.givens.now in
    let fs = c.args.source.now.facts.now in
    let order = c.in_ok-order.order.items in
    let marks = c.in_ok-marks.marks.items in
    let w : IsWritten case pins fs order marks (length order) c.write_facts.new.self =
    subst (λ xs. IsWritten case pins fs order xs (length order) c.write_facts.new.self) c.as_slice-3.ensures.value
    (subst (λ xs. IsWritten case pins fs xs c.as_slice-3.result.now (length xs) c.write_facts.new.self) c.as_slice-2.ensures.value c.in_ok-write_facts.ensures) in
    c.in_ok-dead.ensures pins w.held [] w.making (can_close case pins fs order marks c.in_ok-order.ensures c.args.c c.in_ok-marks.ensures.root c.requires.dead w.held w.has)
