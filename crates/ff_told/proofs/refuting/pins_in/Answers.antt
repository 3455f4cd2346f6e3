use Rattle.std.proofs.Common.{arith, ap, length, get_or, ◌∙◌}
use Rattle.std.proofs.lemmas.Option.{slice_get-get_or}
use Rattle.ff_tables.specs.declared.orders.Order.TheVariants.{Below}
use Rattle.ff_tables.specs.declared.givens.GivenBy.TheVariants.{Crease}
use Rattle.ff_told.proofs.Refuted.{pins_begin, pins_next, pins_end}
use Rattle.ff_told.proofs.refuting.pins_in.Goals as goal

pub loop-i-init : goal.loop-i-init
loop-i-init c = c.new-pins.ensures.items ∙ pins_begin c.args.case.now.pairs c.args.case.now.starts c.as_slice-starts.result.now c.args.givens.now c.as_slice-starts.ensures

pub pin_of-requires : goal.pin_of-requires
pin_of-requires c =
    let f = c.requires.fit c.loop-i.i (get_or c.args.givens.now c.loop-i.i (record { var = 0; value = Below; by = Crease 0 })) (slice_get-get_or c.args.givens.now c.loop-i.i (record { var = 0; value = Below; by = Crease 0 }) c.loop-i-test.true) in
    let p = c.args.case.now.valid.paired in
    omega (arith, f, p)

pub loop-i-preserved : goal.loop-i-preserved
loop-i-preserved c =
    let l = c.loop-i.auto.i in
    let e = ap (λ xs. length xs) c.as_slice-starts.ensures in
    pins_next c.args.case.now.pairs (length c.args.case.now.starts) c.loop-i.i c.args.givens.now (record { var = 0; value = Below; by = Crease 0 }) c.loop-i.pins.items c.push.new.self.items c.pin_of.result
    (omega (arith, l, e)) c.loop-i-test.true c.loop-i.invariant c.pin_of.ensures c.in_ok-push.ensures.items

pub returns : goal.returns
returns c = c.of.ensures ∙ pins_end c.args.case.now c.loop-i.i c.args.givens.now c.loop-i.pins.items c.loop-i-test.false c.loop-i.invariant
