use Rattle.std.proofs.Common.{sym, ◌∙◌}
use Rattle.ff_near.proofs.Costs.{otherwise, two_faces, says_same}
use Rattle.ff_near.proofs.counting.is_otherwise.Goals as goal

pub returns-in-Some : goal.returns-in-Some
returns-in-Some c = c.is_value.ensures ∙ says_same _ _ _ _ c.against_order.ensures c.value.ensures
    ∙ sym (otherwise c.args.case.now.pairs _ c.args.pin c.in-Some.n (sym c.in-Some.ensures.value) (two_faces c.args.case.now.pairs c.count-count.ensures.pairs.sorted c.args.pin.f c.args.pin.g c.in-Some.n c.in-Some.ensures.place))
