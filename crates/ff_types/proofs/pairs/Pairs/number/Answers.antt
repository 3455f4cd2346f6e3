use Rattle.std.proofs.Common.{sym, ◌∙◌}
use Rattle.ff_types.proofs.SortedPairs.{number_found}
use Rattle.ff_types.proofs.pairs.Pairs.number.Goals as goal

pub returns-in-Some-clause-value : goal.returns-in-Some-clause-value
returns-in-Some-clause-value c = sym c.in-Some.is ∙ number_found c.self.inside.list c.args.self.now c.as_slice.result.now c.args.f c.args.g c.in_order.result c.place_of.result c.self.invariant.sorted c.as_slice.ensures c.self.view_is c.in_order.ensures c.place_of.ensures

pub returns-in-None-clause-value : goal.returns-in-None-clause-value
returns-in-None-clause-value c = sym c.in-None.is ∙ number_found c.self.inside.list c.args.self.now c.as_slice.result.now c.args.f c.args.g c.in_order.result c.place_of.result c.self.invariant.sorted c.as_slice.ensures c.self.view_is c.in_order.ensures c.place_of.ensures
