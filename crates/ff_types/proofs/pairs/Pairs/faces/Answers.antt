use Rattle.ff_types.proofs.SortedPairs.{number_read}
use Rattle.ff_types.proofs.pairs.Pairs.faces.Goals as goal

pub returns-clause-number : goal.returns-clause-number
returns-clause-number c = number_read c.self.inside.list c.args.self.now c.as_slice.result.now c.args.n c.self.invariant.sorted c.as_slice.ensures c.self.view_is c.requires
