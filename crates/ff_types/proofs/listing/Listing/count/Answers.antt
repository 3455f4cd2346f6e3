use Rattle.std.proofs.Common.{◌∙◌, ap, length}
use Rattle.ff_types.proofs.Split.{length-listed}
use Rattle.ff_types.proofs.listing.Listing.count.Goals as goal

pub returns : goal.returns
returns c = ap length c.as_slice.ensures.value ∙ length-listed c.self.inside.constraints.items c.self.inside.cites.items c.self.invariant ∙ ap length c.self.view_is
