use Rattle.std.proofs.Common.{◌∙◌, ap, map}
use Rattle.ff_types.specs.Splitting.{constraint_of, cite_of}
use Rattle.ff_types.proofs.Split.{map-constraints, map-cites}
use Rattle.ff_types.proofs.listing.Listing.parts.Goals as goal

pub returns-clause-constraints : goal.returns-clause-constraints
returns-clause-constraints c = c.of.ensures ∙ map-constraints c.self.inside.constraints.items c.self.inside.cites.items c.self.invariant ∙ ap (map constraint_of) c.self.view_is

pub returns-clause-cites : goal.returns-clause-cites
returns-clause-cites c = c.of-2.ensures ∙ map-cites c.self.inside.constraints.items c.self.inside.cites.items c.self.invariant ∙ ap (map cite_of) c.self.view_is
