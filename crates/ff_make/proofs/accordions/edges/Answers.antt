use Rattle.std.proofs.Common.{rules}
use Rattle.ff_make.proofs.Strips.{edges_more, no_edges}
use Rattle.ff_make.proofs.accordions.edges.Goals as goal

pub loop-e-init : goal.loop-e-init
loop-e-init c = record { so_far = search (rules, no_edges) }

pub loop-e-preserved : goal.loop-e-preserved
loop-e-preserved c = record { so_far = search (rules, edges_more) }
