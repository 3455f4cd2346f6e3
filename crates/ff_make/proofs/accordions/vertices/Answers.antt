use Rattle.std.proofs.Common.{rules}
use Rattle.ff_make.proofs.Strips.{vertices_more, no_vertices}
use Rattle.ff_make.proofs.accordions.vertices.Goals as goal

pub loop-v-init : goal.loop-v-init
loop-v-init c = record { so_far = search (rules, no_vertices) }

pub loop-v-preserved : goal.loop-v-preserved
loop-v-preserved c = record { so_far = search (rules, vertices_more) }
