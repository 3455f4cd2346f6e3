use Rattle.std.proofs.Common.{map, refl, arith}
use Rattle.std.proofs.lemmas.List.{length-map}
use Rattle.serde_json.specs.View.{view}
use Rattle.ff_read.proofs.patterns.marks_of.Goals as goal

pub all_of-requires : goal.all_of-requires
all_of-requires c =
    let few = c.requires (map view c.in-Some.list.now) (rw c.in-Some.is refl) in
    record { few = omega (arith, few, length-map c.in-Some.list.now view) }
