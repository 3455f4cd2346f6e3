use Rattle.std.proofs.Common.{◌≡◌, map, take, Some}
use Rattle.serde_json.specs.View.{view}
use Rattle.ff_read.specs.Benches.{commands_in}
use Rattle.ff_read.proofs.benches.commands_of.Given as goal

abbrev pub invariant-loop-i : goal.invariant-loop-i
invariant-loop-i l = commands_in (take l.i (map view l.list)) ≡ Some l.commands.items
