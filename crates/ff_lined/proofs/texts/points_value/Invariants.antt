use Rattle.std.proofs.Common.{◌≡◌, map, take}
use Rattle.serde_json.specs.View.{view}
use Rattle.ff_lined.specs.Texts.{point_data}
use Rattle.ff_lined.proofs.texts.points_value.Given as goal

abbrev pub invariant-loop-i : goal.invariant-loop-i
invariant-loop-i l = map view l.list.items ≡ map point_data (take l.i l.points)
