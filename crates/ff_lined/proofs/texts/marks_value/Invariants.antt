use Rattle.std.proofs.Common.{◌≡◌, map, take}
use Rattle.serde_json.specs.View.{view}
use Rattle.ff_lined.specs.Texts.{mark_data}
use Rattle.ff_lined.proofs.texts.marks_value.Given as goal

abbrev pub invariant-loop-i : goal.invariant-loop-i
invariant-loop-i l = map view l.list.items ≡ map mark_data (take l.i l.marks)
