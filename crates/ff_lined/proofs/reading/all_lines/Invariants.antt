use Rattle.std.proofs.Common.{◌≡◌, map, take, Some}
use Rattle.serde_json.specs.View.{view}
use Rattle.ff_read.specs.Spelling.{all_of}
use Rattle.ff_lined.specs.Reading.{line_of}
use Rattle.ff_lined.proofs.reading.all_lines.Given as goal

abbrev pub invariant-loop-i : goal.invariant-loop-i
invariant-loop-i l = all_of line_of (take l.i (map view l.list)) ≡ Some l.lines.items
