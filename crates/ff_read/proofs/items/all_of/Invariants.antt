use Rattle.std.proofs.Common.{◌≡◌, map, take, Some}
use Rattle.serde_json.specs.View.{view}
use Rattle.ff_read.specs.Spelling.{all_of}
use Rattle.ff_read.proofs.items.all_of.Given as goal

abbrev pub invariant-loop-i : goal.invariant-loop-i
invariant-loop-i g l = all_of g.T.FromJson.spelled (take l.i (map view l.list)) ≡ Some l.items.items
