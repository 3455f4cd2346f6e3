use Rattle.std.proofs.Common.{◌≡◌, map, take, Some}
use Rattle.serde_json.specs.View.{view}
use Rattle.ff_read.specs.Benches.{script_in}
use Rattle.ff_read.specs.Scripts.{seen_in}
use Rattle.ff_read.specs.Spelling.{all_of}
use Rattle.ff_read.proofs.benches.scripts_at.Given as goal

abbrev pub invariant-loop-i : goal.invariant-loop-i
invariant-loop-i l = all_of script_in (take l.i (map view l.list)) ≡ Some (seen_in l.scripts)
