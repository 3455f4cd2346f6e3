use Rattle.std.proofs.Common.{◌≡◌, map, take, Some}
use Rattle.serde_json.specs.View.{view}
use Rattle.ff_read.specs.Spelling.{all_of, ends_of}
use Rattle.ff_read.specs.Seen.{HaveSeen}
use Rattle.ff_read.proofs.edges.one_by_one.Given as goal

abbrev pub invariant-loop-i : goal.invariant-loop-i
invariant-loop-i l = (all_of ends_of (take l.i (map view l.list)) ≡ Some l.edges.items) × HaveSeen l.n l.edges.items l.seen
