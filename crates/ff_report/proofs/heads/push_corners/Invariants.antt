use Rattle.std.proofs.Common.{◌≡◌, ◌++◌, map, take, string_bytes}
use Rattle.std.specs.List.{flat_map}
use Rattle.ff_whole.specs.Convex.{point_at}
use Rattle.ff_report.specs.Heads.{corner_text}
use Rattle.ff_report.proofs.heads.push_corners.Given as goal

abbrev pub invariant-loop-i : goal.invariant-loop-i
invariant-loop-i l = string_bytes l.text ≡ string_bytes l.fn.text ++ flat_map corner_text (map (point_at l.points) (take l.i l.ring))
