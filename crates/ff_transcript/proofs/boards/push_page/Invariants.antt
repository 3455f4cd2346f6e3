use Rattle.std.proofs.Common.{◌≡◌, ◌++◌, codes, take, string_bytes}
use Rattle.std.specs.List.{flat_map}
use Rattle.ff_transcript.specs.Boards.{solution_text}
use Rattle.ff_transcript.proofs.boards.push_page.Given as goal

abbrev pub invariant-loop-i : goal.invariant-loop-i
invariant-loop-i l = string_bytes l.text ≡ string_bytes l.fn.text ++ codes "page" ++ flat_map solution_text (take l.i l.page)
