use Rattle.std.proofs.Common.{◌≡◌, ◌++◌, codes, length, take, string_bytes}
use Rattle.std.specs.Fmt.{decimal}
use Rattle.std.specs.List.{flat_map}
use Rattle.ff_transcript.specs.Boards.{part_text}
use Rattle.ff_transcript.proofs.boards.push_parts.Given as goal

abbrev pub invariant-loop-i : goal.invariant-loop-i
invariant-loop-i l = string_bytes l.text ≡ string_bytes l.fn.text ++ codes "parts " ++ decimal (length l.parts) ++ flat_map part_text (take l.i l.parts)
