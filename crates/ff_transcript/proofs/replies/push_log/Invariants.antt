use Rattle.std.proofs.Common.{◌≡◌, ◌++◌, codes, take, string_bytes}
use Rattle.std.specs.List.{flat_map}
use Rattle.ff_log.specs.Spelling.{spelling}
use Rattle.ff_transcript.proofs.replies.push_log.Given as goal

abbrev pub invariant-loop-i : goal.invariant-loop-i
invariant-loop-i l = string_bytes l.text ≡ string_bytes l.fn.text ++ flat_map (λ one. codes "log " ++ spelling one ++ codes "\n") (take l.i l.lines)
