use Rattle.std.proofs.Common.{◌≡◌, ◌++◌, codes, take, string_bytes}
use Rattle.std.specs.List.{flat_map}
use Rattle.ff_transcript.specs.Reasons.{premise_text}
use Rattle.ff_transcript.proofs.reasons.push_more.Given as goal

abbrev pub invariant-loop-i : goal.invariant-loop-i
invariant-loop-i l = string_bytes l.text ≡ string_bytes l.fn.text ++ flat_map (λ p. codes ", " ++ premise_text p) (take l.i l.premises)
