use Rattle.std.proofs.Common.{◌≡◌, ◌++◌, take, string_bytes}
use Rattle.std.specs.Fmt.{decimal}
use Rattle.std.specs.List.{flat_map}
use Rattle.ff_report.specs.Refusals.{spaced}
use Rattle.ff_report.proofs.parts.push_variables.Given as goal

abbrev pub invariant-loop-v : goal.invariant-loop-v
invariant-loop-v l = string_bytes l.text ≡ string_bytes l.fn.text ++ flat_map (λ v. spaced (decimal v)) (take l.v-index l.vars)
