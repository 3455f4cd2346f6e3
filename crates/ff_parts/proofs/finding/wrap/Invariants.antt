use Rattle.std.proofs.Common.{◌≡◌, ◌≤◌, map, length}
use Rattle.std.specs.Vec.{vec_capacity, vec_len}
use Rattle.ff_basics.specs.NumberedLists.{lists_in}
use Rattle.ff_parts.specs.Lists.{vars_of, touching_of}
use Rattle.ff_parts.proofs.finding.wrap.Given as goal

abbrev pub invariant-loop-vars : goal.invariant-loop-vars
invariant-loop-vars l = (vars_of l.parts.items ≡ lists_in (map (λ p. p.0) l.yielded))
    × (touching_of l.parts.items ≡ lists_in (map (λ p. p.1) l.yielded))
    × (length l.parts.items ≡ length l.yielded)
    × (vec_len l.fn.lists ≤ vec_capacity l.parts)
