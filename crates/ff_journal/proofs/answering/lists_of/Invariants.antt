use Rattle.std.proofs.Common.{◌≡◌, ◌≤◌, take, length}
use Rattle.std.specs.Vec.{vec_capacity}
use Rattle.ff_parts.specs.Lists.{vars_of}
use Rattle.ff_journal.proofs.answering.lists_of.Given as goal

abbrev pub invariant-loop-i : goal.invariant-loop-i
invariant-loop-i l = (l.lists.items ≡ vars_of (take l.i l.parts)) × (length l.parts ≤ vec_capacity l.lists)
