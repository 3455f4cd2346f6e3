use Rattle.std.proofs.Common.{◌≡◌, take, Some}
use Rattle.ff_read.specs.Benches.{commands_in}
use Rattle.ff_read.specs.Scripts.{seen_lists}
use Rattle.ff_read.specs.Spelling.{all_of}
use Rattle.ff_read.proofs.benches.all_commands.Given as goal

abbrev pub invariant-loop-v : goal.invariant-loop-v
invariant-loop-v l = all_of commands_in (take l.v (seen_lists l.viewers)) ≡ Some l.scripts.items
