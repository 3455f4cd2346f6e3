use Rattle.std.proofs.Common.{map, string_bytes, IfSome, subst}
use Rattle.ff_top.specs.Asking.{bench_asked, AreWithin}
use Rattle.ff_top.specs.Counts.{HasCount}
use Rattle.ff_top.proofs.Counting.{has_count}
use Rattle.ff_top.proofs.Within.{asked_within}
use Rattle.ff_top.proofs.asking.job_of.Goals as goal

pub returns-in-Ok-clause-counted : goal.returns-in-Ok-clause-counted
returns-in-Ok-clause-counted c = subst HasCount c.in-Ok.ensures (has_count (map string_bytes c.args.words.now))

pub returns-in-Ok-clause-within : goal.returns-in-Ok-clause-within
returns-in-Ok-clause-within c = subst (λ o. IfSome (bench_asked o) AreWithin) c.in-Ok.ensures (asked_within (map string_bytes c.args.words.now))
