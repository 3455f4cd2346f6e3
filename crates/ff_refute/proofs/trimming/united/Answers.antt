use Rattle.std.proofs.Common.{◌∙◌}
use Rattle.std.specs.Ordering.{nat_cmp}
use Rattle.std.specs.BTreeSet.{contains}
use Rattle.ff_refute.proofs.Trimmed.{or_swapped}
use Rattle.ff_refute.proofs.trimming.united.Goals as goal

pub returns-in_ok-append : goal.returns-in_ok-append
returns-in_ok-append c v = c.in_ok-append.ensures.inserts_all.0 v ∙ or_swapped (contains nat_cmp c.args.second v) (contains nat_cmp c.args.first v)
