use Rattle.std.proofs.Common.{rules, ◌≡◌, List, subst, sym, ap, ◌∙◌}
use Rattle.ff_journal.specs.declared.entries.Entry.{Entry}
use Rattle.ff_journal.specs.Epochs.{viewer_in}
use Rattle.ff_door.specs.Entries.{Follows}
use Rattle.ff_bench.proofs.Following.{follows_then, follows_publishes}
use Rattle.ff_bench.proofs.bench.Bench.close.Goals as goal

pub returns-clause-holds : goal.returns-clause-holds
returns-clause-holds c i s at =
    let first = c.close-desk.result.journal in let new = c.publish_all.new.self.journal in
    subst (λ (j : List Entry). Follows viewer_in s.number s.seen j) (sym c.into_journal.ensures.journal)
    (follows_then s.number s.seen first new (c.close-desk.ensures.seen i s at) (follows_publishes s.number first new c.publish_all.ensures.publishes))
