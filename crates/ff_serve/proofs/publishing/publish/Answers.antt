use Rattle.std.proofs.Common.{rules, ◌≡◌, ℕ, List, sym, ap, ◌∙◌, subst}
use Rattle.ff_journal.specs.declared.entries.Entry.{Entry}
use Rattle.ff_journal.specs.Epochs.{last_begun}
use Rattle.ff_journal.specs.Publications.{published}
use Rattle.ff_core.specs.States.{State}
use Rattle.ff_serve.proofs.Quieted.{on_ok, has_work}
use Rattle.ff_serve.proofs.Commands.{publishes}
use Rattle.ff_serve.proofs.publishing.publish.Goals as goal

pub returns-clause-published : goal.returns-clause-published
returns-clause-published c =
    let d = c.in_ok-deduce_all.ensures in let mid = c.deduce_all.new.core in
    let journal : mid.journal ≡ c.args.core.now.journal = ap (λ (z : State). z.journal) d.same in
    let last = subst (λ (j : List Entry). published j ≡ last_begun j) (sym journal) c.requires.last in
    on_ok c.happen.result
    (λ happened. publishes c.args.case.now c.args.core.now mid c.happen.new.core happened.0 c.requires.last d.same c.requires.opened d.quiet
    (has_work c.args.case.now mid d.stands last) happened.1) c.happen.ensures.happens
