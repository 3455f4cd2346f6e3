use Rattle.std.proofs.Common.{rules, ◌≡◌, ◌≤◌, List, [], ◌∷◌, ◌++◌, sym, ap, ◌∙◌, subst, Option, Some, None}
use Rattle.ff_types.specs.declared.cases.Case.{Case}
use Rattle.ff_types.specs.Pairs.{AreSorted}
use Rattle.ff_propagate.specs.Agreeing.{Agree}
use Rattle.ff_journal.specs.declared.entries.Entry.{Entry}
use Rattle.ff_journal.specs.declared.entries.Entry.TheVariants as entry
use Rattle.ff_journal.specs.Epochs.{last_begun, givens_of}
use Rattle.ff_journal.specs.Publications.{published}
use Rattle.ff_told.specs.Ends.{IsRefutedBy}
use Rattle.ff_desk.specs.Views.{DeskView}
use Rattle.ff_desk.specs.Desks.{IsDesk}
use Rattle.ff_desk.specs.Steps.{kept_after}
use Rattle.ff_desk.proofs.Publishing.{clash_publishes}
use Rattle.ff_desk.proofs.desk.Desk.publish_clash.Goals as goal

pub invariant_of-self-2 : goal.invariant_of-self-2
invariant_of-self-2 c =
    let b = c.self.inside.base in
    let j = c.self.inside.journal in
    let back = sym c.self.view_is in
    let number : c.args.epoch ≡ published j = c.requires.epoch ∙ ap (λ (d : DeskView). published d.journal) back in
    let begun = subst (λ (d : DeskView). published d.journal ≤ last_begun d.journal) back c.requires.begun in
    let clash = subst (λ (d : DeskView). Agree (givens_of d.base.case d.journal (published d.journal)) → ⊥) back c.requires.clash in
    let refuted = subst (λ (d : DeskView). IsRefutedBy d.base.case (givens_of d.base.case d.journal (published d.journal)) c.args.outcome) back c.requires.outcome in
    let sorted = subst (λ (x : Case). AreSorted x.pairs) c.case.ensures c.count.ensures.pairs.sorted in
    let more : c.push.new.self ≡ j ++ entry.Published (published j) c.args.outcome ∷ [] = c.in_ok-push.ensures.pushed ∙ ap (λ n. j ++ entry.Published n c.args.outcome ∷ []) number in
    let held = c.hold.ensures ∙ ap (λ p. kept_after p c.self.inside.earlier) c.take.ensures.value in
    subst (λ (x : List Entry). IsDesk record { base = b; journal = x; givens = c.self.inside.givens; facts = c.self.inside.facts; home = c.self.inside.home; present = None; pages = c.take.new.self; demanded = c.self.inside.demanded.items; earlier = c.hold.new.self }) (sym more)
    (subst (λ p. IsDesk record { base = b; journal = j ++ entry.Published (published j) c.args.outcome ∷ []; givens = c.self.inside.givens; facts = c.self.inside.facts; home = c.self.inside.home; present = None; pages = p; demanded = c.self.inside.demanded.items; earlier = c.hold.new.self }) (sym c.take.ensures.after)
    (subst (λ e. IsDesk record { base = b; journal = j ++ entry.Published (published j) c.args.outcome ∷ []; givens = c.self.inside.givens; facts = c.self.inside.facts; home = c.self.inside.home; present = None; pages = None; demanded = c.self.inside.demanded.items; earlier = e }) (sym held)
    (clash_publishes _ c.args.outcome c.self.invariant sorted begun clash refuted)))
