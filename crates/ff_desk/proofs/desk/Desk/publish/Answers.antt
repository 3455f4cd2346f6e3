use Rattle.std.proofs.Common.{rules, ◌≡◌, ◌≤◌, List, [], ◌∷◌, ◌++◌, sym, ap, ◌∙◌, subst, Option, Some, None}
use Rattle.std.specs.Arc.{arc_value}
use Rattle.ff_types.specs.declared.cases.Case.{Case}
use Rattle.ff_types.specs.Pairs.{AreSorted}
use Rattle.ff_journal.specs.declared.entries.Entry.{Entry}
use Rattle.ff_journal.specs.declared.entries.Entry.TheVariants as entry
use Rattle.ff_journal.specs.Publications.{published}
use Rattle.ff_desk.specs.Views.{DeskView, FoundView}
use Rattle.ff_desk.specs.Desks.{IsDesk, IsOpeningOf}
use Rattle.ff_desk.specs.Steps.{kept_after}
use Rattle.ff_desk.proofs.Publishing.{found_publishes}
use Rattle.ff_desk.proofs.desk.Desk.publish.Goals as goal

pub invariant_of-self-2 : goal.invariant_of-self-2
invariant_of-self-2 c =
    let b = c.self.inside.base in
    let j = c.self.inside.journal in
    let f = c.found.inside in
    let back = sym c.self.view_is in
    let number : f.epoch ≡ published j = ap (λ (x : FoundView). x.epoch) c.found.view_is ∙ c.requires.epoch ∙ ap (λ (d : DeskView). published d.journal) back in
    let opening : IsOpeningOf b.case j f.epoch (arc_value f.board).opening = subst (λ (x : FoundView). IsOpeningOf b.case j x.epoch x.opening) (sym c.found.view_is)
    (subst (λ (d : DeskView). IsOpeningOf d.base.case d.journal c.args.found.epoch c.args.found.opening) back c.requires.opening) in
    let sorted = subst (λ (x : Case). AreSorted x.pairs) c.case.ensures c.count.ensures.pairs.sorted in
    let more : c.push.new.self ≡ j ++ entry.Published (published j) f.outcome ∷ [] = c.in_ok-push.ensures.pushed ∙ ap (λ n. j ++ entry.Published n f.outcome ∷ []) number in
    let held = c.hold.ensures ∙ ap (λ p. kept_after p c.self.inside.earlier) c.take.ensures.value in
    subst (λ (x : List Entry). IsDesk record { base = b; journal = x; givens = f.givens; facts = f.facts; home = Some c.of.result; present = None; pages = c.take.new.self; demanded = c.self.inside.demanded.items; earlier = c.hold.new.self }) (sym more)
    (subst (λ p. IsDesk record { base = b; journal = j ++ entry.Published (published j) f.outcome ∷ []; givens = f.givens; facts = f.facts; home = Some c.of.result; present = None; pages = p; demanded = c.self.inside.demanded.items; earlier = c.hold.new.self }) (sym c.take.ensures.after)
    (subst (λ e. IsDesk record { base = b; journal = j ++ entry.Published (published j) f.outcome ∷ []; givens = f.givens; facts = f.facts; home = Some c.of.result; present = None; pages = None; demanded = c.self.inside.demanded.items; earlier = e }) (sym held)
    (found_publishes _ (arc_value f.board) f.seat f.givens f.facts f.outcome c.of.result c.self.invariant sorted
    (subst (λ n. IsOpeningOf b.case j n (arc_value f.board).opening) number opening) c.found.invariant c.of.ensures.board c.of.ensures.seat)))
