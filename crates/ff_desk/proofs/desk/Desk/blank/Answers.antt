use Rattle.std.proofs.Common.{rules, ◌≡◌, List, [], replicate, sym, ap, ◌∙◌, subst, Option, None}
use Rattle.std.specs.Arc.{arc_value}
use Rattle.ff_tables.specs.declared.givens.Given.{Given}
use Rattle.ff_types.specs.declared.cases.Case.{Case}
use Rattle.ff_propagate.specs.declared.facts.Fact.{Fact}
use Rattle.ff_journal.specs.declared.entries.Entry.{Entry}
use Rattle.ff_desk.specs.Views.{BaseView, EarlierView}
use Rattle.ff_desk.specs.Desks.{IsDesk, IsFew}
use Rattle.ff_desk.proofs.Beginning.{blank_is}
use Rattle.ff_desk.proofs.desk.Desk.blank.Goals as goal

pub invariant_of-result : goal.invariant_of-result
invariant_of-result c =
    let shared : arc_value c.in_ok-shared.shared ≡ c.args.case = search rules in
    let j : c.of-journal.result ≡ [] = search rules in
    let g : c.of.result ≡ [] = search rules in
    let b : BaseView = record { case = arc_value c.in_ok-shared.shared; budget = c.args.budget; lengths = c.args.lengths } in
    subst (λ (z : List Entry × List Given × EarlierView). IsDesk (record { base = b; journal = z.0; givens = z.1; facts = c.in_ok-facts.facts; home = None; present = None; pages = None; demanded = c.new-3.result.items; earlier = z.2 })) (λ k. (sym j k, sym g k, sym c.none.ensures k))
    (blank_is b c.in_ok-facts.facts c.new-3.result.items
    (subst (λ (x : Case). IsFew (record { case = x; budget = c.args.budget; lengths = c.args.lengths })) (sym shared) c.requires.few)
    (c.in_ok-facts.ensures ∙ ap (λ (x : Case). replicate x.system.vars None) (sym shared)))
