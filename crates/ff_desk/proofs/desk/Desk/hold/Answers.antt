use Rattle.std.proofs.Common.{rules, ◌≡◌, ◌≤◌, ◌∙◌, sym, ap, subst, refl, Option, Some}
use Rattle.std.specs.Arc.{arc_value}
use Rattle.ff_types.specs.declared.cases.Case.{Case}
use Rattle.ff_types.specs.Pairs.{AreSorted}
use Rattle.ff_propagate.specs.FactRule.{MeetsFactRule}
use Rattle.ff_carry.specs.Carrying.{IsCarried}
use Rattle.ff_board.specs.Views.{BoardView, IsOpenedWith}
use Rattle.ff_journal.specs.Epochs.{last_begun, givens_of}
use Rattle.ff_journal.specs.Publications.{published}
use Rattle.ff_desk.specs.Views.{DeskView}
use Rattle.ff_desk.specs.Desks.{IsDesk, IsPresentOf}
use Rattle.ff_desk.proofs.Publishing.{kept_rule, carried_few, held_keeps, opened_for}
use Rattle.ff_desk.proofs.desk.Desk.hold.Goals as goal
use Rattle.ff_desk.proofs.desk.Desk.hold.Goals.{After-facts-1}

rule : (c : After-facts-1) → MeetsFactRule c.args.self.now.base.case.system.vars c.args.self.now.base.case.system.constraints c.args.givens c.args.facts
rule c =
    let d = c.args.self.now in
    let is = subst IsDesk c.self.view_is c.self.invariant in
    c.carried_facts_meet_the_rule.ensures d.base.case.system.vars d.base.case.system.constraints d.givens c.args.givens d.facts c.args.facts
    (kept_rule d.base.case d.journal d.givens d.facts d.home is.kept) c.requires.carried

pub board_for-requires-clause-rule : goal.board_for-requires-clause-rule
board_for-requires-clause-rule c = rule c

pub board_for-requires-clause-few : goal.board_for-requires-clause-few
board_for-requires-clause-few c =
    let sorted = subst (λ (x : Case). AreSorted x.pairs) (c.case.ensures ∙ ap (λ (d : DeskView). d.base.case) c.self.view_is) c.count.ensures.pairs.sorted in
    carried_few c.args.self.now c.args.givens c.args.facts (subst IsDesk c.self.view_is c.self.invariant) sorted c.requires.givens (rule c) c.requires.carried

pub invariant_of-self : goal.invariant_of-self
invariant_of-self c =
    let b = c.self.inside.base in
    let j = c.self.inside.journal in
    let back = sym c.self.view_is in
    let opened : IsOpenedWith c.args.self.now.base.case c.args.givens c.args.facts c.of.result.board.opening = search rules in
    held_keeps _ c.of.result c.self.invariant (opened_for b.case j c.self.inside.facts c.args.givens c.args.facts c.of.result
    (subst (λ (d : DeskView). published d.journal ≤ last_begun d.journal) back c.requires.begun)
    (subst (λ (d : DeskView). IsOpenedWith d.base.case c.args.givens c.args.facts c.of.result.board.opening) back opened)
    (subst (λ (d : DeskView). c.args.givens ≡ givens_of d.base.case d.journal (published d.journal)) back c.requires.givens) c.requires.agree
    (subst (λ (d : DeskView). IsCarried d.base.case.system.vars d.base.case.system.constraints c.args.givens d.facts c.args.facts) back c.requires.carried))

pub returns-clause-held : goal.returns-clause-held
returns-clause-held c = (c.of.result, refl)
