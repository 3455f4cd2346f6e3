use Rattle.std.proofs.Common.{◌∙◌, length, map, ap, sym, subst, arith}
use Rattle.ff_propagate.specs.Facts.{seen}
use Rattle.ff_viewer.specs.declared.replies.Reply.TheVariants.{Stack}
use Rattle.ff_journal.specs.Replies.{stack_of}
use Rattle.ff_told.specs.Paged.{parts_of}
use Rattle.ff_told.specs.Stacked.{ArePicks, AreLongAs}
use Rattle.ff_told.proofs.Filled as filled
use Rattle.ff_told.proofs.stacking.stack_told.Goals as goal

pub overflow_cast-result : goal.overflow_cast-result
overflow_cast-result c =
    let l = filled.pages_few c.args.case.now c.requires.facts.0 c.requires.facts.1 c.args.facts.now c.args.pages.now c.requires.facts.2 in
    let f = c.count.ensures.few in let v = c.count.ensures.value in let p = c.args.case.now.valid.paired in
    omega (arith, l, f, v, p)

pub all_chosen-requires-clause-few : goal.all_chosen-requires-clause-few
all_chosen-requires-clause-few c =
    let l = filled.pages_few c.args.case.now c.requires.facts.0 c.requires.facts.1 c.args.facts.now c.args.pages.now c.requires.facts.2 in
    let f = c.count.ensures.few in let v = c.count.ensures.value in let p = c.args.case.now.valid.paired in
    omega (arith, l, f, v, p)

pub stacked-requires-clause-as_many : goal.stacked-requires-clause-as_many
stacked-requires-clause-as_many c =
    let picks = subst (λ x. ArePicks c.args.case.now c.args.pages.now c.args.choice.now x) c.in-All.is c.in_ok-picks.ensures.picks in
    let f = c.requires.facts in
    ap (λ xs. length xs) c.as_slice-list.ensures
    ∙ filled.solutions_many c.args.case.now (map seen c.args.facts.now) f.0 (parts_of c.args.pages.now) c.args.choice.now c.in-All.solutions (picks f.0 f.1 c.args.facts.now f.2)
    ∙ ap (λ ps. length ps) (sym c.in_ok-picks.ensures.pages.parts) ∙ filled.parts_long c.all_chosen.new.pages

pub stacked-requires-clause-fit : goal.stacked-requires-clause-fit
stacked-requires-clause-fit c =
    let picks = subst (λ x. ArePicks c.args.case.now c.args.pages.now c.args.choice.now x) c.in-All.is c.in_ok-picks.ensures.picks in
    let f = c.requires.facts in
    subst (λ xs. AreLongAs (length c.args.facts.now) (parts_of c.all_chosen.new.pages) xs) (sym c.as_slice-list.ensures)
    (subst (λ ps. AreLongAs (length c.args.facts.now) ps c.in-All.solutions) (sym c.in_ok-picks.ensures.pages.parts)
    (filled.solutions_fit c.args.case.now f.0 f.0 f.1 c.args.facts.now c.args.pages.now c.args.choice.now c.in-All.solutions (length c.args.facts.now) f.2
    (picks f.0 f.1 c.args.facts.now f.2) c.requires.wide))

pub returns-in_ok-told-in-All-clause-told : goal.returns-in_ok-told-in-All-clause-told
returns-in_ok-told-in-All-clause-told c budget gs are =
    let picks = subst (λ x. ArePicks c.args.case.now c.args.pages.now c.args.choice.now x) c.in-All.is c.in_ok-picks.ensures.picks in
    filled.stack_told c.args.case.now (map seen c.args.facts.now) budget (parts_of c.args.pages.now) c.args.choice.now c.in-All.solutions c.in_ok-told-in-All.told
    (picks budget gs c.args.facts.now are)
    (c.in_ok-told-in-All.ensures ∙ ap (λ xs. Stack (stack_of (map seen c.args.facts.now) (parts_of c.all_chosen.new.pages) xs)) c.as_slice-list.ensures
    ∙ ap (λ ps. Stack (stack_of (map seen c.args.facts.now) ps c.in-All.solutions)) c.in_ok-picks.ensures.pages.parts)

pub returns-in-Stop-clause-told : goal.returns-in-Stop-clause-told
returns-in-Stop-clause-told c budget gs are =
    let picks = subst (λ x. ArePicks c.args.case.now c.args.pages.now c.args.choice.now x) c.in-Stop.is c.in_ok-picks.ensures.picks in
    filled.stop_told c.args.case.now (map seen c.args.facts.now) budget (parts_of c.args.pages.now) c.args.choice.now c.in-Stop.told
    (c.if-choice-pages.false ∙ sym (filled.parts_long c.args.pages.now)) (picks budget gs c.args.facts.now are)
