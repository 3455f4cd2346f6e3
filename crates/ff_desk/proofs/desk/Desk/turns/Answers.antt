use Rattle.std.proofs.Common.{◌≡◌, ◌+◌, ◌<◌, ◌^◌, ◌∙◌, ℕ, sym, ap, subst, arith}
use Rattle.ff_types.specs.declared.cases.Case.{Case}
use Rattle.ff_told.specs.Earlier.{AreOrdered, turns_in}
use Rattle.ff_desk.specs.Views.{DeskView}
use Rattle.ff_desk.specs.Steps.{turns_laid, turns_of}
use Rattle.ff_desk.proofs.Laying.{ordered_earlier, turns_fit}
use Rattle.ff_desk.proofs.desk.Desk.turns.Goals as goal

pub turns-requires-clause-ordered : goal.turns-requires-clause-ordered
turns-requires-clause-ordered c = subst (λ (x : Case). (b : ℕ) × AreOrdered x b c.self.inside.earlier.pages) (sym c.case.ensures) (ordered_earlier _ c.self.invariant)

pub turns-requires-clause-few : goal.turns-requires-clause-few
turns-requires-clause-few c = (turns_fit _ c.self.invariant).1

pub turns-requires-clause-room : goal.turns-requires-clause-room
turns-requires-clause-room c = let f = (turns_fit _ c.self.invariant).0 in omega (arith, f)

pub overflow_add-result : goal.overflow_add-result
overflow_add-result c =
    let f = (turns_fit _ c.self.invariant).0 in
    let l = c.turns_laid-laid.ensures ∙ ap (λ (d : DeskView). turns_laid d.pages) (sym c.self.view_is) in
    let t = c.turns.ensures in omega (arith, f, l, t)

pub returns : goal.returns
returns c =
    let l = c.turns_laid-laid.ensures ∙ ap (λ (d : DeskView). turns_laid d.pages) (sym c.self.view_is) in
    let t = c.turns.ensures in
    subst (λ (d : DeskView). c.turns.result + c.turns_laid-laid.result ≡ turns_of d) c.self.view_is (omega (arith, l, t))
