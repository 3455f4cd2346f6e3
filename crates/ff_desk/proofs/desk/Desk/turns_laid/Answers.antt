use Rattle.std.proofs.Common.{◌≡◌, ◌∙◌, ℕ, sym, ap, subst}
use Rattle.ff_types.specs.declared.cases.Case.{Case}
use Rattle.ff_told.specs.Earlier.{AreOrdered}
use Rattle.ff_desk.specs.Views.{DeskView}
use Rattle.ff_desk.specs.Steps.{turns_laid}
use Rattle.ff_desk.proofs.Laying.{ordered_laid}
use Rattle.ff_desk.proofs.desk.Desk.turns_laid.Goals as goal

pub turns-requires-clause-ordered : goal.turns-requires-clause-ordered
turns-requires-clause-ordered c = subst (λ (x : Case). (b : ℕ) × AreOrdered x b c.in-Some.pages) (sym c.case.ensures) (ordered_laid _ c.in-Some.pages c.self.invariant c.in-Some.is).0

pub turns-requires-clause-few : goal.turns-requires-clause-few
turns-requires-clause-few c = (ordered_laid _ c.in-Some.pages c.self.invariant c.in-Some.is).1

pub returns-in-Some : goal.returns-in-Some
returns-in-Some c = subst (λ (d : DeskView). c.turns.result ≡ turns_laid d.pages) c.self.view_is (c.turns.ensures ∙ ap turns_laid (sym c.in-Some.is))

pub returns-in-None : goal.returns-in-None
returns-in-None c = subst (λ (d : DeskView). 0 ≡ turns_laid d.pages) c.self.view_is (ap turns_laid (sym c.in-None.is))
