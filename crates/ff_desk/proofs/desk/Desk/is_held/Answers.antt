use Rattle.std.proofs.Common.{◌≡◌, ◌∙◌, sym, ap, subst, Option, Some}
use Rattle.ff_desk.specs.Views.{DeskView}
use Rattle.ff_desk.proofs.desk.Desk.is_held.Goals as goal

pub returns-in-Some : goal.returns-in-Some
returns-in-Some c = λ t. (c.in-Some.field-0, ap (λ (d : DeskView). d.present) (sym c.self.view_is) ∙ c.in-Some.is)
