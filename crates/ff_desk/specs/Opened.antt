-- A new desk. This project's own.
use Rattle.std.specs.Prelude.{◌≡◌, List, [], Option, Some, None, replicate}
use Rattle.std.specs.Arc.{arc_value}
use Rattle.ff_types.specs.declared.cases.Case.{Case}
use Rattle.ff_propagate.specs.Agreeing.{Agree}
use Rattle.ff_desk.specs.Views.{HomeView, DeskView, no_earlier}

-- there is a present board, opened for these givens; or there is none, since they contradict each other
abbrev pub IsFirstBoard : Case → Option HomeView → Type 0
IsFirstBoard case None = Agree case.starts → ⊥
IsFirstBoard case (Some home) = home.board.opening.givens ≡ case.starts

-- nothing is published and nothing is kept, and there is no board
pub record IsBlank (d : DeskView) : Type 0 where
  pub journal : d.journal ≡ []
  pub givens : d.givens ≡ []
  pub facts : d.facts ≡ replicate d.base.case.system.vars None
  pub home : d.home ≡ None
  pub present : d.present ≡ None
  pub pages : d.pages ≡ None
  pub earlier : d.earlier ≡ no_earlier

-- Nothing is published and nothing is kept, and epoch 0 is opened.
pub record IsNew (d : DeskView) : Type 0 where
  pub journal : d.journal ≡ []
  pub givens : d.givens ≡ []
  pub facts : d.facts ≡ replicate d.base.case.system.vars None
  pub home : d.home ≡ None
  pub pages : d.pages ≡ None
  pub earlier : d.earlier ≡ no_earlier
  pub present : IsFirstBoard d.base.case d.present
