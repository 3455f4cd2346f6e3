-- What a list of events does to a new core. This project's own.
use Rattle.std.specs.Prelude.{ℕ, ◌≡◌, List, [], ◌∷◌}
use Rattle.ff_types.specs.declared.cases.Case.{Case}
use Rattle.ff_core.specs.declared.events.Event.{Event}
use Rattle.ff_core.specs.declared.events.Step.{Step}
use Rattle.ff_core.specs.States.{State}
use Rattle.ff_core.specs.Steps.{IsNew, IsStep}

-- each event has its answer, and leads from one state to the next
abbrev pub Steps : Case → State → List Event → List Step → State → Type 0
Steps case old [] [] new = new ≡ old
Steps case old (e ∷ events) (a ∷ answers) new = (next : State) × IsStep case old e next a × Steps case next events answers new
Steps case old _ _ new = ⊥

-- the events lead from a new core to this one
abbrev pub HasRun : Case → ℕ → List Event → State → Type 0
HasRun case budget events core = (first : State) × (answers : List Step) × IsNew case budget first
    × Steps case first events answers core
