-- How the board of the least unpublished epoch comes to be there.
-- For the proofs of this crate alone.
use Rattle.std.specs.Prelude.{◌≡◌, ℕ, List, Option, Some, None}
use Rattle.ff_propagate.specs.Agreeing.{Agree}
use Rattle.ff_journal.specs.declared.entries.Outcome.{Outcome}
use Rattle.ff_journal.specs.Epochs.{givens_of}
use Rattle.ff_journal.specs.Publications.{published}
use Rattle.ff_pages.specs.declared.pages.Pages.{Pages}
use Rattle.ff_told.specs.Ends.{IsRefutedBy}
use Rattle.ff_desk.specs.declared.demands.Demand.{Demand}
use Rattle.ff_desk.specs.declared.demands.Demand.TheVariants as demand
use Rattle.ff_desk.specs.Views.{HomeView, DeskView}

-- a board is there
abbrev pub IsHeld : Option HomeView → Type 0
IsHeld present = (home : HomeView) × (present ≡ Some home)

-- the board is there; or the epoch's givens contradict each other, and this is the outcome
abbrev pub IsPrepared : DeskView → DeskView → Option Outcome → Type 0
IsPrepared old new None = IsHeld new.present
IsPrepared old new (Some o) = (new ≡ old) × (Agree (givens_of old.base.case old.journal (published old.journal)) → ⊥)
    × IsRefutedBy old.base.case (givens_of old.base.case old.journal (published old.journal)) o

-- pages are there
abbrev pub IsLaid : Option (List Pages) → Type 0
IsLaid pages = (list : List Pages) × (pages ≡ Some list)

-- so it is where something is demanded
abbrev pub IsLaidFor : Demand → Option (List Pages) → Type 0
IsLaidFor demand.Nothing pages = Unit {0}
IsLaidFor d pages = IsLaid pages
