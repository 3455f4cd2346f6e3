-- Seats and hands that are dealt from the ends of lists.
-- For the proofs of this crate alone.
use Rattle.std.specs.Prelude.{◌≡◌, ℕ, ◌+◌, ◌<◌, List, length, slice_get, Some}
use Rattle.ff_journal.specs.declared.entries.Entry.{Entry}
use Rattle.ff_steal.specs.declared.crews.Hand.{Hand}
use Rattle.ff_door.specs.Views.{DoorView, SeatView, IsNew}
use Rattle.ff_desk.specs.Views.{BaseView}

-- new seats of n in all, the last first
abbrev pub AreBackward : DoorView BaseView → ℕ → List (SeatView Entry BaseView) → Type 0
AreBackward d n seats = (i : ℕ) (s : SeatView Entry BaseView) → slice_get seats i ≡ Some s → (k : ℕ) × IsNew d k s × (k + i + 1 ≡ n)

-- the hands of a crew of n, the last first
abbrev pub AreHandsBackward : ℕ → List Hand → Type 0
AreHandsBackward n hands = (i : ℕ) (h : Hand) → slice_get hands i ≡ Some h → (h.number + i + 1 ≡ n) × (h.of ≡ n)
