-- What contracts see of doors and their seats. This project's own.
use Rattle.std.specs.Prelude.{◌≡◌, ℕ, ◌+◌, ◌⊎◌, Bool, true, false, List, [], length, slice_get, Option, Some}
use Rattle.atomic_table.specs.Seated.{TableId}
use Rattle.atomic_table.specs.Table.{Me}
use Rattle.ff_door.specs.declared.waiter.Waiter.{Waiter}
use Rattle.ff_door.specs.Rule.{Out, In}

-- a door: its own table, its base, which is that of the value that it was made of, and how many seats it has
pub record DoorView (B : Type 0) : Type 0 where
  pub table : TableId
  pub base : B
  pub seats : ℕ

-- a seat: its door's table and base, its number, the entries that it has seen, how many turns it has had, and whether it is in a turn
pub record SeatView (E B : Type 0) : Type 0 where
  pub table : TableId
  pub base : Option B
  pub number : ℕ
  pub seen : List E
  pub turns : ℕ
  pub inside : Bool

module _ {E B : Type 0} where
  -- the seat is one of this door
  abbrev pub IsAt : DoorView B → SeatView E B → Type 0
  IsAt d s = (s.table ≡ d.table) × (s.base ≡ Some d.base)

  -- the seat has come in, and has seen these entries
  abbrev pub came_in : List E → SeatView E B → SeatView E B
  came_in log s = record s { inside = true; seen = log; turns = s.turns + 1 }

  -- the seat has gone out, and has seen these entries
  abbrev pub gone_out : List E → SeatView E B → SeatView E B
  gone_out log s = record s { inside = false; seen = log }

  -- the seats are of this door, and outside
  abbrev pub AreOutside : DoorView B → List (SeatView E B) → Type 0
  AreOutside d seats = (k : ℕ) (s : SeatView E B) → slice_get seats k ≡ Some s → IsAt d s × (s.inside ≡ false)

  -- the seat as it is made: of this door, with this number, outside, with no entry seen and no turn
  abbrev pub IsNew : DoorView B → ℕ → SeatView E B → Type 0
  IsNew d k s = IsAt d s × (s.number ≡ k) × (s.seen ≡ []) × (s.turns ≡ 0) × (s.inside ≡ false)

  -- seats as they are made, numbered from 0 in the order of the list
  abbrev pub AreNumbered : DoorView B → List (SeatView E B) → Type 0
  AreNumbered d seats = (k : ℕ) (s : SeatView E B) → slice_get seats k ≡ Some s → IsNew d k s

  -- all seats of the door as they are made
  abbrev pub AreNew : DoorView B → List (SeatView E B) → Type 0
  AreNew d seats = (length seats ≡ d.seats) × AreNumbered d seats

  -- what each seat has seen stands in the list under its number
  abbrev pub AreJoined : List (SeatView E B) → List (ℕ × List E) → Type 0
  AreJoined seats js = (k : ℕ) (s : SeatView E B) → slice_get seats k ≡ Some s
      → (i : ℕ) × (slice_get js i ≡ Some (s.number, s.seen))

  -- what a seat's view of the table shows
  abbrev pub seat_view : TableId → Waiter E B → SeatView E B
  seat_view t v = record { table = t; base = v.base; number = v.number; seen = v.seen; turns = v.turns; inside = v.inside }

-- a seat with one part, which is outside, or in a turn with the value taken out
abbrev pub IsSound : {T E B : Type 0} → Me (Option T) (Waiter E B) → Type 0
IsSound m = (m.0.parts ≡ 1) × (Out m ⊎ In m)
