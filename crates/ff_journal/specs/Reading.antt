-- What the next entry adds to what a journal tells.
-- For the proofs of this crate alone.
use Rattle.std.specs.Prelude.{◌≡◌, ℕ, Bool, true, false, List, [], ◌∷◌, map, length, slice_get, slice_index_or, Option, Some, None, if◌then◌else◌, unwrap_or, Contains}
use Rattle.ff_tables.specs.declared.orders.Order.{Order}
use Rattle.ff_tables.specs.declared.givens.Given.{Given}
use Rattle.ff_tables.specs.declared.givens.GivenBy.TheVariants as by
use Rattle.ff_types.specs.Pairs.{in_order}
use Rattle.ff_viewer.specs.declared.commands.Command.TheVariants as command
use Rattle.ff_journal.specs.declared.entries.Entry.{Entry}
use Rattle.ff_journal.specs.declared.entries.Entry.TheVariants as entry
use Rattle.ff_journal.specs.Epochs.{is_change, pinned_by, viewer_in, held_by, has_order}

-- 1 where it is so
abbrev pub one_if : Bool → ℕ
one_if b = if b then 1 else 0

-- the order that the viewer holds on the pair after one more entry
abbrev pub next_held : ℕ → ℕ × ℕ → Entry → Option Order → Option Order
next_held viewer p e o = if is_change e then unwrap_or (pinned_by viewer p e) o else o

-- the viewer of a change
abbrev pub changer : Entry → Option ℕ
changer e = if is_change e then viewer_in e else None

-- it is a viewer that holds the order on the pair
abbrev pub is_holding : List Entry → ℕ × ℕ → Order → Option ℕ → Bool
is_holding made p s (Some v) = has_order s (held_by v made p)
is_holding made p s None = false

-- the entry is a change of such a viewer
abbrev pub is_changer_holding : List Entry → Entry → ℕ × ℕ → Order → Bool
is_changer_holding made e p s = is_holding made p s (changer e)

-- the givens of the orders in force on the variable
abbrev pub givens_on : ℕ → List Order → List Given
givens_on n orders = map (λ s. record { var = n; value = s; by = by.Pin }) orders

-- the given of the order on the variable, where it is in force
abbrev pub given_if : ℕ → Order → Bool → List Given
given_if n s b = if b then record { var = n; value = s; by = by.Pin } ∷ [] else []

-- the faces of a pin or an unpin
abbrev pub faces_named : Entry → Option (ℕ × ℕ)
faces_named (entry.Said viewer index (command.Pin f g value) told) = Some (f, g)
faces_named (entry.Said viewer index (command.Unpin f g) told) = Some (f, g)
faces_named _ = None

-- and their pair
abbrev pub pair_named : Entry → Option (ℕ × ℕ)
pair_named (entry.Said viewer index (command.Pin f g value) told) = Some (in_order f g)
pair_named (entry.Said viewer index (command.Unpin f g) told) = Some (in_order f g)
pair_named _ = None

-- the flags are true at each pair that one of the entries pins or unpins
pub record AreTouched (pairs : List (ℕ × ℕ)) (entries : List Entry) (flags : List Bool) : Type 0 where
  pub wide : length flags ≡ length pairs
  pub touched : (n : ℕ) (p : ℕ × ℕ) (e : Entry) → slice_get pairs n ≡ Some p → Contains entries e → pair_named e ≡ Some p
      → slice_index_or flags n false ≡ true

-- the flags after one more entry: its pair is true, and what was true is
pub record IsTouchedBy (pairs : List (ℕ × ℕ)) (e : Entry) (old new : List Bool) : Type 0 where
  pub wide : length new ≡ length old
  pub kept : (n : ℕ) → slice_index_or old n false ≡ true → slice_index_or new n false ≡ true
  pub touched : (n : ℕ) (p : ℕ × ℕ) → slice_get pairs n ≡ Some p → pair_named e ≡ Some p → slice_index_or new n false ≡ true
