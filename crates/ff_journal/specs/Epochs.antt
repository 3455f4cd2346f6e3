-- Epochs: each change begins one, with the pins that are in force then. This project's own.
use Rattle.std.specs.Prelude.{ℕ, ◌==◌, Bool, true, false, ◌&&◌, List, [], ◌∷◌, ◌++◌, length, map, nat_lt, take, Option, Some, None, if◌then◌else◌, option_map}
use Rattle.std.specs.List.{filter, filter_map, list_any}
use Rattle.ff_tables.specs.declared.orders.Order.{Order}
use Rattle.ff_tables.specs.declared.orders.Order.TheVariants.{Below, Above}
use Rattle.ff_tables.specs.declared.givens.Given.{Given}
use Rattle.ff_tables.specs.declared.givens.GivenBy.TheVariants as by
use Rattle.ff_tables.specs.Orders.{turn, is_order}
use Rattle.ff_types.specs.declared.pins.Pin.{Pin}
use Rattle.ff_types.specs.declared.cases.Case.{Case}
use Rattle.ff_types.specs.Pairs.{in_order, number_of, pair_at}
use Rattle.ff_viewer.specs.declared.commands.Command.TheVariants as command
use Rattle.ff_viewer.specs.declared.replies.Reply.{Reply}
use Rattle.ff_viewer.specs.declared.replies.Reply.TheVariants as reply
use Rattle.ff_journal.specs.declared.entries.Entry.{Entry}
use Rattle.ff_journal.specs.declared.entries.Entry.TheVariants as entry

-- the last item, if there is one
abbrev pub last_of : {X : Type 0} → List X → Option X
last_of [] = None
last_of (x ∷ []) = Some x
last_of (x ∷ y ∷ xs) = last_of (y ∷ xs)

-- an optional value that may be there itself
abbrev pub joined : {X : Type 0} → Option (Option X) → Option X
joined (Some o) = o
joined None = None

-- the reply says that an epoch begins
abbrev pub begins : Reply → Bool
begins (reply.Epoch e) = true
begins _ = false

-- A change is an entry of a pin or unpin whose reply is that an epoch begins.
abbrev pub is_change : Entry → Bool
is_change (entry.Said viewer index (command.Pin f g value) told) = begins told
is_change (entry.Said viewer index (command.Unpin f g) told) = begins told
is_change _ = false

-- the changes, in order
abbrev pub changes : List Entry → List Entry
changes journal = filter is_change journal

-- epoch e begins with the e-th change, epoch 0 at the start
abbrev pub last_begun : List Entry → ℕ
last_begun journal = length (changes journal)

-- the two pairs are one
abbrev pub is_pair : ℕ × ℕ → ℕ × ℕ → Bool
is_pair p q = p.0 == q.0 && p.1 == q.1

-- what an entry of this viewer says of the pair (f, g) with f < g: an order of f to g that it pins, or that it unpins it;
-- nothing where the entry is another viewer's, or of no pair or another
abbrev pub pinned_by : ℕ → ℕ × ℕ → Entry → Option (Option Order)
pinned_by viewer p (entry.Said v index (command.Pin f g value) told) = if v == viewer && is_pair p (in_order f g) then Some (Some (turn (nat_lt g f) value)) else None
pinned_by viewer p (entry.Said v index (command.Unpin f g) told) = if v == viewer && is_pair p (in_order f g) then Some None else None
pinned_by viewer p _ = None

-- The order that the viewer holds on the pair after these changes: that of its last change on the pair, where it is a pin.
abbrev pub held_by : ℕ → List Entry → ℕ × ℕ → Option Order
held_by viewer made p = joined (last_of (filter_map (pinned_by viewer p) made))

-- the viewer of an entry
abbrev pub viewer_in : Entry → Option ℕ
viewer_in (entry.Said viewer index said told) = Some viewer
viewer_in (entry.Published e outcome) = None

-- the viewers of these entries, as often as they have one
abbrev pub viewers_of : List Entry → List ℕ
viewers_of made = filter_map viewer_in made

-- it is this order
abbrev pub has_order : Order → Option Order → Bool
has_order s (Some t) = is_order s t
has_order s None = false

-- at least one viewer holds the order on the pair after these changes
abbrev pub is_in_force : List Entry → ℕ × ℕ → Order → Bool
is_in_force made p s = list_any (λ v. has_order s (held_by v made p)) (viewers_of made)

-- the orders that are in force on the pair after these changes, Below before Above
abbrev pub in_force_after : List Entry → ℕ × ℕ → List Order
in_force_after made p = filter (is_in_force made p) (Below ∷ Above ∷ [])

-- the pin of a pair with this order
abbrev pub pin_of : ℕ × ℕ → Order → Pin
pin_of p s = record { f = p.0; g = p.1; value = s }

-- the pins on these pairs that are in force after these changes
abbrev pub pins_after : List (ℕ × ℕ) → List Entry → List Pin
pins_after [] made = []
pins_after (p ∷ pairs) made = map (pin_of p) (in_force_after made p) ++ pins_after pairs made

-- The pins in force of epoch e, in order of pair number.
abbrev pub pins_of : Case → List Entry → ℕ → List Pin
pins_of case journal e = pins_after case.pairs (take e (changes journal))

-- the given of a pin on one of the pairs
abbrev pub given_of_pin : List (ℕ × ℕ) → Pin → Option Given
given_of_pin pairs p = option_map (λ n. record { var = n; value = p.value; by = by.Pin }) (number_of pairs p.f p.g)

-- the pin of a given on one of the pairs
abbrev pub pin_of_given : List (ℕ × ℕ) → Given → Pin
pin_of_given pairs g = record { f = (pair_at pairs g.var).0; g = (pair_at pairs g.var).1; value = g.value }

-- Its givens: the case's starts, then these pins.
abbrev pub givens_of : Case → List Entry → ℕ → List Given
givens_of case journal e = case.starts ++ filter_map (given_of_pin case.pairs) (pins_of case journal e)
