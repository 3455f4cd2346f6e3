-- What a word keeps: a fact with its marks.
use Rattle.std.specs.Prelude.{◌≡◌, ℕ, ◌/◌, ◌%◌, ◌==◌, ◌<◌, Bool, true, false, List, slice_index, Option, Some, None, if◌then◌else◌}
use Rattle.ff_tables.specs.declared.orders.Order.{Order}
use Rattle.ff_tables.specs.declared.orders.Order.TheVariants.{Below, Above}
use Rattle.ff_propagate.specs.declared.facts.Reason.{Reason}
use Rattle.ff_propagate.specs.declared.facts.Reason.TheVariants as by
use Rattle.ff_propagate.specs.declared.words.Held.{Held}

-- the order that a digit says
abbrev pub order_of : Bool → Order
order_of true = Above
order_of false = Below

-- the reason with this number, of the kind that a digit says
abbrev pub reason_of : Bool → ℕ → Reason
reason_of true n = by.Forced n
reason_of false n = by.Given n

-- the number in a reason
abbrev pub number_of : Reason → ℕ
number_of (by.Given i) = i
number_of (by.Forced c) = c

-- what the digits of a word say
abbrev pub unpack : ℕ → Held
unpack w = record {
  fact = record {
    value = order_of ((w / 2) % 2 == 1);
    level = (w / 2147483648) % 1073741824;
    reason = reason_of ((w / 4) % 2 == 1) ((w / 512) % 4194304);
  };
  marks = (w / 8) % 64;
}

-- the fact that a word keeps, and none in the word 0
unfoldable pub held_of : ℕ → Option Held
held_of w = if w == 0 then None else Some (unpack w)

-- the fact that the word of a variable keeps
abbrev pub held : List ℕ → ℕ → Option Held
held ws v = held_of (slice_index ws v)

-- a word has room for it: 2^6 sets of marks, 2^22 numbers of reasons, 2^30 levels
abbrev pub IsPackable : Held → Type 0
IsPackable h = (h.marks < 64) × (number_of h.fact.reason < 4194304) × (h.fact.level < 1073741824)
