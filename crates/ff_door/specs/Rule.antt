-- The rule of a door's table, and what each step tells. The table has two words, the next ticket and the one that is served, and a slot for
-- the value; the view of a seat is what it knows. This project's own.
-- For the proofs of this crate alone.
use Rattle.std.specs.Prelude.{◌≡◌, ℕ, ◌+◌, ◌-◌, ◌%◌, ◌^◌, ◌<◌, ◌≤◌, Bool, true, false, List, [], ◌∷◌, length}
use Rattle.std.specs.Prelude.{slice_get, Option, Some, None, if◌then◌else◌}
use mathlib.Core.Option.{some}
use lib.ListN.{get_elem?}
use Rattle.atomic_table.specs.Table.{State, Me, Step}
use Rattle.ff_door.specs.Entries.{Silent, Follows}
use Rattle.ff_door.specs.declared.waiter.Waiter.{Waiter}
use Rattle.ff_door.specs.declared.waiter.Plan.{Plan}

-- the f of all, added up
abbrev pub total : {V : Type 0} → (V → ℕ) → List V → ℕ
total f [] = 0
total f (v ∷ vs) = f v + total f vs

-- 1 where it is true
abbrev pub one_if : Bool → ℕ
one_if b = if b then 1 else 0

module _ {E B : Type 0} where
  -- 1 where it waits
  abbrev pub waiting : Waiter E B → ℕ
  waiting v = one_if v.waits

  -- its parts
  abbrev pub parts_of : Waiter E B → ℕ
  parts_of v = v.parts

module _ {E B : Type 0} where
  -- a seat that has so many parts, and makes the others
  abbrev pub maker : B → ℕ → Waiter E B
  maker b n = record {
    number = 0;
    seen = [];
    turns = 0;
    waits = false;
    inside = false;
    ticket = 0;
    parts = n;
    makes = true;
    made = 1;
    base = Some b;
    joined = [];
  }

module _ {T E B : Type 0} (listed : T → List E) (names : E → Option ℕ) (base : T → B) where
  -- what is known of the seat j, whose view is v: while it has parts, its number, its base and what it has seen; its ticket, where it
  -- waits; that it is served, where it is inside; that it is the last one, where it makes the next; and what the joined seats had seen
  pub record Seated (key : Plan T) (log : List E) (next served count j : ℕ) (v : Waiter E B) : Type 0 where
    pub number : 0 < v.parts → v.number ≡ j
    pub based : 0 < v.parts → v.base ≡ Some (base key.first.value)
    pub seen : 0 < v.parts → Follows names j v.seen log
    pub ticket : v.waits ≡ true → (served ≤ v.ticket) × (v.ticket < next) × (0 < v.parts)
    pub inside : v.inside ≡ true → (v.waits ≡ true) × (v.ticket ≡ served) × (v.seen ≡ log)
    pub maker : v.makes ≡ true → (j + 1 ≡ count) × (v.made ≡ count) × (0 < v.parts)
    pub joined : (i : ℕ) (p : ℕ × List E) → slice_get v.joined i ≡ Some p → Follows names p.0 p.1 log × (p.0 < count)

  -- The rule of a door. `log` is what was listed when the last turn ended, `next` and `served` count all tickets that were drawn and
  -- served, and the words are their remainders. The views that wait are as many as the tickets that were drawn and not served, and have
  -- different ones; the parts of all views add up to the seats. Where no seat is inside the value is at home with the entries `log` and the
  -- door's base. No entry names a number that no view has, and what was joined has no parts any more.
  pub record IsDoor (key : Plan T) (s : State (Option T) (Waiter E B)) : Type 0 where
    pub log : List E
    pub next : ℕ
    pub served : ℕ
    pub words : s.words ≡ (next % 2 ^ 64) ∷ (served % 2 ^ 64) ∷ []
    pub one : length s.homes ≡ 1
    pub queue : next ≡ served + total waiting s.views
    pub shares : total parts_of s.views ≡ key.seats
    pub few : key.seats < 2 ^ 32
    pub apart : (i j : ℕ) (v w : Waiter E B) → get_elem? s.views i ≡ some v → get_elem? s.views j ≡ some w
        → v.waits ≡ true → w.waits ≡ true → v.ticket ≡ w.ticket → i ≡ j
    pub home : ((j : ℕ) (v : Waiter E B) → get_elem? s.views j ≡ some v → v.inside ≡ true → ⊥)
        → (x : T) × (get_elem? s.homes 0 ≡ some (some (Some x))) × (listed x ≡ log) × (base x ≡ base key.first.value)
    pub unnamed : (k : ℕ) → length s.views ≤ k → Silent names k log
    pub gone : (j : ℕ) (v : Waiter E B) → get_elem? s.views j ≡ some v → (i : ℕ) (p : ℕ × List E)
        → slice_get v.joined i ≡ Some p → (u : Waiter E B) → get_elem? s.views p.0 ≡ some u → u.parts ≡ 0
    pub seats : (j : ℕ) (v : Waiter E B) → get_elem? s.views j ≡ some v → Seated key log next served (length s.views) j v

  -- the first seat: it has all parts, and makes the others
  abbrev pub first : Plan T → Waiter E B
  first key = maker (base key.first.value) key.seats

module _ {E B : Type 0} where
  -- a ticket was drawn: the t-th of all, of which n is the remainder
  abbrev pub with_ticket : ℕ → Waiter E B → Waiter E B
  with_ticket t v = record v { waits = true; ticket = t }

module _ {S E B : Type 0} where
  -- what drawing a ticket tells
  abbrev pub drew : Step S → Me S (Waiter E B) → ℕ → Me S (Waiter E B) → Type 0
  drew st m n m' = (m'.1 ≡ m.1) × ((t : ℕ) × (t % 2 ^ 64 ≡ n) × (m'.0 ≡ with_ticket t m.0))

module _ {E B : Type 0} where
  -- the seat comes in, and has then seen the log
  abbrev pub let_in : List E → Waiter E B → Waiter E B
  let_in log v = record v { inside = true; seen = log; turns = v.turns + 1 }

  -- the seat goes out, and has then seen the log
  abbrev pub let_out : List E → Waiter E B → Waiter E B
  let_out log v = record v { inside = false; waits = false; seen = log }

  -- the seat that was made last, once it has made the next one
  abbrev pub left_over : Waiter E B → Waiter E B
  left_over v = record v { parts = 1; makes = false }

  -- the next seat
  abbrev pub cut_off : Waiter E B → Waiter E B
  cut_off v = record v { number = v.made; parts = v.parts - 1; made = v.made + 1; joined = [] }

  -- the view of a seat that was joined to another
  abbrev pub spent : Waiter E B
  spent = record {
    number = 0;
    seen = [];
    turns = 0;
    waits = false;
    inside = false;
    ticket = 0;
    parts = 0;
    makes = false;
    made = 0;
    base = None;
    joined = [];
  }

  -- the seat v, to which u was joined
  abbrev pub gathered : Waiter E B → Waiter E B → Waiter E B
  gathered v u = record v { parts = v.parts + u.parts; makes = false; joined = (u.number, u.seen) ∷ v.joined }

module _ {T E B : Type 0} (listed : T → List E) (names : E → Option ℕ) (base : T → B) where
  -- where the ticket of the seat is served, it has the slot
  abbrev pub arrived : Step (Option T) → Me (Option T) (Waiter E B) → ℕ → Me (Option T) (Waiter E B) → Type 0
  arrived st m n m' =
      (n ≡ m.0.ticket % 2 ^ 64 → (x : T) × (m'.1 ≡ (0, Some x) ∷ m.1) × (m'.0 ≡ let_in (listed x) m.0)
      × Follows names m.0.number m.0.seen (listed x) × (Some (base x) ≡ m.0.base))
      × ((n ≡ m.0.ticket % 2 ^ 64 → ⊥) → m' ≡ m)

module _ {T E B : Type 0} (listed : T → List E) where
  -- what serving the next ticket tells
  abbrev pub served_next : Step (Option T) → Me (Option T) (Waiter E B) → ℕ → Me (Option T) (Waiter E B) → Type 0
  served_next st m n m' = (x : T) → m.1 ≡ (0, Some x) ∷ [] → (m'.1 ≡ []) × (m'.0 ≡ let_out (listed x) m.0)

module _ {S E B : Type 0} where
  -- outside, with no ticket
  abbrev pub Out : Me S (Waiter E B) → Type 0
  Out m = (m.0.waits ≡ false) × (m.0.inside ≡ false) × (0 < m.0.parts) × (m.1 ≡ [])

  -- waiting, with the ticket t
  abbrev pub Queued : Me S (Waiter E B) → Type 0
  Queued m = (m.0.waits ≡ true) × (m.0.inside ≡ false) × (0 < m.0.parts) × (m.1 ≡ [])

module _ {T E B : Type 0} where
  -- in a turn, with the value taken out
  abbrev pub In : Me (Option T) (Waiter E B) → Type 0
  In m = (m.0.waits ≡ true) × (m.0.inside ≡ true) × (0 < m.0.parts) × (m.1 ≡ (0, None) ∷ [])
