-- Which crease pattern, pins and log lines a JSON object spells, and why it spells none. This project's own.
use Rattle.std.specs.Prelude.{ℕ, ◌≡◌, ◌≢◌, ◌<◌, ◌≤◌, ◌^◌, List, [], ◌∷◌, length, slice_get, codes, nat_lt, ◌==◌, if◌then◌else◌, Option, None, Some, option_map, option_and_then}
use Rattle.std.specs.List.{list_any}
use Rattle.serde_json.specs.Data.{Data}
use Rattle.serde_json.specs.Find.{get, as_str}
use Rattle.ff_tables.specs.declared.orders.Order.{Order}
use Rattle.ff_types.specs.declared.limits.TheConstants.{MOST_FACES}
use Rattle.ff_types.specs.declared.patterns.Pattern.{Pattern}
use Rattle.ff_types.specs.declared.pins.Pin.{Pin}
use Rattle.ff_types.specs.declared.refusals.Key.{Key}
use Rattle.ff_types.specs.declared.refusals.Key.TheVariants as key
use Rattle.ff_types.specs.declared.refusals.No.{No}
use Rattle.ff_types.specs.declared.refusals.No.TheVariants as no
use Rattle.ff_types.specs.declared.refusals.Refusal.{Refusal}
use Rattle.ff_types.specs.declared.refusals.Refusal.TheVariants.{BadKey, NotJson, TooMany}
use Rattle.ff_types.specs.declared.refusals.What.TheVariants.{Pins}
use Rattle.ff_viewer.specs.Grammar.{order}
use Rattle.ff_read.specs.declared.checks.CheckInput.{CheckInput}
use Rattle.ff_read.specs.declared.checks.TheConstants.{MOST_PINS}
use Rattle.ff_read.specs.Spelling.{Keys, IsKeyed, AreSpelled, all_of, list_of, natural, object_of, only_object}
use Rattle.ff_read.specs.Read.{HasFewItems}
use Rattle.ff_read.specs.Refused.{RefusesItems, RefusesKey}

-- ---- the members

-- the object under `fold`
abbrev pub fold_in : Data → Option Data
fold_in d = option_and_then only_object (get (codes "fold") d)

-- a whole number from 0 to 2047
abbrev pub face_of : Data → Option ℕ
face_of d = option_and_then (λ n. if nat_lt n MOST_FACES then Some n else None) (natural d)

-- `"above"` or `"below"`
abbrev pub order_of : Data → Option Order
order_of d = option_and_then order (as_str d)

-- `[f, g, "above"]` or `[f, g, "below"]`, with two different faces
abbrev pub pin_in : List Data → Option Pin
pin_in (x ∷ y ∷ z ∷ []) =
    option_and_then (λ a. option_and_then (λ b. if a == b then None else option_map (λ v. record { f = a; g = b; value = v }) (order_of z)) (face_of y)) (face_of x)
pin_in ds = None

-- the pin that an item spells
abbrev pub pin_of : Data → Option Pin
pin_of d = option_and_then pin_in (list_of d)

-- the pins that the value spells, none where it is absent
abbrev pub pins_under : Option Data → Option (List Pin)
pins_under None = Some []
pins_under (Some d) = option_and_then (all_of pin_of) (list_of d)

-- absent, or an array of pins
abbrev pub pins_in : Data → Option (List Pin)
pins_in d = pins_under (get (codes "pins") d)

-- a text without a line feed
abbrev pub line_of : Data → Option (List ℕ)
line_of d = option_and_then (λ t. if list_any (λ b. b == 10) t then None else Some t) (as_str d)

-- the lines that the value spells
abbrev pub log_in : Data → Option (List (List ℕ))
log_in d = option_and_then (all_of line_of) (list_of d)

-- an array of such texts
abbrev pub lines_in : Data → Option (List (List ℕ))
lines_in d = option_and_then log_in (get (codes "log") d)

-- the list under a key
abbrev pub LiesUnder : List ℕ → Data → List Data → Type 0
LiesUnder k d ds = option_and_then list_of (get k d) ≡ Some ds

-- fewer than 2^32 items under each key
pub record HasFewMembers (d : Data) : Type 0 where
  pub fold : (fold : Data) → fold_in d ≡ Some fold → HasFewItems fold
  pub pins : (ds : List Data) → LiesUnder (codes "pins") d ds → length ds < 2 ^ 32
  pub lines : (ds : List Data) → LiesUnder (codes "log") d ds → length ds < 2 ^ 32

-- ---- what is read

-- each pin is of two different faces with numbers below the most faces of a pattern
abbrev pub ArePins : List Pin → Type 0
ArePins pins = (i : ℕ) (p : Pin) → slice_get pins i ≡ Some p → (p.f < MOST_FACES) × (p.g < MOST_FACES) × (p.f ≢ p.g)

-- the members are of their forms; the items of the crease pattern may not be
pub record HasMembers (d : Data) (keys : Keys) (pins : List Pin) (lines : List (List ℕ)) : Type 0 where
  pub fold : Data
  pub there : fold_in d ≡ Some fold
  pub keyed : IsKeyed fold keys
  pub are_pins : pins_in d ≡ Some pins
  pub are_lines : lines_in d ≡ Some lines

-- the object spells the input
pub record IsCheckOf (d : Data) (input : CheckInput) : Type 0 where
  pub keys : Keys
  pub members : HasMembers d keys input.pins input.lines
  pub spelled : AreSpelled keys input.pattern
  pub few : length input.pins ≤ MOST_PINS

-- the bytes are an object that does
pub record IsCheck (bytes : List ℕ) (input : CheckInput) : Type 0 where
  pub object : Data
  pub read : object_of bytes ≡ Some object
  pub is : IsCheckOf object input

-- ---- the refusals

-- the first key that is absent or not of its form
abbrev pub RefusesMember : Data → Key → Type 0
RefusesMember d key.Fold = fold_in d ≡ None
RefusesMember d key.Pins = (fold : Data) × (keys : Keys) × (fold_in d ≡ Some fold) × IsKeyed fold keys × (pins_in d ≡ None)
RefusesMember d key.Log = (fold : Data) × (keys : Keys) × (pins : List Pin) × (fold_in d ≡ Some fold) × IsKeyed fold keys × (pins_in d ≡ Some pins) × (lines_in d ≡ None)
RefusesMember d k = (fold : Data) × (fold_in d ≡ Some fold) × RefusesKey fold k

-- the first member, then the first item of the crease pattern that isn't of its form or too many of them, then too many pins
abbrev pub RefusesCheck : Data → Refusal → Type 0
RefusesCheck d (BadKey k) = RefusesMember d k
RefusesCheck d (TooMany Pins limit) = (keys : Keys) × (pins : List Pin) × (lines : List (List ℕ)) × (p : Pattern) × HasMembers d keys pins lines
    × AreSpelled keys p × (MOST_PINS < length pins) × (limit ≡ MOST_PINS)
RefusesCheck d r = (keys : Keys) × (pins : List Pin) × (lines : List (List ℕ)) × HasMembers d keys pins lines × RefusesItems keys r

-- why bytes are refused as an input of `check`
abbrev pub RefusesInput : List ℕ → Refusal → Type 0
RefusesInput bytes NotJson = object_of bytes ≡ None
RefusesInput bytes r = (d : Data) × (object_of bytes ≡ Some d) × RefusesCheck d r

-- why no input was read of an object, or of bytes
abbrev pub IsNoCheckOf : Data → No → Type 0
IsNoCheckOf d (no.Refused r) = RefusesCheck d r
IsNoCheckOf d no.NoMemory = Unit {0}

-- why there is no input of `check`
abbrev pub IsNoCheck : List ℕ → No → Type 0
IsNoCheck bytes (no.Refused r) = RefusesInput bytes r
IsNoCheck bytes no.NoMemory = Unit {0}
