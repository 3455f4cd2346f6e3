-- Given orders of pairs, which of them are refused, and which order each is against. This project's own.
use Rattle.std.specs.Prelude.{Bool, Option, ◌≡◌, ℕ, ◌<◌, ◌⊎◌, nat_lt, List, slice_get, Some, None}
use Rattle.ff_tables.specs.declared.orders.Order.{Order}
use Rattle.ff_tables.specs.Orders.{turn}
use Rattle.ff_types.specs.declared.pins.Pin.{Pin}
use Rattle.ff_types.specs.declared.refusals.No.{No}
use Rattle.ff_types.specs.declared.refusals.No.TheVariants.{Refused, NoMemory as no_memory}
use Rattle.ff_types.specs.declared.refusals.Refusal.TheVariants.{BadNear}
use Rattle.ff_types.specs.Pairs.{number_of}
use Rattle.ff_types.specs.Assignments.{says_above, says_below}
use Rattle.ff_tables.specs.declared.orders.Order.TheVariants.{Below, Above}

-- an earlier item is on the same pair
pub record IsRepeated (pairs : List (ℕ × ℕ)) (list : List Pin) (i : ℕ) (p : Pin) : Type 0 where
  pub earlier : ℕ
  pub before : earlier < i
  pub other : Pin
  pub there : slice_get list earlier ≡ Some other
  pub same : number_of pairs other.f other.g ≡ number_of pairs p.f p.g

-- an item whose faces don't overlap, or that is on the pair of an earlier one
pub record IsBad (pairs : List (ℕ × ℕ)) (list : List Pin) (i : ℕ) : Type 0 where
  pub pin : Pin
  pub there : slice_get list i ≡ Some pin
  pub why : (number_of pairs pin.f pin.g ≡ None) ⊎ IsRepeated pairs list i pin

-- given orders of listed pairs, each pair at most once
pub record AreWishes (pairs : List (ℕ × ℕ)) (list : List Pin) : Type 0 where
  pub listed : (i : ℕ) (p : Pin) → slice_get list i ≡ Some p → number_of pairs p.f p.g ≡ None → ⊥
  pub once : (i j : ℕ) (p q : Pin) → i < j → slice_get list i ≡ Some p → slice_get list j ≡ Some q
      → number_of pairs p.f p.g ≡ number_of pairs q.f q.g → ⊥

-- the first bad item; or want of memory
abbrev pub WhyNotWanted : List (ℕ × ℕ) → List Pin → No → Type 0
WhyNotWanted pairs list (Refused (BadNear i)) = IsBad pairs list i × ((j : ℕ) → j < i → IsBad pairs list j → ⊥)
WhyNotWanted pairs list (Refused r) = ⊥
WhyNotWanted pairs list no_memory = Unit {0}

-- the order that the item is against, of the lesser face of its pair to the greater
abbrev pub order_against : Pin → Order
order_against p = turn (nat_lt p.f p.g) p.value

-- the value is there, and is this one
abbrev pub says : Order → Option Order → Bool
says Above value = says_above value
says Below value = says_below value
