-- How items are noted by the numbers of their pairs.
-- For the proofs of this crate alone.
use Rattle.std.specs.Prelude.{◌≡◌, ℕ, ◌<◌, ◌⊎◌, Bool, true, false, List, length, slice_get, slice_index_or, slice_set, Some, None}
use Rattle.ff_types.specs.declared.pins.Pin.{Pin}
use Rattle.ff_types.specs.Pairs.{number_of}
use Rattle.ff_near.specs.Wishes.{IsBad}

-- the pair is listed, and was not noted before: now it is
pub record IsNoted (pairs : List (ℕ × ℕ)) (p : Pin) (before after : List Bool) : Type 0 where
  pub number : ℕ
  pub is : number_of pairs p.f p.g ≡ Some number
  pub within : number < length pairs
  pub unseen : slice_index_or before number false ≡ false
  pub now : after ≡ slice_set before number true

-- the pair is not listed, or was noted before
pub record IsPassedOver (pairs : List (ℕ × ℕ)) (p : Pin) (before : List Bool) : Type 0 where
  pub why : (number_of pairs p.f p.g ≡ None) ⊎ ((n : ℕ) × (number_of pairs p.f p.g ≡ Some n) × (n < length pairs) × (slice_index_or before n false ≡ true))

-- what noting an item answers
abbrev pub Notes : List (ℕ × ℕ) → Pin → List Bool → Bool → List Bool → Type 0
Notes pairs p before true after = IsNoted pairs p before after
Notes pairs p before false after = IsPassedOver pairs p before

-- one of the first items is on the pair with this number
pub record HasItem (pairs : List (ℕ × ℕ)) (list : List Pin) (i n : ℕ) : Type 0 where
  pub at : ℕ
  pub before : at < i
  pub pin : Pin
  pub there : slice_get list at ≡ Some pin
  pub number : number_of pairs pin.f pin.g ≡ Some n

-- The first items are not bad, and their pairs alone are noted.
pub record AreNoted (pairs : List (ℕ × ℕ)) (list : List Pin) (i : ℕ) (seen : List Bool) : Type 0 where
  pub wide : length seen ≡ length pairs
  pub good : (j : ℕ) → j < i → IsBad pairs list j → ⊥
  pub marked : (n : ℕ) → n < length pairs → slice_index_or seen n false ≡ true → HasItem pairs list i n
  pub all : (n : ℕ) → HasItem pairs list i n → slice_index_or seen n false ≡ true
