-- A list that is made row by row: its items have a row and a column, and stand in this order.
use Rattle.std.specs.Prelude.{◌≡◌, ℕ, ◌<◌, ◌⊎◌, List, slice_get, Some, IsTrue}
use Rattle.ff_types.specs.Pairs.{is_before}

-- the key comes before (i, j)
abbrev pub IsPrior : ℕ × ℕ → ℕ → ℕ → Type 0
IsPrior p i j = (p.0 < i) ⊎ ((p.0 ≡ i) × (p.1 < j))

-- some item has the key
abbrev pub HasKey : {X : Type 0} → (X → ℕ × ℕ) → List X → ℕ × ℕ → Type 0
HasKey {X} key list p = (n : ℕ) × (x : X) × (slice_get list n ≡ Some x) × (key x ≡ p)

-- the items stand in the order of their keys, so that no key stands twice
abbrev pub AreInOrder : {X : Type 0} → (X → ℕ × ℕ) → List X → Type 0
AreInOrder {X} key list = (m n : ℕ) (x y : X) → m < n → slice_get list m ≡ Some x → slice_get list n ≡ Some y
    → IsTrue (is_before (key x) (key y))

-- Of the keys before (i, j), the list has all that are wanted; its items are good, and stand in order.
pub record IsListedTo {X : Type 0} (key : X → ℕ × ℕ) (Good : X → Type 0) (Wanted : ℕ → ℕ → Type 0) (i j : ℕ) (list : List X) : Type 0 where
  pub sorted : AreInOrder key list
  pub only : (n : ℕ) (x : X) → slice_get list n ≡ Some x → Good x × IsPrior (key x) i j
  pub all : (a b : ℕ) → Wanted a b → IsPrior (a, b) i j → HasKey key list (a, b)
