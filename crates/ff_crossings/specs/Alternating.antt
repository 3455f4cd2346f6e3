-- When two chords alternate, said by the order of the faces: chords from left to right and caps on one side.
-- Non-crossing connections at the two sides of a border place.
use Rattle.std.specs.Prelude.{ℕ, ◌↔◌, ◌⊎◌, Bool, List, IsTrue}
use Rattle.std.specs.List.{Contains, AllPairs}
use Rattle.ff_types.specs.Crossings.{circle, Alternate}
use Rattle.ff_types.specs.Crossings.Side.{Left, Right}

-- no two faces are each above the other, and none is above itself
abbrev pub IsOneWay : (ℕ → ℕ → Bool) → Type 0
IsOneWay above = (f h : ℕ) → IsTrue (above f h) → IsTrue (above h f) → ⊥

-- each face is below those that come after it
abbrev pub Rises : (ℕ → ℕ → Bool) → List ℕ → Type 0
Rises above list = AllPairs (λ lower upper. IsTrue (above upper lower)) list

-- the third face is between the first two, or outside them
abbrev pub IsAmong : (ℕ → ℕ → Bool) → ℕ → ℕ → ℕ → Type 0
IsAmong above x y z = (IsTrue (above z x) × IsTrue (above y z)) ⊎ (IsTrue (above z y) × IsTrue (above x z))

-- z is above both x and y, or below both
abbrev pub IsBeyond : (ℕ → ℕ → Bool) → ℕ → ℕ → ℕ → Type 0
IsBeyond above x y z = (IsTrue (above x z) × IsTrue (above y z)) ⊎ (IsTrue (above z x) × IsTrue (above z y))

-- the pairs {x, y} and {z, u} interleave
abbrev pub Interleave : (ℕ → ℕ → Bool) → ℕ → ℕ → ℕ → ℕ → Type 0
Interleave above x y z u =
    (IsAmong above x y z × IsBeyond above x y u) ⊎ (IsBeyond above x y z × IsAmong above x y u)

-- the pair (h, h2) lies the other way round on the right than on the left
abbrev pub Cross : (ℕ → ℕ → Bool) → ℕ → ℕ → ℕ → ℕ → Type 0
Cross above f f2 h h2 =
    (IsTrue (above h f) × IsTrue (above f2 h2)) ⊎ (IsTrue (above f h) × IsTrue (above h2 f2))

-- two sides of a border place, listed bottom to top
pub record AreListed (above : ℕ → ℕ → Bool) (left right : List ℕ) : Type 0 where
  pub one_way : IsOneWay above
  pub left_rises : Rises above left
  pub right_rises : Rises above right

-- two chords from left to right
abbrev pub ThroughsAlternate : Type 0
ThroughsAlternate = (above : ℕ → ℕ → Bool) (left right : List ℕ) → AreListed above left right
    → (f f2 h h2 : ℕ) → Contains left f → Contains right f2 → Contains left h → Contains right h2
    → Alternate (circle left right) (Left f, Right f2) (Left h, Right h2) ↔ Cross above f f2 h h2

-- a cap on one side and a chord from left to right
abbrev pub LeftCapAlternates : Type 0
LeftCapAlternates = (above : ℕ → ℕ → Bool) (left right : List ℕ) → AreListed above left right
    → (x y h h2 : ℕ) → Contains left x → Contains left y → Contains left h → Contains right h2
    → Alternate (circle left right) (Left x, Left y) (Left h, Right h2) ↔ IsAmong above x y h

-- so it is on the right side
abbrev pub RightCapAlternates : Type 0
RightCapAlternates = (above : ℕ → ℕ → Bool) (left right : List ℕ) → AreListed above left right
    → (x y h h2 : ℕ) → Contains right x → Contains right y → Contains left h → Contains right h2
    → Alternate (circle left right) (Right x, Right y) (Left h, Right h2) ↔ IsAmong above x y h2

-- two caps on one side, and on different sides
abbrev pub LeftCapsAlternate : Type 0
LeftCapsAlternate = (above : ℕ → ℕ → Bool) (left right : List ℕ) → AreListed above left right
    → (x y z u : ℕ) → Contains left x → Contains left y → Contains left z → Contains left u
    → Alternate (circle left right) (Left x, Left y) (Left z, Left u) ↔ Interleave above x y z u

-- two folds on the right side alternate exactly where they interleave
abbrev pub RightCapsAlternate : Type 0
RightCapsAlternate = (above : ℕ → ℕ → Bool) (left right : List ℕ) → AreListed above left right
    → (x y z u : ℕ) → Contains right x → Contains right y → Contains right z → Contains right u
    → Alternate (circle left right) (Right x, Right y) (Right z, Right u) ↔ Interleave above x y z u

-- folds on opposite sides never alternate
abbrev pub OpposedCapsNever : Type 0
OpposedCapsNever = (left right : List ℕ) (x y z u : ℕ)
    → Alternate (circle left right) (Left x, Left y) (Right z, Right u) → ⊥
