-- The way from one point to another, and what two of them have in common; elementary.
use Rattle.std.specs.Prelude.{◌≡◌, ◌⊎◌, ◌↔◌, ℕ, List, ◌≤ℤ◌, pos, ◌<ℤ◌, Bool, ◌&&◌, int_le, IsTrue}
use Rattle.std.specs.List.{list_all}
use Rattle.std.specs.Ordering.{int_eq}
use Rattle.ff_whole.specs.declared.points.Pt.{Pt}
use Rattle.ff_whole.specs.declared.places.Place.{Place}
use Rattle.ff_whole.specs.Points.{IsNear}
use Rattle.ff_whole.specs.Places.{IsPlace, place_of, through, height, past, same_place}
use Rattle.ff_whole.specs.Convex.{point_at}
use Rattle.ff_whole.specs.Turning.{rank}
use Rattle.ff_types.specs.Faces.{ring_at}

-- on the way from p to q, its ends counted
abbrev pub is_on_way : Pt → Pt → Place → Bool
is_on_way p q s = int_eq (height (through p q) s) (pos 0) && int_le (pos 0) (past p q s) && int_le (pos 0) (past q p s)

-- the way from p to q is what the ways from a to b and from c to d have in common
pub record IsCommonWay (a b c d p q : Pt) : Type 0 where
  pub p_near : IsNear p
  pub q_near : IsNear q
  -- p comes before q in the order of x and then of y
  pub goes : rank p <ℤ rank q
  pub common : (s : Place) → IsPlace s → IsTrue (is_on_way p q s) ↔ (IsTrue (is_on_way a b s) × IsTrue (is_on_way c d s))

-- one of the two points, after which neither comes, or before which neither comes
pub record IsLater (p q m : Pt) : Type 0 where
  pub near : IsNear m
  pub first : rank p ≤ℤ rank m
  pub second : rank q ≤ℤ rank m
  pub one : (m ≡ p) ⊎ (m ≡ q)

-- the one of two points that comes first in their order
pub record IsEarlier (p q m : Pt) : Type 0 where
  pub near : IsNear m
  pub first : rank m ≤ℤ rank p
  pub second : rank m ≤ℤ rank q
  pub one : (m ≡ p) ⊎ (m ≡ q)

-- the two ways have one place in common at most
abbrev pub HaveNoWay : Pt → Pt → Pt → Pt → Type 0
HaveNoWay a b c d = (s t : Place) → IsPlace s → IsPlace t → IsTrue (is_on_way a b s) → IsTrue (is_on_way c d s)
    → IsTrue (is_on_way a b t) → IsTrue (is_on_way c d t) → IsTrue (same_place s t)

-- none of the vertices is right of the way from p to q
abbrev pub are_left : List Pt → Pt → Pt → List ℕ → Bool
are_left points p q ring = list_all (λ v. int_le (pos 0) (height (through p q) (place_of (point_at points v)))) ring

-- none of them is left of it
abbrev pub are_right : List Pt → Pt → Pt → List ℕ → Bool
are_right points p q ring = list_all (λ v. int_le (height (through p q) (place_of (point_at points v))) (pos 0)) ring

-- both faces lie left of the way from p to q, or right of it
abbrev pub AreLeft : List Pt → List (List ℕ) → Pt → Pt → ℕ → ℕ → Type 0
AreLeft points rings p q f h = IsTrue (are_left points p q (ring_at rings f)) × IsTrue (are_left points p q (ring_at rings h))

-- both rings are right of the way
abbrev pub AreRight : List Pt → List (List ℕ) → Pt → Pt → ℕ → ℕ → Type 0
AreRight points rings p q f h = IsTrue (are_right points p q (ring_at rings f)) × IsTrue (are_right points p q (ring_at rings h))
