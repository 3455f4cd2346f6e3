-- How far a stacking is from a list of given orders, and what each part adds to that. This project's own.
use Rattle.std.specs.Prelude.{◌≡◌, ℕ, ◌+◌, ◌<◌, ◌≤◌, Bool, not, List, [], ◌∷◌, length, slice_get, count_by, Option, Some, None, Contains}
use Rattle.ff_tables.specs.declared.orders.Order.{Order}
use Rattle.ff_tables.specs.declared.orders.Order.TheVariants.{Below, Above}
use Rattle.ff_tables.specs.declared.terms.Constraint.{Constraint}
use Rattle.ff_types.specs.declared.pins.Pin.{Pin}
use Rattle.ff_types.specs.Pairs.{number_of}
use Rattle.ff_types.specs.Sheets.{Sheet}
use Rattle.ff_types.specs.Inside.{Overlap}
use Rattle.ff_types.specs.Assignments.{set_of}
use Rattle.ff_propagate.specs.Solutions.{joint, solutions_of}

-- the set of pairs has this order of f to h
abbrev pub has_order : (ℕ → ℕ → Bool) → ℕ → ℕ → Order → Bool
has_order above f h Above = above f h
has_order above f h Below = above h f

-- the number of listed pairs whose order it doesn't have
abbrev pub distance : (ℕ → ℕ → Bool) → List Pin → ℕ
distance above list = count_by (λ p. not (has_order above p.f p.g p.value)) list

-- given orders of overlapping pairs, each pair at most once
pub record AreWanted (g : Sheet) (pairs : List (ℕ × ℕ)) (list : List Pin) : Type 0 where
  pub overlap : (i : ℕ) (p : Pin) → slice_get list i ≡ Some p → Overlap g p.f p.g
  pub once : (i j : ℕ) (p q : Pin) → slice_get list i ≡ Some p → slice_get list j ≡ Some q
      → number_of pairs p.f p.g ≡ number_of pairs q.f q.g → i ≡ j

-- the values give the listed pair the other order
abbrev pub decides_otherwise : List (ℕ × ℕ) → (ℕ → Option Order) → Pin → Bool
decides_otherwise pairs values p = has_order (set_of pairs values) p.g p.f p.value

-- the number of listed pairs to which the values give the other order: of a closure, its share
abbrev pub share : List (ℕ × ℕ) → List Pin → (ℕ → Option Order) → ℕ
share pairs list values = count_by (decides_otherwise pairs values) list

-- the cost of a solution of a part
abbrev pub cost : List (ℕ × ℕ) → List Pin → List ℕ → List Order → ℕ
cost pairs list part solution = share pairs list (joint (λ v. None) part solution)

-- how many listed pairs get the other order where the variable alone has a value, this one
abbrev pub against : List (ℕ × ℕ) → List Pin → Order → ℕ → ℕ
against pairs list x u = cost pairs list (u ∷ []) (x ∷ [])

-- the costs of a choice together
abbrev pub costs : List (ℕ × ℕ) → List Pin → List (List ℕ) → List (List Order) → ℕ
costs pairs list (part ∷ parts) (solution ∷ choice) = cost pairs list part solution + costs pairs list parts choice
costs pairs list _ _ = 0

-- a solution of a part of least cost
pub record IsBest (cons : List Constraint) (value : ℕ → Option Order) (pairs : List (ℕ × ℕ)) (list : List Pin) (part : List ℕ)
    (solution : List Order) : Type 0 where
  pub is : Contains (solutions_of cons value part) solution
  pub least : (other : List Order) → Contains (solutions_of cons value part) other
      → cost pairs list part solution ≤ cost pairs list part other

-- a best solution of each part
abbrev pub IsBestChoice : List Constraint → (ℕ → Option Order) → List (ℕ × ℕ) → List Pin → List (List ℕ) → List (List Order) → Type 0
IsBestChoice cons value pairs list [] [] = Unit {0}
IsBestChoice cons value pairs list (part ∷ parts) (solution ∷ choice) = IsBest cons value pairs list part solution
    × IsBestChoice cons value pairs list parts choice
IsBestChoice cons value pairs list _ _ = ⊥

-- The numbers of all best solutions of a part, in increasing order, and their cost.
pub record AreBest (cons : List Constraint) (value : ℕ → Option Order) (pairs : List (ℕ × ℕ)) (list : List Pin) (part : List ℕ)
    (least : ℕ) (best : List ℕ) : Type 0 where
  pub some : 0 < length best
  pub each : (i n : ℕ) → slice_get best i ≡ Some n → (solution : List Order)
      × (slice_get (solutions_of cons value part) n ≡ Some solution) × IsBest cons value pairs list part solution
      × (cost pairs list part solution ≡ least)
  pub all : (n : ℕ) (solution : List Order) → slice_get (solutions_of cons value part) n ≡ Some solution
      → cost pairs list part solution ≡ least → Contains best n
  pub rising : (i j m n : ℕ) → i < j → slice_get best i ≡ Some m → slice_get best j ≡ Some n → m < n
