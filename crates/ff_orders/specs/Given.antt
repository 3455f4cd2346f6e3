-- Given faces and orders as they are read, and what they are in this project's numbers of faces. FOLD 1.1 has the keys; which list of
-- faces is asked for is this project's own.
use Rattle.std.specs.Prelude.{◌≡◌, ℕ, ◌<◌, ◌≤◌, ◌==◌, ◌⊎◌, pos, negsuc, Bool, not, ◌&&◌, ℤ, int_le, List, ◌++◌, drop, take, length, map, slice_get, slice_index_or, Option, Some, None, if◌then◌else◌}
use Rattle.std.specs.List.{range_with_len}
use Rattle.ff_types.specs.declared.refusals.No.{No}
use Rattle.ff_types.specs.declared.refusals.No.TheVariants.{Refused, NoMemory}
use Rattle.ff_types.specs.declared.refusals.Refusal.TheVariants.{BadFaces, BadOrder}
use Rattle.ff_types.specs.Faces.{ring_at}
use Rattle.ff_orders.specs.declared.items.OrderItem.{OrderItem}
use Rattle.ff_orders.specs.Verdicts.{IsFirst, Never}

-- the list is the ring, begun at any of its vertices
abbrev pub IsTurn : List ℕ → List ℕ → Type 0
IsTurn ring list = (k : ℕ) × (k < length ring) × (list ≡ drop k ring ++ take k ring)

-- the list is the ring of this face; of a drawing's faces it is that of one at most
pub record IsFaceOf (rings : List (List ℕ)) (list : List ℕ) (f : ℕ) : Type 0 where
  pub within : f < length rings
  pub turn : IsTurn (ring_at rings f) list
  pub least : (m : ℕ) → m < f → IsTurn (ring_at rings m) list → ⊥

-- so it is of the given list with this number
pub record IsItemOf (rings : List (List ℕ)) (given : List (Option (List ℕ))) (i f : ℕ) : Type 0 where
  pub list : List ℕ
  pub there : slice_get given i ≡ Some (Some list)
  pub face : IsFaceOf rings list f

-- it is the ring of no face, or of the face of an earlier one
pub record IsBadFace (rings : List (List ℕ)) (given : List (Option (List ℕ))) (i : ℕ) : Type 0 where
  pub within : i < length given
  pub bad : (f : ℕ) → IsItemOf rings given i f → (j : ℕ) × (j < i) × IsItemOf rings given j f

-- the faces of the first n given lists, all different
pub record AreFirstNumbers (rings : List (List ℕ)) (given : List (Option (List ℕ))) (n : ℕ) (numbers : List ℕ) : Type 0 where
  pub counted : length numbers ≡ n
  pub each : (i f : ℕ) → slice_get numbers i ≡ Some f → IsItemOf rings given i f
  pub differ : (i j f : ℕ) → slice_get numbers i ≡ Some f → slice_get numbers j ≡ Some f → i ≡ j

-- the faces of the given lists are all faces, each once: these are their numbers
pub record AreNumbers (rings : List (List ℕ)) (given : List (Option (List ℕ))) (numbers : List ℕ) : Type 0 where
  pub firsts : AreFirstNumbers rings given (length given) numbers
  pub enough : length rings ≤ length given

-- where no faces are given, they stand in their own order
abbrev pub AreNumbersBy : List (List ℕ) → Option (List (Option (List ℕ))) → List ℕ → Type 0
AreNumbersBy rings (Some given) numbers = AreNumbers rings given numbers
AreNumbersBy rings None numbers = numbers ≡ range_with_len 0 (length rings)

-- the first given list that is bad, else their number where there are too few
abbrev pub IsBadFaces : List (List ℕ) → List (Option (List ℕ)) → ℕ → Type 0
IsBadFaces rings given item = IsFirst (IsBadFace rings given) item
    ⊎ (Never (IsBadFace rings given) × (item ≡ length given) × (length given < length rings))

-- where none are given nothing is bad
abbrev pub IsBadFacesBy : List (List ℕ) → Option (List (Option (List ℕ))) → ℕ → Type 0
IsBadFacesBy rings (Some given) item = IsBadFaces rings given item
IsBadFacesBy rings None item = ⊥

-- one of -1, 0 and 1
abbrev pub is_sign : ℤ → Bool
is_sign s = int_le (negsuc 0) s && int_le s (pos 1)

-- the item of two faces that are there
abbrev pub of_faces : ℤ → Option ℕ → Option ℕ → Option OrderItem
of_faces s (Some f) (Some g) = Some (record { f = f; g = g; s = s })
of_faces s _ _ = None

-- the item in this project's numbers; None where its faces aren't two different ones, or its sign is another number
abbrev pub renumbered : List ℕ → Option OrderItem → Option OrderItem
renumbered numbers (Some item) =
    if is_sign item.s && not (item.f == item.g) then of_faces item.s (slice_get numbers item.f) (slice_get numbers item.g) else None
renumbered numbers None = None

-- the items are these, in this project's numbers
pub record AreOrdersOf (rings : List (List ℕ)) (given : Option (List (Option (List ℕ)))) (items : List (Option OrderItem)) (orders : List OrderItem) : Type 0 where
  pub numbers : List ℕ
  pub numbers_are : AreNumbersBy rings given numbers
  pub orders_are : map (renumbered numbers) items ≡ map Some orders

-- the item is none
pub record IsBadOrder (numbers : List ℕ) (items : List (Option OrderItem)) (i : ℕ) : Type 0 where
  pub within : i < length items
  pub bad : renumbered numbers (slice_index_or items i None) ≡ None

-- the first one
pub record IsFirstBadOrder (rings : List (List ℕ)) (given : Option (List (Option (List ℕ)))) (items : List (Option OrderItem)) (i : ℕ) : Type 0 where
  pub numbers : List ℕ
  pub numbers_are : AreNumbersBy rings given numbers
  pub first : IsFirst (IsBadOrder numbers items) i

-- why given faces are refused, where they may be absent
abbrev pub WhyNoNumbersBy : List (List ℕ) → Option (List (Option (List ℕ))) → No → Type 0
WhyNoNumbersBy rings given (Refused (BadFaces item)) = IsBadFacesBy rings given item
WhyNoNumbersBy rings given NoMemory = Unit {0}
WhyNoNumbersBy rings given _ = ⊥

-- so it is where they are there
abbrev pub WhyNoNumbers : List (List ℕ) → List (Option (List ℕ)) → No → Type 0
WhyNoNumbers rings given = WhyNoNumbersBy rings (Some given)

-- why items are refused, with these numbers of the faces
abbrev pub WhyNotRenumbered : List ℕ → List (Option OrderItem) → No → Type 0
WhyNotRenumbered numbers items (Refused (BadOrder item)) = IsFirst (IsBadOrder numbers items) item
WhyNotRenumbered numbers items NoMemory = Unit {0}
WhyNotRenumbered numbers items _ = ⊥

-- why given orders are refused
abbrev pub WhyNoOrders : List (List ℕ) → Option (List (Option (List ℕ))) → List (Option OrderItem) → No → Type 0
WhyNoOrders rings given items (Refused (BadFaces item)) = IsBadFacesBy rings given item
WhyNoOrders rings given items (Refused (BadOrder item)) = IsFirstBadOrder rings given items item
WhyNoOrders rings given items NoMemory = Unit {0}
WhyNoOrders rings given items _ = ⊥
