-- The meetings over which the faces of the placing order were first met.
-- For the proofs of this crate alone.
use Rattle.std.specs.Prelude.{◌≡◌, ℕ, ◌<◌, false, List, [], ◌∷◌, map, slice_get, Some, if◌then◌else◌}
use Rattle.std.specs.List.{Contains}
use Rattle.ff_types.specs.Placing.{Meeting, has_number}

-- those whose face across isn't among the numbers, and not across an earlier one
abbrev pub first_meetings : List ℕ → List Meeting → List Meeting
first_meetings seen [] = []
first_meetings seen (m ∷ ms) = if has_number m.across seen then first_meetings seen ms else m ∷ first_meetings (m.across ∷ seen) ms

-- the faces that the meetings lead to
abbrev pub faces_across : List Meeting → List ℕ
faces_across ms = map (λ m. m.across) ms

-- face 0, and then the faces across these meetings
abbrev pub order_along : List Meeting → List ℕ
order_along tree = 0 ∷ faces_across tree

-- each meeting is from a face that stands among the numbers or across an earlier one, to a face that doesn't
abbrev pub Grows : List ℕ → List Meeting → Type 0
Grows seen [] = Unit {0}
Grows seen (m ∷ tree) = Contains seen m.face × (has_number m.across seen ≡ false) × Grows (m.across ∷ seen) tree

-- the faces and the edge of a meeting are there
pub record IsBelow (faces edges : ℕ) (m : Meeting) : Type 0 where
  pub face : m.face < faces
  pub across : m.across < faces
  pub edge : m.edge < edges

-- the numbers of all meetings are in range
abbrev pub AreBelow : ℕ → ℕ → List Meeting → Type 0
AreBelow faces edges ms = (i : ℕ) (m : Meeting) → slice_get ms i ≡ Some m → IsBelow faces edges m
