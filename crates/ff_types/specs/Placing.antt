-- The order in which faces are placed, over their edges from face 0, and the flags that this gives them.
-- This project's own.
use Rattle.std.specs.Prelude.{◌≡◌, ℕ, ◌<◌, ◌==◌, ◌≢◌, Bool, true, false, List, [], ◌∷◌, ◌++◌, map, slice_get, Option, Some, None, if◌then◌else◌, position, option_and_then, option_map}
use Rattle.std.specs.List.{filter_map}
use Rattle.ff_types.specs.declared.patterns.EdgeEnds.{EdgeEnds}
use Rattle.ff_types.specs.declared.patterns.Mark.{Mark}
use Rattle.ff_types.specs.declared.faces.EdgeSides.{EdgeSides}
use Rattle.ff_types.specs.Drawings.{joins}
use Rattle.ff_types.specs.Faces.{ring_at, mark_at}
use Rattle.ff_types.specs.Sides.{sides_at}
use Rattle.ff_types.specs.Foldings.{is_up, FitFlags}
use Rattle.ff_types.specs.Inside.{steps}

-- One meeting: a face that was taken, its edge, and the face across.
pub record Meeting : Type 0 where
  pub face : ℕ
  pub edge : ℕ
  pub across : ℕ

-- the other face of an edge
abbrev pub other_of : ℕ → Option ℕ → Option ℕ → Option ℕ
other_of f (Some a) (Some b) = if a == f then Some b else (if b == f then Some a else None)
other_of f _ _ = None

-- how the face meets the one on the other side of its edge, where there is one
abbrev pub meeting_over : ℕ → List EdgeSides → ℕ → Option Meeting
meeting_over f sides e = option_map (λ h. record { face = f; edge = e; across = h }) (other_of f (sides_at sides e).left (sides_at sides e).right)

-- the edge from u to v, and the face across it
abbrev pub meeting_at : ℕ → List EdgeEnds → List EdgeSides → ℕ × ℕ → Option Meeting
meeting_at f edges sides step = option_and_then (meeting_over f sides) (position (joins step.0 step.1) edges)

-- the meetings of one face in ring order, and of the faces of a list one after the other
abbrev pub meetings_of : List (List ℕ) → List EdgeEnds → List EdgeSides → ℕ → List Meeting
meetings_of rings edges sides f = filter_map (meeting_at f edges sides) (steps (ring_at rings f))

-- the meetings of all faces of the order, one after the other
abbrev pub meetings : List (List ℕ) → List EdgeEnds → List EdgeSides → List ℕ → List Meeting
meetings rings edges sides [] = []
meetings rings edges sides (f ∷ order) = meetings_of rings edges sides f ++ meetings rings edges sides order

-- the number stands in the list
abbrev pub has_number : ℕ → List ℕ → Bool
has_number x [] = false
has_number x (y ∷ ys) = if x == y then true else has_number x ys

-- the list without what stands earlier
abbrev pub firsts : List ℕ → List ℕ → List ℕ
firsts seen [] = []
firsts seen (x ∷ xs) = if has_number x seen then firsts seen xs else x ∷ firsts (x ∷ seen) xs

-- The placing order: face 0, and then the faces met, each where it is first met. At most one list is so.
abbrev pub IsPlacingOrder : List (List ℕ) → List EdgeEnds → List EdgeSides → List ℕ → Type 0
IsPlacingOrder rings edges sides order = order
    ≡ firsts [] (0 ∷ map (λ m. m.across) (meetings rings edges sides order))

-- the meeting breaks the rule of flags: alike over a flat edge, different over a folded one
abbrev pub Breaks : List Mark → List Bool → Meeting → Type 0
Breaks marks up m = FitFlags (mark_at marks m.edge) (is_up up m.face) (is_up up m.across) → ⊥

-- the meeting is the first with its face across
abbrev pub IsParent : List Meeting → ℕ → Meeting → Type 0
IsParent all i m = (slice_get all i ≡ Some m) × (m.across ≢ 0)
    × ((j : ℕ) (k : Meeting) → j < i → slice_get all j ≡ Some k → k.across ≢ m.across)

-- face 0 is up, and every other face has its flag from its parent edge
pub record AreFlags (all : List Meeting) (marks : List Mark) (up : List Bool) : Type 0 where
  pub first : is_up up 0 ≡ true
  pub by_parents : (i : ℕ) (m : Meeting) → IsParent all i m → Breaks marks up m → ⊥

-- the first meeting that breaks the rule is over the edge e
pub record IsFirstBroken (all : List Meeting) (marks : List Mark) (up : List Bool) (e : ℕ) : Type 0 where
  pub place : ℕ
  pub meeting : Meeting
  pub there : slice_get all place ≡ Some meeting
  pub over_edge : meeting.edge ≡ e
  pub broken : Breaks marks up meeting
  pub first : (i : ℕ) (m : Meeting) → i < place → slice_get all i ≡ Some m → Breaks marks up m → ⊥
