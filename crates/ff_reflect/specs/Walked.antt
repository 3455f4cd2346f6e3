-- The walk over the faces: what it has met, and which of it was first.
-- For the proofs of this crate alone.
use Rattle.std.specs.Prelude.{◌≡◌, ℕ, suc, ◌+◌, ◌<◌, Bool, true, false, List, [], ◌∷◌, map, length, slice_index_or}
use Rattle.std.specs.List.{Contains}
use Rattle.ff_types.specs.Placing.{Meeting, meetings, has_number}
use Rattle.ff_reflect.specs.declared.walk.Meeting.{Meeting as CodeMeeting}
use Rattle.ff_reflect.specs.declared.walk.Walk.{Walk}
use Rattle.ff_reflect.specs.Sheets.{Paper}
use Rattle.ff_reflect.specs.Trees.{first_meetings, order_along, Grows}

-- the meeting as definitions have it
abbrev pub meeting_of : CodeMeeting → Meeting
meeting_of m = record { face = m.face; edge = m.edge; across = m.across }

-- so of a list
abbrev pub met_of : List CodeMeeting → List Meeting
met_of ms = map meeting_of ms

-- how many faces were not seen
abbrev pub unseen : List Bool → ℕ
unseen [] = 0
unseen (true ∷ flags) = unseen flags
unseen (false ∷ flags) = suc (unseen flags)

-- what stands after each meeting: the first ones, and which faces were seen
pub record AreWalked (faces : ℕ) (met tree : List Meeting) (seen : List Bool) : Type 0 where
  pub first : tree ≡ first_meetings (0 ∷ []) met
  pub grows : Grows (0 ∷ []) tree
  pub wide : length seen ≡ faces
  pub there : (g : ℕ) → Contains (order_along tree) g → g < faces
  pub seen_so : (g : ℕ) → g < faces → slice_index_or seen g false ≡ has_number g (order_along tree)
  pub counted : suc (length tree) + unseen seen ≡ faces

-- the walk has met these faces, in order
abbrev pub IsWalk : ℕ → Walk → Type 0
IsWalk faces w = AreWalked faces (met_of w.met.items) (met_of w.tree.items) w.seen.items

-- the walk has met these
pub record HasMet (faces : ℕ) (done : List Meeting) (w : Walk) : Type 0 where
  pub met : met_of w.met.items ≡ done
  pub is_walk : IsWalk faces w

-- the faces in placing order, and all that they meet
pub record IsTree (paper : Paper) (met tree : List Meeting) : Type 0 where
  pub all : met ≡ meetings paper.rings paper.edges paper.sides (order_along tree)
  pub first : tree ≡ first_meetings (0 ∷ []) met
  pub grows : Grows (0 ∷ []) tree
