-- The flags that the first meetings give, and meetings that break the rule of flags.
-- For the proofs of this crate alone.
use Rattle.std.specs.Prelude.{◌≡◌, ℕ, Bool, true, not, if◌then◌else◌, List, length, slice_get, Some}
use Rattle.std.specs.List.{Contains}
use Rattle.ff_types.specs.declared.patterns.Mark.{Mark}
use Rattle.ff_types.specs.Faces.{mark_at}
use Rattle.ff_types.specs.Foldings.{is_folded, is_up}
use Rattle.ff_types.specs.Placing.{Meeting, Breaks}

-- the flag of the face across
abbrev pub flag_across : List Mark → List Bool → Meeting → Bool
flag_across marks up m = if is_folded (mark_at marks m.edge) then not (is_up up m.face) else is_up up m.face

-- the first face lies up, and each other one as its meeting in the tree says
pub record AreTreeFlags (faces : ℕ) (marks : List Mark) (tree : List Meeting) (up : List Bool) : Type 0 where
  pub as_many : length up ≡ faces
  pub first : is_up up 0 ≡ true
  pub by_tree : (m : Meeting) → Contains tree m → is_up up m.across ≡ flag_across marks up m

-- no meeting breaks the flags
abbrev pub NoneBroken : List Meeting → List Mark → List Bool → Type 0
NoneBroken all marks up = (i : ℕ) (m : Meeting) → slice_get all i ≡ Some m → Breaks marks up m → ⊥
