-- The variables of each label.
-- For the proofs of this crate alone.
use Rattle.std.specs.Prelude.{◌≡◌, ℕ, zero, suc, ◌<◌, ◌==◌, ◌++◌, List, [], ◌∷◌, length, slice_index, slice_index_or, slice_set, if◌then◌else◌}

-- of the numbers below n those at which the label stands, in increasing order
abbrev pub members : List ℕ → ℕ → ℕ → List ℕ
members labels zero k = []
members labels (suc n) k = if slice_index labels n == k then members labels n k ++ n ∷ [] else members labels
    n k

-- for each of the labels 1, 2 and so on its numbers below n
pub record Gathers (labels : List ℕ) (n many : ℕ) (lists : List (List ℕ)) : Type 0 where
  pub as_many : length lists ≡ many
  pub each : (p : ℕ) → p < many → slice_index_or lists p [] ≡ members labels n (suc p)

-- the number v joins the list of its label
abbrev pub putting : ℕ → ℕ → List (List ℕ) → List (List ℕ)
putting zero v lists = lists
putting (suc p) v lists = slice_set lists p (slice_index_or lists p [] ++ v ∷ [])
