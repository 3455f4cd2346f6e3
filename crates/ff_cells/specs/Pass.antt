-- How a bar changes the faces that are open.
-- For the proofs of this crate alone.
use Rattle.std.specs.Prelude.{ℕ, ◌≡◌, ◌≢◌, ◌⊎◌, List, Bool, true, false}
use Rattle.std.specs.List.{Contains}

-- f is open past a bar of the face n, where xs were open before it
abbrev pub IsPassed : ℕ → Bool → List ℕ → ℕ → Type 0
IsPassed n true xs f = (f ≡ n) ⊎ Contains xs f
IsPassed n false xs f = Contains xs f × (f ≢ n)
