-- The first number at which something is found, or none.
use Rattle.std.specs.Prelude.{ℕ, Option, Some, None}
use Rattle.ff_types.specs.FaceRefusals.{IsLeast, Never}

-- the least number at which it is so, or none where it never is
abbrev pub IsFirst : (ℕ → Type 0) → Option ℕ → Type 0
IsFirst P (Some n) = IsLeast P n
IsFirst P None = Never P
