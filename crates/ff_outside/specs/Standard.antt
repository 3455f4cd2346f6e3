-- What contracts see of an adapter: its count of faults, and the bytes of its reader or writer where these are known.
use Rattle.std.specs.Prelude.{ℕ, List, Option}

-- how many faults there were, and the bytes where they are known
pub record Counted : Type 0 where
  pub faults : ℕ
  pub bytes : Option (List ℕ)
