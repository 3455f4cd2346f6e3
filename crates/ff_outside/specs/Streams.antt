-- What a source gives and a sink takes, and when a call of them may fail. This project's own.
use Rattle.std.proofs.Common.{subst, sym, lit≤}
use Rattle.std.specs.Prelude.{◌≡◌, ◌<◌, ◌≤◌, ◌⊎◌, ◌+◌, ◌-◌, ◌^◌, min, ℕ, Bool, if◌then◌else◌, List, [], length, take, drop, Option, Some}

-- a fault has been counted since: the count rose, or it stands at its type's last value
abbrev pub Rose : ℕ → ℕ → Type 0 → Type 0
Rose before now at_last = (before < now) ⊎ at_last

-- one more fault where the call failed, up to the last value of 64 bits
abbrev pub counted : ℕ → Bool → ℕ
counted before done = if done then before else min (before + 1) (2 ^ 64 - 1)

-- a count at the last value of its type is one that has come to the end of 64 bits
pub late-64 : (n : ℕ) → n ≡ 2 ^ 64 - 1 → 2 ^ 64 - 1 ≤ n
late-64 n e = subst (λ (m : ℕ). 2 ^ 64 - 1 ≤ m) (sym e) (lit≤ tt)

-- the last count of 128 bits is past the last of 64
pub late-128 : (n : ℕ) → n ≡ 2 ^ 128 - 1 → 2 ^ 64 - 1 ≤ n
late-128 n e = subst (λ (m : ℕ). 2 ^ 64 - 1 ≤ m) (sym e) (lit≤ tt)

-- n bytes were put at the front of the buffer: the first of those left, 0 exactly at the end
pub record Gives (old : List ℕ) (new : Option (List ℕ)) (buf : List ℕ) (n : ℕ) : Type 0 where
  pub front : take n buf ≡ take n old
  pub rest : new ≡ Some (drop n old)
  pub enough : n ≤ length old
  pub end : n ≡ 0 → old ≡ []
