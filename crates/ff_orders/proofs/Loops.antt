-- Loops that look for the first number that is so.
use Rattle.std.proofs.Common.{ℕ, ◌+◌, ◌<◌, inl, inr, subst}
use Rattle.ff_basics.proofs.Numbers.{last_or}

-- none so far is so
abbrev pub NoneBelow : (ℕ → Type 0) → ℕ → Type 0
NoneBelow P n = (m : ℕ) → m < n → P m → ⊥

pub none_further : (P : ℕ → Type 0) (n : ℕ) → NoneBelow P n → (P n → ⊥) → NoneBelow P (n + 1)
none_further P n none not = λ m l p. elim (last_or m n l) [
  | inl less ↦ none m less p
  | inr e ↦ not (subst P e p)
]
