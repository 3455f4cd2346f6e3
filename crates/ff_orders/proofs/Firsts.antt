-- The first number of one kind is the first of another.
use Rattle.std.proofs.Common.{ℕ}
use Rattle.ff_orders.specs.Verdicts.{IsFirst, Never}

pub first_by : (P Q : ℕ → Type 0) → ((n : ℕ) → P n → Q n) → ((n : ℕ) → Q n → P n) → (n : ℕ) → IsFirst P n → IsFirst Q n
first_by P Q to back n first = record { is = to n first.is; before = λ m l q. first.before m l (back m q) }

pub never_by : (P Q : ℕ → Type 0) → ((n : ℕ) → Q n → P n) → Never P → Never Q
never_by P Q back none = λ n q. none n (back n q)
