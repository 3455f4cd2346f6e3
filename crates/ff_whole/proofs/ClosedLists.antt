-- The places of a closed list of length n, in turn from the place s on.
use Rattle.std.proofs.Common.{◌≡◌, ◌≢◌, ℕ, zero, suc, ◌+◌, ◌-◌, ◌<◌, ◌≤◌, arith, ap, ◌∙◌, nat_lt, if◌then◌else◌}
use Rattle.std.proofs.lemmas.Bool.Decides.{nat_tests}
use Rattle.ff_whole.specs.Convex.{next}

pub next-below : (n i : ℕ) → i < n → next n i < n
next-below n i h = grind (arith, nat_tests)

pub next-apart : (n i : ℕ) → 2 ≤ n → i < n → next n i ≢ i
next-apart n i h l e = grind (arith, nat_tests)

pub next-alone : (n i : ℕ) → n ≤ 1 → i < n → next n i ≡ i
next-alone n i h l = grind (arith, nat_tests)

abbrev pub walk : ℕ → ℕ → ℕ → ℕ
walk n s zero = s
walk n s (suc k) = next n (walk n s k)

pub walk-below : (n s k : ℕ) → s < n → walk n s k < n
walk-below n s zero h = h
walk-below n s (suc k) h = next-below n (walk n s k) (walk-below n s k h)

-- the same place, by a test
abbrev place : ℕ → ℕ → ℕ → ℕ
place n s k = if nat_lt (s + k) n then s + k else s + k - n

next-place : (n s k : ℕ) → s < n → k < n → next n (place n s k) ≡ place n s (suc k)
next-place n s k h l = grind (arith, nat_tests)

walk-place : (n s k : ℕ) → s < n → k ≤ n → walk n s k ≡ place n s k
walk-place n s zero h l = grind (arith, nat_tests)
walk-place n s (suc k) h l = ap (next n) (walk-place n s k h (omega arith)) ∙ next-place n s k h (omega arith)

pub walk-full : (n s : ℕ) → s < n → walk n s n ≡ s
walk-full n s h = let e = walk-place n s n h (omega arith) in grind (arith, nat_tests)

pub walk-last : (n s : ℕ) → s < n → next n (walk n s (n - 1)) ≡ s
walk-last n s h = let e : suc (n - 1) ≡ n = omega arith in ap (walk n s) e ∙ walk-full n s h

-- it comes back to s no earlier
pub walk-back : (n s k : ℕ) → s < n → k < n → walk n s k ≡ s → k ≡ 0
walk-back n s k h l e = let w = walk-place n s k h (omega arith) in grind (arith, nat_tests)

-- it comes to every place
pub walk-to : (n s i : ℕ) → s < n → i < n → (k : ℕ) × (k < n) × (walk n s k ≡ i)
walk-to n s i h l =
    let k = if nat_lt i s then i + n - s else i - s in
    let below : k < n = grind (arith, nat_tests) in
    let e : place n s k ≡ i = grind (arith, nat_tests) in
    (k, below, walk-place n s k h (omega arith) ∙ e)

-- the place before i
abbrev pub prev : ℕ → ℕ → ℕ
prev n i = if nat_lt 0 i then i - 1 else n - 1

pub prev-below : (n i : ℕ) → i < n → prev n i < n
prev-below n i h = grind (arith, nat_tests)

pub next-prev : (n i : ℕ) → i < n → next n (prev n i) ≡ i
next-prev n i h = grind (arith, nat_tests)
