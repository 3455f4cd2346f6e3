-- Sums along a closed list, from any of its places on, and its area as such a sum.
use Rattle.std.proofs.Common.{◌≡◌, ℕ, zero, suc, ◌+◌, ◌<◌, List, [], ◌∷◌, length, slice_index, Bool, true, false, nat_lt, if◌then◌else◌, arith, refl, sym, ap, ◌∙◌, ℤ, ◌+ℤ◌}
use Rattle.std.proofs.lemmas.Bool.{lt-ltb}
use Rattle.std.proofs.lemmas.Bool.Decides.{nat_tests}
use Rattle.ff_whole.proofs.Signs.{linear}
use Rattle.ff_whole.proofs.Searches.{sum}
use Rattle.ff_whole.proofs.ClosedLists.{walk, walk-below, walk-full}
use Rattle.ff_whole.specs.declared.points.Pt.{Pt}
use Rattle.ff_whole.specs.Points.{cross}
use Rattle.ff_whole.specs.Convex.{next, point_at}
use Rattle.ff_types.specs.Rings.{corner, after}
use Rattle.ff_types.specs.Areas.{area, area_from}

-- ---- sums

pub sum_same : (n : ℕ) (f g : ℕ → ℤ) → ((i : ℕ) → i < n → f i ≡ g i) → sum n f ≡ sum n g
sum_same zero f g h = refl
sum_same (suc n) f g h = let a = sum_same n f g (λ i l. h i (omega (arith, l))) in let b = h n (omega arith) in omega (arith, linear)

-- the first taken out
pub sum_first : (n : ℕ) (f : ℕ → ℤ) → sum (suc n) f ≡ f 0 +ℤ sum n (λ i. f (suc i))
sum_first zero f = omega (arith, linear)
sum_first (suc n) f = let a = sum_first n f in omega (arith, linear)

-- the first n of n + m taken out
pub sum_split : (n m : ℕ) (f : ℕ → ℤ) → sum (n + m) f ≡ sum n f +ℤ sum m (λ i. f (n + i))
sum_split n zero f = let e : n + 0 ≡ n = omega arith in ap (λ k. sum k f) e ∙ omega (arith, linear)
sum_split n (suc m) f =
    let e : n + suc m ≡ suc (n + m) = omega arith in
    let a = sum_split n m f in
    ap (λ k. sum k f) e ∙ omega (arith, linear)

-- ---- round a closed list of length n

walk_on : (n s k : ℕ) → walk n (next n s) k ≡ walk n s (suc k)
walk_on n s zero = refl
walk_on n s (suc k) = ap (next n) (walk_on n s k)

pub walk_start : (n k : ℕ) → k < n → walk n 0 k ≡ k
walk_start n zero l = refl
walk_start n (suc k) l = ap (next n) (walk_start n k (omega (arith, l))) ∙ grind (arith, nat_tests)

from_next : (n s : ℕ) (f : ℕ → ℤ) → s < n → sum n (λ k. f (walk n (next n s) k)) ≡ sum n (λ k. f (walk n s k))
from_next n s f l =
    let a = sum_same n (λ k. f (walk n (next n s) k)) (λ k. f (walk n s (suc k))) (λ k m. ap f (walk_on n s k)) in
    let b = sum_first n (λ k. f (walk n s k)) in
    let c = ap f (walk-full n s l) in
    omega (arith, linear)

from_walk : (n k : ℕ) (f : ℕ → ℤ) → 0 < n → sum n (λ i. f (walk n (walk n 0 k) i)) ≡ sum n (λ i. f (walk n 0 i))
from_walk n zero f l = refl
from_walk n (suc k) f l = from_next n (walk n 0 k) f (walk-below n 0 k l) ∙ from_walk n k f l

-- from any place on it is the same sum
pub sum_round : (n s : ℕ) (f : ℕ → ℤ) → s < n → sum n (λ k. f (walk n s k)) ≡ sum n f
sum_round n s f l =
    let some : 0 < n = omega (arith, l) in
    ap (λ t. sum n (λ k. f (walk n t k))) (sym (walk_start n s l))
    ∙ from_walk n s f some
    ∙ sum_same n (λ i. f (walk n 0 i)) f (λ i m. ap f (walk_start n i m))

pub walk_far : (n s k i : ℕ) → walk n s (k + i) ≡ walk n (walk n s k) i
walk_far n s k zero = let e : k + 0 ≡ k = omega arith in ap (walk n s) e
walk_far n s k (suc i) = let e : k + suc i ≡ suc (k + i) = omega arith in ap (walk n s) e ∙ ap (next n) (walk_far n s k i)

-- ---- areas

-- what the step from place i on sweeps over
abbrev pub sweep_at : List Pt → List ℕ → ℕ → ℤ
sweep_at points ring i = cross (point_at points (corner ring i)) (point_at points (after ring i))

-- the vertex after place i, where the last is followed by `first`
abbrev follower : List ℕ → ℕ → ℕ → ℕ
follower list first i = if nat_lt (i + 1) (length list) then slice_index list (i + 1) else first

test : (a b n : ℕ) → b ≡ suc a → nat_lt b (suc n) ≡ nat_lt a n
test a b n e = grind (arith, nat_tests, e)

area_sum_from : (points : List Pt) (first : ℕ) (list : List ℕ)
    → area_from points first list ≡ sum (length list) (λ i. cross (point_at points (slice_index list i)) (point_at points (follower list first i)))
area_sum_from points first [] = refl
area_sum_from points first (u ∷ []) = omega (arith, linear)
area_sum_from points first (u ∷ v ∷ rest) =
    ap (λ z. cross (point_at points u) (point_at points v) +ℤ z)
    (area_sum_from points first (v ∷ rest) ∙ sum_same (length (v ∷ rest)) _ _ (λ i l. ap (λ w. cross (point_at points (slice_index (v ∷ rest) i)) (point_at points w)) (later i)))
    ∙ ap (λ w. cross (point_at points u) (point_at points w) +ℤ sum (length (v ∷ rest)) (λ i. step (suc i))) (sym start)
    ∙ sym (sum_first (length (v ∷ rest)) step)
  where
    step : ℕ → ℤ
    step i = cross (point_at points (slice_index (u ∷ v ∷ rest) i)) (point_at points (follower (u ∷ v ∷ rest) first i))

    start : follower (u ∷ v ∷ rest) first 0 ≡ v
    start = ap (λ b. if b then slice_index (u ∷ v ∷ rest) (0 + 1) else first) (lt-ltb (0 + 1) (length (u ∷ v ∷ rest)) (omega arith))

    later : (i : ℕ) → follower (v ∷ rest) first i ≡ follower (u ∷ v ∷ rest) first (suc i)
    later i =
        let n : nat_lt (suc i + 1) (length (u ∷ v ∷ rest)) ≡ nat_lt (i + 1) (length (v ∷ rest)) = test (i + 1) (suc i + 1) (length (v ∷ rest)) (omega arith) in
        let e : suc i + 1 ≡ suc (i + 1) = omega arith in
        let w : slice_index (u ∷ v ∷ rest) (suc i + 1) ≡ slice_index (v ∷ rest) (i + 1) = ap (slice_index (u ∷ v ∷ rest)) e in
        sym (ap (λ b. if b then slice_index (u ∷ v ∷ rest) (suc i + 1) else first) n ∙ ap (λ x. if nat_lt (i + 1) (length (v ∷ rest)) then x else first) w)

-- the area is the sum of what the steps sweep over
pub area_sum : (points : List Pt) (ring : List ℕ) → area points ring ≡ sum (length ring) (sweep_at points ring)
area_sum points [] = refl
area_sum points (v ∷ rest) = area_sum_from points v (v ∷ rest) ∙ sum_same (length (v ∷ rest)) _ _ (λ i l. ap (λ w. cross (point_at points (slice_index (v ∷ rest) i)) (point_at points w)) (follows i)) where
  follows : (i : ℕ) → follower (v ∷ rest) v i ≡ after (v ∷ rest) i
  follows i = by (nat_lt (i + 1) (length (v ∷ rest))) where
    by : (b : Bool) → (if b then slice_index (v ∷ rest) (i + 1) else v) ≡ slice_index (v ∷ rest) (if b then i + 1 else 0)
    by true = refl
    by false = refl
