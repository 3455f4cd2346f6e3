-- Facts on small drawings by computing: a test, and that what passes it holds. The tests ask more than is needed, so
-- they show what holds and never what doesn't.
use Rattle.std.proofs.Common.{◌≡◌, ◌≢◌, ℕ, zero, suc, ◌<◌, ◌==◌, ◌⊎◌, inl, inr, ℤ, pos, negsuc, ◌<ℤ◌, ◌≤ℤ◌, Bool, true, false, not, ◌&&◌, ◌||◌, List, length, refl, sym, subst, arith, IsTrue, nat_lt}
use Rattle.std.specs.Ordering.{int_eq}
use Rattle.std.proofs.lemmas.Int.{ints}
use Rattle.std.proofs.lemmas.Bool.{false≢true, eqb-true, eqb-false, ltb-true}
use Rattle.std.proofs.lemmas.Bool.Decides.{Decides-int_eq}
use Rattle.ff_basics.proofs.Tests.{both_of, either_of}
use Rattle.ff_whole.specs.declared.points.Pt.{Pt}
use Rattle.ff_whole.specs.Convex.{point_at, left_of, IsConvex, AreApart}

-- ---- bounded numbers

abbrev pub all_below : ℕ → (ℕ → Bool) → Bool
all_below zero p = true
all_below (suc n) p = p n && all_below n p

abbrev pub any_below : ℕ → (ℕ → Bool) → Bool
any_below zero p = false
any_below (suc n) p = p n || any_below n p

pub below : (n : ℕ) (p : ℕ → Bool) → IsTrue (all_below n p) → (i : ℕ) → i < n → IsTrue (p i)
below zero p e i h = absurd (omega (arith, h))
below (suc n) p e i h = by (i == n) refl (below n p (both_of (p n) (all_below n p) e).1 i) where
  by : (b : Bool) → (i == n) ≡ b → (i < n → IsTrue (p i)) → IsTrue (p i)
  by true f g = subst (λ k. IsTrue (p k)) (sym (eqb-true i n f)) (both_of (p n) (all_below n p) e).0
  by false f g = g (less (eqb-false i n f)) where
    less : i ≢ n → i < n
    less d = grind (arith, h, d)

pub some_below : (n : ℕ) (p : ℕ → Bool) → IsTrue (any_below n p) → (i : ℕ) × (i < n) × IsTrue (p i)
some_below zero p e = absurd (false≢true e)
some_below (suc n) p e = elim (either_of (p n) (any_below n p) e) [
  | inl h ↦ (n, omega arith, h)
  | inr h ↦ let r = some_below n p h in (r.0, omega (arith, r.1), r.2)
]

pub below_two : (n m : ℕ) (p : ℕ → ℕ → Bool) → IsTrue (all_below n (λ i. all_below m (p i))) → (i j : ℕ) → i < n → j < m → IsTrue (p i j)
below_two n m p e i j h l = below m (p i) (below n (λ i. all_below m (p i)) e i h) j l

-- ---- whole numbers

abbrev pub is_nonneg : ℤ → Bool
is_nonneg (pos n) = true
is_nonneg (negsuc n) = false

abbrev pub is_pos : ℤ → Bool
is_pos (pos zero) = false
is_pos (pos (suc n)) = true
is_pos (negsuc n) = false

abbrev pub is_nonpos : ℤ → Bool
is_nonpos (pos zero) = true
is_nonpos (pos (suc n)) = false
is_nonpos (negsuc n) = true

pub nonneg : (z : ℤ) → IsTrue (is_nonneg z) → pos 0 ≤ℤ z
nonneg (pos n) e = omega (arith, ints)
nonneg (negsuc n) e = absurd (false≢true e)

pub positive : (z : ℤ) → IsTrue (is_pos z) → pos 0 <ℤ z
positive (pos zero) e = absurd (false≢true e)
positive (pos (suc n)) e = omega (arith, ints)
positive (negsuc n) e = absurd (false≢true e)

pub nonpos : (z : ℤ) → IsTrue (is_nonpos z) → z ≤ℤ pos 0
nonpos (pos zero) e = omega (arith, ints)
nonpos (pos (suc n)) e = absurd (false≢true e)
nonpos (negsuc n) e = omega (arith, ints)

-- ---- points

abbrev pub same_point : Pt → Pt → Bool
same_point p q = int_eq p.x q.x && int_eq p.y q.y

itself : (z : ℤ) → IsTrue (int_eq z z)
itself z = (Decides-int_eq z z).1 refl

point_itself : (p : Pt) → IsTrue (same_point p p)
point_itself p = rw (itself p.x, itself p.y) refl

pub points_equal : (p q : Pt) → p ≡ q → IsTrue (same_point p q)
points_equal p q e = subst (λ r. IsTrue (same_point p r)) e (point_itself p)

abbrev pub are_apart : List Pt → Bool
are_apart points = all_below (length points) (λ i. all_below (length points) (λ j. not (same_point (point_at points i) (point_at points j)) || (i == j)))

pub apart : (points : List Pt) → IsTrue (are_apart points) → AreApart points
apart points t = record { differ = differ } where
  differ : (i j : ℕ) → i < length points → j < length points → point_at points i ≡ point_at points j → i ≡ j
  differ i j h l e = by (either_of _ _ (below_two (length points) (length points) (λ i j. not (same_point (point_at points i) (point_at points j)) || (i == j)) t i j h l)) where
    by : IsTrue (not (same_point (point_at points i) (point_at points j))) ⊎ IsTrue (i == j) → i ≡ j
    by (inl x) = absurd (false≢true (subst (λ b. IsTrue (not b)) (points_equal _ _ e) x))
    by (inr x) = eqb-true i j x

abbrev pub is_convex : List Pt → Bool
is_convex points = nat_lt 0 (length points) && (all_below (length points) (λ i. all_below (length points) (λ j. is_nonneg (left_of points i (point_at points j))))
    && all_below (length points) (λ i. any_below (length points) (λ j. is_pos (left_of points i (point_at points j)))))

pub convex : (points : List Pt) → IsTrue (is_convex points) → IsConvex points
convex points t = record { some = ltb-true 0 (length points) a.0; left = left; wide = wide } where
  a : IsTrue (nat_lt 0 (length points)) × IsTrue (all_below (length points) (λ i. all_below (length points) (λ j. is_nonneg (left_of points i (point_at points j)))) && all_below (length points) (λ i. any_below (length points) (λ j. is_pos (left_of points i (point_at points j)))))
  a = both_of _ _ t

  b : IsTrue (all_below (length points) (λ i. all_below (length points) (λ j. is_nonneg (left_of points i (point_at points j))))) × IsTrue (all_below (length points) (λ i. any_below (length points) (λ j. is_pos (left_of points i (point_at points j)))))
  b = both_of _ _ a.1

  left : (i j : ℕ) → i < length points → j < length points → pos 0 ≤ℤ left_of points i (point_at points j)
  left i j h l = nonneg _ (below_two (length points) (length points) (λ i j. is_nonneg (left_of points i (point_at points j))) b.0 i j h l)

  wide : (i : ℕ) → i < length points → (j : ℕ) × (j < length points) × (pos 0 <ℤ left_of points i (point_at points j))
  wide i h = let r = some_below (length points) (λ j. is_pos (left_of points i (point_at points j))) (below (length points) (λ i. any_below (length points) (λ j. is_pos (left_of points i (point_at points j)))) b.1 i h) in (r.0, r.1, positive _ r.2)
