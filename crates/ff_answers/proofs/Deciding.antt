-- Of finitely many propositions it can't be that they aren't all decided.
use Rattle.std.proofs.Common.{◌≡◌, ◌⊎◌, inl, inr, ℕ, zero, suc, ◌+◌, ◌<◌, ◌≤◌, List, [], ◌∷◌, length, slice_index, sym, subst, arith, Contains}
use Rattle.ff_basics.proofs.Memberships.{first_member, later_member}
use Rattle.ff_basics.proofs.Numbers.{below_or_last}

pub either_way : (P : Type 0) → ((P ⊎ (P → ⊥)) → ⊥) → ⊥
either_way P k = k (inr (λ p. k (inl p)))

-- what can't fail to be for each number can't fail to be for all
pub each_below : (n : ℕ) (P : ℕ → Type 0) → ((i : ℕ) → i < n → (P i → ⊥) → ⊥) → (((i : ℕ) → i < n → P i) → ⊥) → ⊥
each_below zero P h k = k (λ i l. absurd (omega (arith, l)))
each_below (suc n) P h k = each_below n P (λ i l. h i (omega (arith, l)))
    (λ f. h n (omega arith) (λ p. k (λ i l. elim (below_or_last n i l) [
      | inl b ↦ f i b
      | inr e ↦ subst P (sym e) p
    ])))

-- the least number of some kind
pub record IsLeast (P : ℕ → Type 0) (u : ℕ) : Type 0 where
  pub is : P u
  pub none : (w : ℕ) → w < u → P w → ⊥

pub some_least : (P : ℕ → Type 0) (fuel n : ℕ) → n ≤ fuel → P n → ((u : ℕ) → IsLeast P u → ⊥) → ⊥
some_least P zero n l p k = k n (record { is = p; none = λ w m q. omega (arith, l, m) })
some_least P (suc fuel) n l p k = either_way ((w : ℕ) × (w < n) × P w) (by (some_least P fuel)) where
  by : ((n : ℕ) → n ≤ fuel → P n → ((u : ℕ) → IsLeast P u → ⊥) → ⊥)
      → ((w : ℕ) × (w < n) × P w) ⊎ (((w : ℕ) × (w < n) × P w) → ⊥) → ⊥
  by again (inl (w, m, q)) = again w (omega (arith, l, m)) q k
  by again (inr none) = k n (record { is = p; none = λ w m q. none (w, m, q) })

-- the numbers of some kind from a on, in order
pub record AreFrom (P : ℕ → Type 0) (a end : ℕ) (list : List ℕ) : Type 0 where
  pub each : (i : ℕ) → i < length list → P (slice_index list i)
  pub from : (i : ℕ) → i < length list → a ≤ slice_index list i
  pub rising : (i j : ℕ) → i < j → j < length list → slice_index list i < slice_index list j
  pub all : (v : ℕ) → P v → a ≤ v → v < end → Contains list v

from_more : (P : ℕ → Type 0) (a end : ℕ) (list : List ℕ) → P a → AreFrom P (suc a) end list → AreFrom P a end (a ∷ list)
from_more P a end list p are = record { each = each; from = from; rising = rising; all = all } where
  each : (i : ℕ) → i < length (a ∷ list) → P (slice_index (a ∷ list) i)
  each zero l = p
  each (suc i) l = are.each i (omega (arith, l))

  from : (i : ℕ) → i < length (a ∷ list) → a ≤ slice_index (a ∷ list) i
  from zero l = omega arith
  from (suc i) l = let h = are.from i (omega (arith, l)) in omega (arith, h)

  rising : (i j : ℕ) → i < j → j < length (a ∷ list) → slice_index (a ∷ list) i < slice_index (a ∷ list) j
  rising i zero l m = absurd (omega (arith, l))
  rising zero (suc j) l m = let h = are.from j (omega (arith, m)) in omega (arith, h)
  rising (suc i) (suc j) l m = are.rising i j (omega (arith, l)) (omega (arith, m))

  equal_or_more : (v : ℕ) → a ≤ v → (a ≡ v) ⊎ (suc a ≤ v)
  equal_or_more v l = grind (arith, l)

  all : (v : ℕ) → P v → a ≤ v → v < end → Contains (a ∷ list) v
  all v q l m = elim (equal_or_more v l) [
    | inl e ↦ first_member a list v e
    | inr n ↦ later_member a list v (are.all v q n m)
  ]

from_less : (P : ℕ → Type 0) (a end : ℕ) (list : List ℕ) → (P a → ⊥) → AreFrom P (suc a) end list → AreFrom P a end list
from_less P a end list n are = record {
  each = are.each;
  from = λ i l. let h = are.from i l in omega (arith, h);
  rising = are.rising;
  all = λ v q l m. are.all v q (more v q l) m;
} where
  more : (v : ℕ) → P v → a ≤ v → suc a ≤ v
  more v q l = elim (equal_or_more v l) [ inl e ↦ absurd (n (subst P (sym e) q)) | inr m ↦ m ] where
    equal_or_more : (v : ℕ) → a ≤ v → (a ≡ v) ⊎ (suc a ≤ v)
    equal_or_more v l = grind (arith, l)

pub some_from : (P : ℕ → Type 0) (n a end : ℕ) → a + n ≡ end → ((list : List ℕ) → AreFrom P a end list → ⊥) → ⊥
some_from P zero a end e k = k [] (record {
  each = λ i l. absurd (omega (arith, l));
  from = λ i l. absurd (omega (arith, l));
  rising = λ i j l m. absurd (omega (arith, m));
  all = λ v q l m. absurd (omega (arith, e, l, m));
})
some_from P (suc n) a end e k = some_from P n (suc a) end (omega (arith, e)) (λ list are. either_way (P a) (by list are)) where
  by : (list : List ℕ) → AreFrom P (suc a) end list → (P a ⊎ (P a → ⊥)) → ⊥
  by list are (inl p) = k (a ∷ list) (from_more P a end list p are)
  by list are (inr q) = k list (from_less P a end list q are)
