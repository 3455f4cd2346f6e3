-- The least of finitely many ratios.
use Rattle.std.proofs.Common.{refl, arith, ℤ, pos, ◌*ℤ◌, ◌<ℤ◌, ◌≤ℤ◌, List, [], ◌∷◌}
use lib.Signed.{≤ℤ_refl}
use Rattle.std.specs.List.{All, Contains}
use Rattle.std.proofs.lemmas.Int.{by_lt_z}
use Rattle.std.proofs.lemmas.List.Elements.{All-nil, All-cons, All-tail, All-contains}
use Rattle.ff_basics.proofs.Lists.{each_from}
use Rattle.ff_basics.proofs.Memberships.{later_member}
use Rattle.ff_whole.proofs.Ring.{var, ◌⊗◌, solve}
use Rattle.ff_whole.proofs.Signs.{linear, le-mul_left, le_from_mul}

-- the ratio of x is at most that of y, where both denominators are positive
abbrev pub AtMost : {X : Type 0} → (X → ℤ) → (X → ℤ) → X → X → Type 0
AtMost u v x y = (u x *ℤ v y) ≤ℤ (u y *ℤ v x)

at_most_trans : {X : Type 0} (u v : X → ℤ) (x y z : X) → pos 0 <ℤ v x → pos 0 <ℤ v y → pos 0 <ℤ v z
    → AtMost u v x y → AtMost u v y z → AtMost u v x z
at_most_trans u v x y z f g h k l = by (u x) (v x) (u y) (v y) (u z) (v z) f g h k l
  where
    by : (a p b q c r : ℤ) → pos 0 <ℤ p → pos 0 <ℤ q → pos 0 <ℤ r → (a *ℤ q) ≤ℤ (b *ℤ p) → (b *ℤ r) ≤ℤ (c *ℤ q)
        → (a *ℤ r) ≤ℤ (c *ℤ p)
    by a p b q c r f g h k l =
        let env = a ∷ p ∷ b ∷ q ∷ c ∷ r ∷ [] in
        let m = le-mul_left r (a *ℤ q) (b *ℤ p) (omega (arith, linear)) k in
        let n = le-mul_left p (b *ℤ r) (c *ℤ q) (omega (arith, linear)) l in
        let e = solve env (var 5 ⊗ (var 0 ⊗ var 3)) (var 3 ⊗ (var 0 ⊗ var 5)) refl in
        let o = solve env (var 5 ⊗ (var 2 ⊗ var 1)) (var 1 ⊗ (var 2 ⊗ var 5)) refl in
        let i = solve env (var 1 ⊗ (var 4 ⊗ var 3)) (var 3 ⊗ (var 4 ⊗ var 1)) refl in
        le_from_mul q (a *ℤ r) (c *ℤ p) g (omega (arith, linear))

here : {X : Type 0} (x : X) (xs : List X) → Contains (x ∷ xs) x
here x xs = (0, omega arith, refl)

-- one of finitely many ratios with positive denominators is the least
pub least_ratio : {X : Type 0} (u v : X → ℤ) (x : X) (xs : List X) → All (λ y. pos 0 <ℤ v y) (x ∷ xs)
    → (y : X) × Contains (x ∷ xs) y × All (AtMost u v y) (x ∷ xs)
least_ratio u v x [] h = (x, here x [], All-cons (AtMost u v x) x [] (≤ℤ_refl _) (All-nil _))
least_ratio {X} u v x (z ∷ zs) h = pick (least_ratio u v z zs (All-tail (λ y. pos 0 <ℤ v y) x (z ∷ zs) h))
  where
    positive : (y : X) → Contains (x ∷ z ∷ zs) y → pos 0 <ℤ v y
    positive y c = All-contains (λ y. pos 0 <ℤ v y) (x ∷ z ∷ zs) y h c

    pick : (y : X) × Contains (z ∷ zs) y × All (AtMost u v y) (z ∷ zs)
        → (y : X) × Contains (x ∷ z ∷ zs) y × All (AtMost u v y) (x ∷ z ∷ zs)
    pick r = let y = r.0 in by_lt_z (u x *ℤ v y) (u y *ℤ v x)
        (λ less. (
          x,
          here x (z ∷ zs),
          All-cons (AtMost u v x) x (z ∷ zs) (≤ℤ_refl _)
              (each_from (AtMost u v x) (z ∷ zs) (λ t c. at_most_trans u v x y t (positive x (here x (z ∷ zs))) (positive y (later_member x (z ∷ zs) y r.1)) (positive t (later_member x (z ∷ zs) t c)) (omega (arith, linear)) (All-contains (AtMost u v y) (z ∷ zs) t r.2 c))),
        ))
        (λ more. (y, later_member x (z ∷ zs) y r.1, All-cons (AtMost u v y) x (z ∷ zs) more r.2))
