-- On which side of a way the vertices of a ring are, one after the other.
use Rattle.std.proofs.Common.{ℕ, zero, suc, ◌<◌, List, [], ◌∷◌, length, get_or, arith, refl, Bool, IsTrue, ℤ, pos, ◌≤ℤ◌}
use Rattle.std.specs.Prelude.{int_le}
use Rattle.std.specs.List.{list_all}
use Rattle.std.proofs.lemmas.Int.{ints}
use Rattle.ff_basics.proofs.Tests.{at_most_from, both_of, le_from, of_both, to_at_most, to_le}
use Rattle.ff_whole.specs.declared.points.Pt.{Pt}
use Rattle.ff_whole.specs.Points.{turn}
use Rattle.ff_whole.specs.Places.{place_of, through, height}
use Rattle.ff_whole.specs.Convex.{point_at}
use Rattle.ff_whole.proofs.Signs.{linear}
use Rattle.ff_whole.proofs.Turns.{height-through, turn-swap}
use Rattle.ff_edges.specs.Ways.{are_left, are_right}

pub all_from : (test : ℕ → Bool) (xs : List ℕ) → ((k : ℕ) → k < length xs → IsTrue (test (get_or xs k 0))) → IsTrue (list_all test xs)
all_from test [] h = refl
all_from test (x ∷ xs) h = of_both (test x) (list_all test xs) (h 0 (omega arith)) (all_from test xs (λ k l. h (suc k) (omega (arith, l))))

pub all_at : (test : ℕ → Bool) (xs : List ℕ) → IsTrue (list_all test xs) → (k : ℕ) → k < length xs → IsTrue (test (get_or xs k 0))
all_at test [] t k l = absurd (omega (arith, l))
all_at test (x ∷ xs) t zero l = (both_of (test x) (list_all test xs) t).0
all_at test (x ∷ xs) t (suc k) l = all_at test xs (both_of (test x) (list_all test xs) t).1 k (omega (arith, l))

module _ (points : List Pt) (p q : Pt) (ring : List ℕ) where
  -- the k-th vertex
  abbrev r : ℕ → Pt
  r k = point_at points (get_or ring k 0)

  abbrev above : ℕ → ℤ
  above k = height (through p q) (place_of (r k))

  pub left_from : ((k : ℕ) → k < length ring → pos 0 ≤ℤ turn p q (r k)) → IsTrue (are_left points p q ring)
  left_from h = all_from _ ring (λ k l. to_le (above k) (turned k (h k l))) where
    turned : (k : ℕ) → pos 0 ≤ℤ turn p q (r k) → pos 0 ≤ℤ above k
    turned k m = let e = height-through p q (r k) in omega (arith, linear)

  pub left_at : IsTrue (are_left points p q ring) → (k : ℕ) → k < length ring → pos 0 ≤ℤ turn p q (r k)
  left_at t k l = let e = height-through p q (r k) in let m = le_from (above k) (all_at _ ring t k l) in omega (arith, linear)

  pub right_from : ((k : ℕ) → k < length ring → pos 0 ≤ℤ turn q p (r k)) → IsTrue (are_right points p q ring)
  right_from h = all_from _ ring (λ k l. to_at_most (above k) (turned k (h k l))) where
    turned : (k : ℕ) → pos 0 ≤ℤ turn q p (r k) → above k ≤ℤ pos 0
    turned k m = let e = height-through p q (r k) in let f = turn-swap p q (r k) in omega (arith, linear)

  pub right_at : IsTrue (are_right points p q ring) → (k : ℕ) → k < length ring → pos 0 ≤ℤ turn q p (r k)
  right_at t k l = let e = height-through p q (r k) in let f = turn-swap p q (r k) in let m = at_most_from (above k) (all_at _ ring t k l) in omega (arith, linear)
