-- Places on the image of an edge.
use Rattle.std.proofs.Common.{◌≡◌, refl, subst, sym, ℕ, zero, suc, ◌+◌, ◌<◌, inl, inr, Bool, IsTrue, List, [], ◌∷◌, length, arith, ℤ, pos, negsuc, ◌<ℤ◌, ◌≤ℤ◌}
use Rattle.std.specs.List.{list_all}
use Rattle.std.proofs.lemmas.Bool.{cases_eq}
use Rattle.std.proofs.lemmas.Int.{ints}
use Rattle.ff_basics.proofs.Tests.{both_of, of_both}
use Rattle.ff_whole.specs.declared.points.Pt.{Pt}
use Rattle.ff_whole.specs.declared.places.Place.{Place}
use Rattle.ff_whole.specs.Places.{height, through, past}
use Rattle.ff_whole.proofs.Formulas.{point_e, point_env, place_e, place_env, past_e}
use Rattle.ff_whole.proofs.Ring.{◌⊕◌, ◌⊖◌, ◌⊗◌, solve}
use Rattle.ff_edges.specs.Ways.{is_on_way}
use Rattle.ff_edges.proofs.OnWays.{on_from, to_on}
use Rattle.ff_witness.specs.Witnessing.{across_line, place_at}

-- how far past p, as a height
pub across_past : (p q : Pt) (s : Place) → height (across_line p q) s ≡ past p q s
across_past p q s =
    let p' = point_e 0 in let q' = point_e 2 in let s' = place_e 4 in
    solve (point_env p (point_env q (place_env s [])))
    ((q'.x ⊖ p'.x) ⊗ s'.x ⊕ (q'.y ⊖ p'.y) ⊗ s'.y ⊖ ((q'.x ⊖ p'.x) ⊗ p'.x ⊕ (q'.y ⊖ p'.y) ⊗ p'.y) ⊗ s'.w)
    (past_e p' q' s') refl

pub not_less : (z : ℤ) → (z <ℤ pos 0 → ⊥) → pos 0 ≤ℤ z
not_less (pos m) f = omega (arith, ints)
not_less (negsuc m) f = absurd (f (omega (arith, ints)))

zero_is : (z : ℤ) → (pos 0 <ℤ z → ⊥) → (z <ℤ pos 0 → ⊥) → z ≡ pos 0
zero_is (pos zero) f g = refl
zero_is (pos (suc m)) f g = absurd (f (omega (arith, ints)))
zero_is (negsuc m) f g = absurd (g (omega (arith, ints)))

pub on_way_if : (p q : Pt) (s : Place) → (pos 0 <ℤ height (through p q) s → ⊥) → (height (through p q) s <ℤ pos 0 → ⊥) → (past p q s <ℤ pos 0 → ⊥)
    → (past q p s <ℤ pos 0 → ⊥) → IsTrue (is_on_way p q s)
on_way_if p q s a b c d = to_on p q s (record { on = zero_is (height (through p q) s) a b; after = not_less (past p q s) c; before = not_less (past q p s) d })

pub on_way_after : (p q : Pt) (s : Place) → IsTrue (is_on_way p q s) → past p q s <ℤ pos 0 → ⊥
on_way_after p q s t l = let r = (on_from p q s t).after in absurd (omega (arith, ints, l, r))

pub on_way_before : (p q : Pt) (s : Place) → IsTrue (is_on_way p q s) → past q p s <ℤ pos 0 → ⊥
on_way_before p q s t l = let r = (on_from p q s t).before in absurd (omega (arith, ints, l, r))

-- the first n places pass the test
abbrev pub AllTo : (Place → Bool) → List Place → ℕ → Type 0
AllTo test places n = (k : ℕ) → k < n → IsTrue (test (place_at places k))

pub one_to : (test : Place → Bool) (places : List Place) (n : ℕ) → AllTo test places n → IsTrue (test (place_at places n)) → AllTo test places (n + 1)
one_to test places n all t k l = elim (cases_eq k n) [
  | inl q ↦ subst (λ j. IsTrue (test (place_at places j))) (sym q) t
  | inr d ↦ all k (omega (arith, l, d))
]

pub all_of_them : (test : Place → Bool) (places : List Place) → AllTo test places (length places) → IsTrue (list_all test places)
all_of_them test [] h = refl
all_of_them test (s ∷ places) h = of_both (test s) (list_all test places) (h 0 (omega arith)) (all_of_them test places (λ k l. h (suc k) (omega (arith, l))))

pub each_of_them : (test : Place → Bool) (places : List Place) → IsTrue (list_all test places) → (k : ℕ) → k < length places → IsTrue (test (place_at places k))
each_of_them test [] t k l = absurd (omega (arith, l))
each_of_them test (s ∷ places) t zero l = (both_of (test s) (list_all test places) t).0
each_of_them test (s ∷ places) t (suc k) l = each_of_them test places (both_of (test s) (list_all test places) t).1 k (omega (arith, l))
