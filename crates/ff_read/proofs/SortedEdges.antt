-- Edges whose numbers, sorted, rise are different edges.
use Rattle.std.proofs.Common.{◌≡◌, ◌∙◌, ℕ, ◌<◌, List, length, get_or, map, false, arith, sym, subst}
use lib.Dec.{eqb}
use Rattle.std.proofs.lemmas.Bool.{eqb-false}
use Rattle.std.proofs.lemmas.List.{get_or_default, get_or-map, length-map}
use Rattle.std.specs.List.{IsDistinct}
use Rattle.std.specs.List.Sorted.{IsPermutation}
use Rattle.std.proofs.lemmas.List.Sorted.{IsPermutation-sym}
use Rattle.std.proofs.lemmas.Map.Keys.{apart_from_distinct, IsDistinct-from_apart, IsDistinct-IsPermutation}
use Rattle.std.proofs.lemmas.Bool.Decides.{nat_tests}
use Rattle.ff_types.specs.declared.patterns.EdgeEnds.{EdgeEnds}
use Rattle.ff_types.specs.Patterns.{edge_at}
use Rattle.ff_read.specs.Refused.{IsSameEdge}
use Rattle.ff_read.specs.Seen.{edge_key, AreRising}
use Rattle.ff_read.proofs.SeenEdges.{key_same}

-- ---- rising numbers

pub rising_start : (keys : List ℕ) → AreRising keys 1
rising_start keys i j h l = absurd (omega (arith, h, l))

less_apart : (a b : ℕ) → a < b → eqb a b ≡ false
less_apart a b h = grind (arith, nat_tests, h)

flips : (a b : ℕ) → eqb a b ≡ eqb b a
flips a b = grind (arith, nat_tests)

distinct : (ys : List ℕ) → AreRising ys (length ys) → IsDistinct eqb ys
distinct ys up = IsDistinct-from_apart eqb ys (λ i j d h l. less_apart (get_or ys i d) (get_or ys j d)
    (subst (λ a. a < get_or ys j d) (get_or_default ys i 0 d (omega (arith, h, l)))
    (subst (λ b. get_or ys i 0 < b) (get_or_default ys j 0 d l) (up i j h l))))

-- ---- their edges

pub once_of : (xs : List EdgeEnds) (ys : List ℕ) → IsPermutation (map edge_key xs) ys → AreRising ys (length ys)
    → (k e : ℕ) → k < e → e < length xs → IsSameEdge (edge_at xs k) (edge_at xs e) → ⊥
once_of xs ys same up k e h l s =
    let zs = map edge_key xs in
    let within : e < length zs = subst (λ n. e < n) (sym (length-map xs edge_key)) l in
    let apart : eqb (get_or zs k 0) (get_or zs e 0) ≡ false = apart_from_distinct eqb zs k e 0
    (IsDistinct-IsPermutation eqb flips ys zs (IsPermutation-sym zs ys same) (distinct ys up)) h within in
    eqb-false (get_or zs k 0) (get_or zs e 0) apart
    (get_or-map edge_key xs k (record { a = 0; b = 0 }) 0 (omega (arith, h, l))
    ∙ key_same (edge_at xs k) (edge_at xs e) s
    ∙ sym (get_or-map edge_key xs e (record { a = 0; b = 0 }) 0 l))
