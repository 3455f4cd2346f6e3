-- The nearest stackings are those of best solutions of each part.
use Rattle.std.proofs.Common.{◌≡◌, ℕ, suc, ◌+◌, ◌≤◌, ◌↔◌, Bool, true, false, not, List, [], ◌∷◌, slice_get, count_by, refl, ap, ◌∙◌, arith, Option, Some, Contains}
use Rattle.ff_tables.specs.declared.orders.Order.{Order}
use Rattle.ff_tables.specs.declared.orders.Order.TheVariants.{Below, Above}
use Rattle.ff_tables.specs.declared.terms.Constraint.{Constraint}
use Rattle.ff_types.specs.declared.pins.Pin.{Pin}
use Rattle.ff_types.specs.Sheets.{Sheet}
use Rattle.ff_types.specs.Inside.{Overlap}
use Rattle.ff_types.specs.Stackings.{OrdersOverlaps}
use Rattle.ff_types.specs.Assignments.{set_of}
use Rattle.ff_types.proofs.FewFaces.{overlap_turned}
use Rattle.ff_propagate.specs.Solutions.{solutions_of}
use Rattle.ff_propagate.specs.Choices.{IsChoice, value_of}
use Rattle.ff_solve.specs.Choices.{IsKept, IsSetOf, HasStacking, HasChoice}
use Rattle.ff_near.specs.Distance.{has_order, distance, decides_otherwise, share, cost, costs, IsBest, IsBestChoice}
use Rattle.ff_near.specs.Laws.{DistancesAreSums, LeastSumsAreBest, NearestAreBest, IsNearest}
use Rattle.ff_near.proofs.Sums.{bit, count_cons, choice_sum}
use Rattle.ff_near.proofs.Apart.{parts_all}

count_same : {X : Type 0} (p q : X → Bool) (xs : List X) → ((i : ℕ) (x : X) → slice_get xs i ≡ Some x → p x ≡ q x)
    → count_by p xs ≡ count_by q xs
count_same p q [] each = refl
count_same p q (x ∷ xs) each =
    let a = count_cons p x xs in let b = count_cons q x xs in
    let c : bit (p x) ≡ bit (q x) = ap bit (each 0 x refl) in
    let d = count_same p q xs (λ i y e. each (suc i) y e) in omega (arith, a, b, c, d)

not_not : (b : Bool) → not (not b) ≡ b
not_not true = refl
not_not false = refl

-- of overlapping faces it has the other order exactly where it doesn't have the one
other_order : (g : Sheet) (above set : ℕ → ℕ → Bool) → OrdersOverlaps g above → ((x y : ℕ) → above x y ≡ set x y)
    → (f h : ℕ) (o : Order) → Overlap g f h → not (has_order above f h o) ≡ has_order set h f o
other_order g above set orders same f h Above over = ap not (orders.one f h over) ∙ not_not (above h f) ∙ same h f
other_order g above set orders same f h Below over = ap not (orders.one h f (overlap_turned g f h over)) ∙ not_not (above f h) ∙ same f h

pub distances : DistancesAreSums
distances g case list wanted value parts are above orders choice is set =
    count_same (λ p. not (has_order above p.f p.g p.value)) (decides_otherwise case.pairs (value_of value parts choice)) list
    (λ i p e. other_order g above (set_of case.pairs (value_of value parts choice)) orders set p.f p.g p.value (wanted.overlap i p e))
    ∙ choice_sum case.system.vars case.system.constraints value case.pairs list parts choice
    (parts_all case.system.vars case.system.constraints value parts are)

pub best_is_choice : (cons : List Constraint) (value : ℕ → Option Order) (pairs : List (ℕ × ℕ)) (list : List Pin) (parts : List (List ℕ))
    (best : List (List Order)) → IsBestChoice cons value pairs list parts best → IsChoice cons value parts best
best_is_choice cons value pairs list [] [] is = tt
best_is_choice cons value pairs list [] (s ∷ best) is = is
best_is_choice cons value pairs list (part ∷ parts) [] is = is
best_is_choice cons value pairs list (part ∷ parts) (s ∷ best) is = (is.0.is, best_is_choice cons value pairs list parts best is.1)

-- one part more
one_more : (cons : List Constraint) (value : ℕ → Option Order) (pairs : List (ℕ × ℕ)) (list : List Pin) (part : List ℕ) (parts : List (List ℕ))
    (s t : List Order) (best choice : List (List Order)) → IsBest cons value pairs list part s → Contains (solutions_of cons value part) t
    → (costs pairs list parts best ≤ costs pairs list parts choice)
    × ((costs pairs list parts choice ≡ costs pairs list parts best) ↔ IsBestChoice cons value pairs list parts choice)
    → (costs pairs list (part ∷ parts) (s ∷ best) ≤ costs pairs list (part ∷ parts) (t ∷ choice))
    × ((costs pairs list (part ∷ parts) (t ∷ choice) ≡ costs pairs list (part ∷ parts) (s ∷ best)) ↔ IsBestChoice cons value pairs list (part ∷ parts) (t ∷ choice))
one_more cons value pairs list part parts s t best choice is other rest = (omega (arith, first, rest.0), (to, from)) where
  first : cost pairs list part s ≤ cost pairs list part t
  first = is.least t other

  best_too : cost pairs list part t ≡ cost pairs list part s → IsBest cons value pairs list part t
  best_too e = record {
    is = other;
    least = λ u h. let l = is.least u h in omega (arith, e, l);
  }

  to : cost pairs list part t + costs pairs list parts choice ≡ cost pairs list part s + costs pairs list parts best
      → IsBest cons value pairs list part t × IsBestChoice cons value pairs list parts choice
  to e = (best_too (omega (arith, e, first, rest.0)), rest.1.0 (omega (arith, e, first, rest.0)))

  from : IsBest cons value pairs list part t × IsBestChoice cons value pairs list parts choice
      → cost pairs list part t + costs pairs list parts choice ≡ cost pairs list part s + costs pairs list parts best
  from b = let l = b.0.least s is.is in let r = rest.1.1 b.1 in omega (arith, l, first, r)

pub least_sums : LeastSumsAreBest
least_sums cons value pairs list [] [] [] is other = (omega arith, ((λ e. tt), (λ b. refl)))
least_sums cons value pairs list [] [] (t ∷ choice) is other = absurd other
least_sums cons value pairs list [] (s ∷ best) choice is other = absurd is
least_sums cons value pairs list (part ∷ parts) [] choice is other = absurd is
least_sums cons value pairs list (part ∷ parts) (s ∷ best) [] is other = absurd other
least_sums cons value pairs list (part ∷ parts) (s ∷ best) (t ∷ choice) is other = one_more cons value pairs list part parts s t best choice is.0 other.0
    (least_sums cons value pairs list parts best choice is.1 other.1)

pub nearest : NearestAreBest
nearest g case list wanted value parts are stackings best is above kept choice chosen set =
    (omega (arith, own, least.0), (to, from), ((λ e. least.1.0 (omega (arith, e, own))), (λ b. let e = least.1.1 b in omega (arith, e, own)))) where
      sum_of : (other : ℕ → ℕ → Bool) → IsKept g [] other → (c : List (List Order)) → IsChoice case.system.constraints value parts c
          → IsSetOf case.pairs value parts c other → distance other list ≡ share case.pairs list value + costs case.pairs list parts c
      sum_of other k c i s = distances g case list wanted value parts are other k.geometric.stacking.orders c i s

      own : distance above list ≡ share case.pairs list value + costs case.pairs list parts choice
      own = sum_of above kept choice chosen set

      least : (costs case.pairs list parts best ≤ costs case.pairs list parts choice)
          × ((costs case.pairs list parts choice ≡ costs case.pairs list parts best) ↔ IsBestChoice case.system.constraints value case.pairs list parts choice)
      least = least_sums case.system.constraints value case.pairs list parts best choice is chosen

      best_chosen : IsChoice case.system.constraints value parts best
      best_chosen = best_is_choice case.system.constraints value case.pairs list parts best is

      to : IsNearest g list above → IsBestChoice case.system.constraints value case.pairs list parts choice
      to n =
          let h : HasStacking g [] case.pairs value parts best = stackings.to_stacking best best_chosen in
          let d = sum_of h.above h.kept best best_chosen h.set in
          let l = n.least h.above h.kept in
          least.1.0 (omega (arith, own, d, l, least.0))

      from : IsBestChoice case.system.constraints value case.pairs list parts choice → IsNearest g list above
      from b = record {
        kept = kept;
        least = λ other k.
            let h : HasChoice case value parts other = stackings.to_choice other k in
            let d = sum_of other k h.choice h.is_choice h.set in
            let l = (least_sums case.system.constraints value case.pairs list parts best h.choice is h.is_choice).0 in
            let e = least.1.1 b in omega (arith, own, d, l, e);
      }
