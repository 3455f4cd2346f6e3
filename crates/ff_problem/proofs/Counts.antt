-- A case with few pairs and constraints shows that there are no more.
use Rattle.std.proofs.Common.{◌≡◌, ◌≢◌, ◌↔◌, ℕ, ◌<◌, ◌≤◌, ◌∙◌, List, length, map, slice_get, Some, IsTrue, ap, sym, arith}
use Rattle.std.proofs.lemmas.List.{length-map}
use Rattle.ff_types.specs.declared.cases.Case.{Case}
use Rattle.ff_types.specs.Pairs.{is_before, AreSorted}
use Rattle.ff_types.specs.Sheets.{Sheet}
use Rattle.ff_types.specs.Inside.{Overlap}
use Rattle.ff_types.specs.Cases.{key, IsCaseOf}
use Rattle.ff_crossings.proofs.SortedLists.{InOrder, Stands, Apart, no_longer, no_more}
use Rattle.ff_crossings.proofs.Alike.{pairs_apart, mapped, unmapped}
use Rattle.ff_types.specs.declared.limits.TheConstants.{MOST_PAIRS}
use Rattle.ff_types.specs.declared.limits.TheConstants.{MOST_CONSTRAINTS}
use Rattle.ff_problem.specs.Limits.{HasManyPairs, HasManyConstraints}

-- a list of all overlapping pairs that is short
pub no_more_pairs : (g : Sheet) (pairs : List (ℕ × ℕ)) → AreSorted pairs → ((f h : ℕ) → f < h → Overlap g f h ↔ ((n : ℕ) × (slice_get pairs n ≡ Some (f, h)))) → length pairs ≤ MOST_PAIRS → HasManyPairs g → ⊥
unfolding InOrder
no_more_pairs g pairs sorted are few (list, order, many) =
    let l = no_longer (λ p q. IsTrue (is_before p q)) pairs_apart list pairs order.sorted.sorted sorted.sorted
    (λ p (n, e). (are p.0 p.1 (order.sorted.rising n p e)).0 (order.each n p e)) in
    omega (arith, l, few, many)

module _ (g : Sheet) (case : Case) (is : IsCaseOf g case) where
  pub no_more_constraints : length case.system.constraints ≤ MOST_CONSTRAINTS → HasManyConstraints g → ⊥
  unfolding Apart
  no_more_constraints few (list, order, many) =
      let l = no_more (map key list) (map key case.cites) apart member in
      omega (arith, l, few, many, length-map list key, length-map case.cites key, case.valid.cited) where
        apart : (m n : ℕ) (x y : List ℕ) → m < n → slice_get (map key list) m ≡ Some x → slice_get (map key list) n ≡ Some y → x ≢ y
        apart m n x y k a b e =
            let c = unmapped key list m x a in
            let d = unmapped key list n y b in
            order.apart m n c.0 d.0 k c.1 d.1 (c.2 ∙ e ∙ sym d.2)

        member : (p : List ℕ) → Stands (map key list) p → Stands (map key case.cites) p
        member p (n, e) =
            let c = unmapped key list n p e in
            let d = is.complete c.0 (order.each n c.0 c.1) in
            (d.0, mapped key case.cites d.0 d.1 d.2 ∙ ap Some (d.3 ∙ c.2))
