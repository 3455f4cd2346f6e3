-- A search that keeps the best solutions that it finds.
use Rattle.std.proofs.Common.{◌≡◌, ℕ, zero, suc, ◌*◌, ◌<◌, ◌≤◌, ◌∙◌, refl, sym, ap, subst, arith, List, [], ◌∷◌, ◌++◌, length, take, drop, Option, Some, None, Contains}
use Rattle.std.proofs.Math.Nat.{mul-le-mul_right}
use Rattle.std.proofs.lemmas.List.{take-append-drop}
use Rattle.std.proofs.lemmas.List.Elements.{filter_map-append, Contains-append_left, Contains-append_right}
use Rattle.ff_tables.specs.declared.orders.Order.{Order}
use Rattle.ff_tables.specs.declared.terms.Constraint.{Constraint}
use Rattle.ff_propagate.specs.declared.facts.Fact.{Fact}
use Rattle.ff_propagate.specs.Facts.{value_at}
use Rattle.ff_propagate.specs.Trees.{IsTree, visits, found, same}
use Rattle.ff_propagate.specs.Solutions.{solutions_of}
use Rattle.ff_parts.proofs.Factoring.{solution_is}
use Rattle.ff_solver.specs.declared.state.Search.{Search}
use Rattle.ff_solve.proofs.Searching.{HasGathered}

abbrev Nodes : Type 0
Nodes = List (Option (List Order))

found_split : (n : ℕ) (ns : Nodes) → found ns ≡ found (take n ns) ++ found (drop n ns)
found_split n ns = ap found (sym (take-append-drop n ns)) ∙ filter_map-append same (take n ns) (drop n ns)

found_few : (n : ℕ) (ns : Nodes) → length (found (take n ns)) ≤ n
found_few zero ns = omega arith
found_few (suc n) [] = omega arith
found_few (suc n) (None ∷ ns) = let r = found_few n ns in omega (arith, r)
found_few (suc n) (Some v ∷ ns) = let r = found_few n ns in omega (arith, r)

module _ (cons : List Constraint) (facts : List (Option Fact)) (part : List ℕ) (budget : ℕ) (s : Search) (solutions : List (List Order))
    (h : HasGathered cons facts part budget s solutions) where
  is_ours : IsTree cons (value_at facts) part h.stands.tree
  is_ours = subst (λ (p : List ℕ). IsTree cons (value_at facts) p h.stands.tree) h.part_is h.stands.is_in.is_tree

  -- what was found is a solution
  pub found_is : (values : List Order) (before : List (List Order)) → solutions ≡ before ++ values ∷ [] → Contains (solutions_of cons (value_at facts) part) values
  found_is values before e = subst (λ (l : List (List Order)). Contains l values) those
      (Contains-append_left (found (take s.visited (visits h.stands.tree))) (found (drop s.visited (visits h.stands.tree))) values
      (subst (λ (l : List (List Order)). Contains l values) (sym (h.gathered h.stands.tree is_ours ∙ e)) (Contains-append_right before (values ∷ []) values (0, omega arith, refl))))
    where
      those : found (take s.visited (visits h.stands.tree)) ++ found (drop s.visited (visits h.stands.tree)) ≡ solutions_of cons (value_at facts) part
      those = sym (found_split s.visited (visits h.stands.tree)) ∙ subst (λ (p : List ℕ). found (visits h.stands.tree) ≡ solutions_of cons (value_at facts) p) h.part_is h.stands.is_in.solutions

  pub found_long : (values : List Order) (before : List (List Order)) → solutions ≡ before ++ values ∷ [] → length values ≡ length part
  found_long values before e = (solution_is cons (value_at facts) part values (found_is values before e)).long

  -- no more than the budget
  pub found_within : length solutions ≤ budget
  found_within =
      let few : length solutions ≤ s.visited = subst (λ (l : List (List Order)). length l ≤ s.visited) (h.gathered h.stands.tree is_ours) (found_few s.visited (visits h.stands.tree)) in
      let some : 0 < length s.part.vars = h.stands.search.some in
      let paid : 1 * s.visited ≤ length s.part.vars * s.visited = mul-le-mul_right s.visited (omega (arith, some)) in
      let all = h.paid in
      omega (arith, few, paid, all)
