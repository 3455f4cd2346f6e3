-- A search that gathers the solutions of a part.
use Rattle.std.proofs.Common.{◌≡◌, ◌⊎◌, inl, inr, ℕ, suc, ◌+◌, ◌-◌, ◌*◌, ◌<◌, ◌≤◌, ◌∙◌, List, [], ◌∷◌, ◌++◌, length, take, Option, ap, sym, subst, arith}
use Rattle.std.proofs.Math.Nat.{mul-le-mul_left}
use Rattle.std.proofs.Math.ListN.{drop_of_length-le}
use Rattle.std.proofs.lemmas.List.{length-drop, append-nil, take_all}
use Rattle.ff_basics.proofs.Numbers.{at_most_or}
use Rattle.ff_tables.specs.declared.orders.Order.{Order}
use Rattle.ff_tables.specs.declared.terms.Constraint.{Constraint}
use Rattle.ff_propagate.specs.declared.facts.Fact.{Fact}
use Rattle.ff_propagate.specs.declared.parts.Part.{Part}
use Rattle.ff_propagate.specs.Facts.{value_at}
use Rattle.ff_propagate.specs.Trees.{Tree, IsTree, visits, found, turns_of}
use Rattle.ff_propagate.specs.Solutions.{solutions_of}
use Rattle.ff_solver.specs.declared.state.Search.{Search}
use Rattle.ff_solver.specs.declared.state.Advance.{Advance}
use Rattle.ff_solver.specs.declared.state.Advance.TheVariants.{Found, Finished, Spent}
use Rattle.ff_solver.specs.Searches.{StandsAt, GoesOn, AnswersIn, IsAdvance, IsSameSearch}
use Rattle.ff_solve.specs.Outcomes.{EndsWithin, GoesBeyond}

-- The search of these facts and this part has come so far within the budget, and found these solutions.
pub record HasGathered (cons : List Constraint) (facts : List (Option Fact)) (part : List ℕ)
    (budget : ℕ) (s : Search) (solutions : List (List Order)) : Type 0 where
  pub stands : StandsAt cons (value_at facts) s
  pub part_is : s.part.vars ≡ part
  pub paid : length s.part.vars * s.visited ≤ budget
  pub gathered : (tree : Tree) → IsTree cons (value_at facts) part tree → found (take s.visited (visits tree)) ≡ solutions

-- a tree of the part, by what the search says that its part is
ours : (cons : List Constraint) (facts : List (Option Fact)) (part : List ℕ) (s : Search) → s.part.vars ≡ part → (tree : Tree)
    → IsTree cons (value_at facts) part tree → IsTree cons (value_at facts) s.part.vars tree
ours cons facts part s f tree is = subst (λ (p : List ℕ). IsTree cons (value_at facts) p tree) (sym f) is

theirs : (cons : List Constraint) (facts : List (Option Fact)) (part : List ℕ) (s : Search) → s.part.vars ≡ part → (tree : Tree)
    → IsTree cons (value_at facts) s.part.vars tree → IsTree cons (value_at facts) part tree
theirs cons facts part s f tree is = subst (λ (p : List ℕ). IsTree cons (value_at facts) p tree) f is

-- what a call with the turns that are left pays
paid_more : (cost before steps budget : ℕ) → cost * before ≤ budget → cost * steps ≤ budget - cost * before → cost * (before + steps) ≤ budget
paid_more cost before steps budget l m = let e : cost * (before + steps) ≡ cost * before + cost * steps = omega arith in omega (arith, l, m, e)

paid_less : (cost before steps budget : ℕ) → cost * before ≤ budget → budget - cost * before < cost * (steps + 1) → budget < cost * (before + steps + 1)
paid_less cost before steps budget l m = let e : cost * (before + steps + 1) ≡ cost * before + cost * (steps + 1) = omega arith in omega (arith, l, m, e)

module _ (cons : List Constraint) (facts : List (Option Fact)) (part : List ℕ) (budget : ℕ) (s t : Search) (solutions : List (List Order))
    (turns : ℕ) (answer : Advance) (h : HasGathered cons facts part budget s solutions) (goes_on : GoesOn cons s t) (kept : IsSameSearch s t)
    (left : turns ≡ budget - length s.part.vars * s.visited) (a : AnswersIn cons s turns t answer) where
  abbrev stands : StandsAt cons (value_at facts) t
  stands = goes_on (value_at facts) h.stands

  part_now : t.part.vars ≡ part
  part_now = ap (λ (p : Part). p.vars) kept.part ∙ h.part_is

  same_part : t.part.vars ≡ s.part.vars
  same_part = ap (λ (p : Part). p.vars) kept.part

  -- of whichever tree is the part's
  called : (r : Advance) → answer ≡ r → (tree : Tree) → IsTree cons (value_at facts) part tree → IsAdvance tree (length s.part.vars) turns s.visited t.visited r
  called r e tree is = subst (λ (x : Advance). IsAdvance tree (length s.part.vars) turns s.visited t.visited x) e (a (value_at facts) h.stands tree (ours cons facts part s h.part_is tree is))

  is_ours : IsTree cons (value_at facts) part stands.tree
  is_ours = theirs cons facts part t part_now stands.tree stands.is_in.is_tree

  paid_now : (steps : ℕ) → t.visited ≡ s.visited + steps → length s.part.vars * steps ≤ turns → length t.part.vars * t.visited ≤ budget
  paid_now steps e l = subst (λ (n : ℕ). n * t.visited ≤ budget) (sym (ap length same_part)) (subst (λ (n : ℕ). length s.part.vars * n ≤ budget) (sym e) (paid_more (length s.part.vars) s.visited steps budget h.paid (omega (arith, l, left))))

  pub gone_on : (values : List Order) → answer ≡ Found values → (list : List (List Order)) → list ≡ solutions ++ values ∷ [] → HasGathered cons facts part budget t list
  gone_on values r list e = let b = called (Found values) r stands.tree is_ours in record {
    stands = stands;
    part_is = part_now;
    paid = paid_now b.steps b.counted b.advances.covered;
    gathered = λ tree is. (called (Found values) r tree is).solutions ∙ ap (λ (l : List (List Order)). l ++ values ∷ []) (h.gathered tree is) ∙ sym e;
  }

  pub smaller : (values : List Order) → answer ≡ Found values → budget - length t.part.vars * t.visited < budget - length s.part.vars * s.visited
  smaller values r =
      let b = called (Found values) r stands.tree is_ours in
      let some : 0 < length s.part.vars = h.stands.search.some in
      let one : length s.part.vars * 1 ≤ length s.part.vars * b.steps = mul-le-mul_left (length s.part.vars) (omega (arith, b.advances.counted)) in
      let e : length s.part.vars * (s.visited + b.steps) ≡ length s.part.vars * s.visited + length s.part.vars * b.steps = omega arith in
      let f : length t.part.vars * t.visited ≡ length s.part.vars * (s.visited + b.steps) = ap (λ (n : ℕ). length t.part.vars * n) b.counted ∙ ap (λ (n : ℕ). n * (s.visited + b.steps)) (ap length same_part) in
      omega (arith, some, one, e, f, b.advances.covered, left, h.paid)

  within : (n : ℕ) → n ≡ length (visits stands.tree) → length part * n ≤ budget → turns_of part stands.tree ≤ budget
  within n e l = subst (λ (m : ℕ). length part * m ≤ budget) e l

  -- the tree has ended
  b_ended : answer ≡ Finished → IsAdvance stands.tree (length s.part.vars) turns s.visited t.visited Finished
  b_ended r = called Finished r stands.tree is_ours

  all_seen : answer ≡ Finished → t.visited ≡ length (visits stands.tree)
  all_seen r =
      let nothing : length (visits stands.tree) - t.visited ≡ 0 = sym (length-drop t.visited (visits stands.tree)) ∙ ap length (b_ended r).advances.ended in
      let l : t.visited ≤ length (visits stands.tree) = stands.is_in.within in
      omega (arith, nothing, l)

  -- with all solutions
  pub ended_whole : answer ≡ Finished → solutions ≡ solutions_of cons (value_at facts) part
  ended_whole r =
      let before : found (take s.visited (visits stands.tree)) ≡ solutions = h.gathered stands.tree is_ours in
      let now : found (take t.visited (visits stands.tree)) ≡ solutions ++ [] = (b_ended r).solutions ∙ ap (λ (l : List (List Order)). l ++ []) before in
      let all : found (take t.visited (visits stands.tree)) ≡ found (visits stands.tree) = ap found (take_all t.visited (visits stands.tree) (omega (arith, all_seen r))) in
      let those : found (visits stands.tree) ≡ solutions_of cons (value_at facts) part = subst (λ (p : List ℕ). found (visits stands.tree) ≡ solutions_of cons (value_at facts) p) part_now stands.is_in.solutions in
      sym (append-nil solutions) ∙ sym now ∙ all ∙ those

  -- and within the budget
  pub ended_within : answer ≡ Finished → EndsWithin cons (value_at facts) budget part
  ended_within r =
      let paid : length part * t.visited ≤ budget = subst (λ (p : List ℕ). length p * t.visited ≤ budget) part_now (paid_now (b_ended r).steps (b_ended r).counted (b_ended r).advances.covered) in
      (stands.tree, is_ours, within t.visited (all_seen r) paid)

  -- the turns don't cover the next node
  pub spent : answer ≡ Spent → GoesBeyond cons (value_at facts) budget part
  spent r = (stands.tree, is_ours, beyond) where
    b : IsAdvance stands.tree (length s.part.vars) turns s.visited t.visited Spent
    b = called Spent r stands.tree is_ours

    more : t.visited < length (visits stands.tree)
    more = elim (at_most_or (length (visits stands.tree)) t.visited) [
      | inl l ↦ absurd (b.advances.goes_on (drop_of_length-le (visits stands.tree) l))
      | inr l ↦ l
    ]

    beyond : budget < turns_of part stands.tree
    beyond =
        let first : budget < length s.part.vars * (s.visited + b.steps + 1) = paid_less (length s.part.vars) s.visited b.steps budget h.paid (subst (λ (n : ℕ). n < length s.part.vars * (b.steps + 1)) left b.advances.not_covered) in
        let next : length part * (t.visited + 1) ≤ length part * length (visits stands.tree) = mul-le-mul_left (length part) (omega (arith, more)) in
        let e : length s.part.vars * (s.visited + b.steps + 1) ≡ length part * (t.visited + 1) = ap (λ (n : ℕ). length s.part.vars * (n + 1)) (sym b.counted) ∙ ap (λ (n : ℕ). n * (t.visited + 1)) (ap length h.part_is) in
        omega (arith, first, next, e)
