-- Each visit leaves fewer nodes.
use Rattle.std.proofs.Common.{◌≡◌, ℕ, zero, suc, ◌+◌, ◌-◌, ◌<◌, ◌≤◌, inl, inr, List, [], ◌∷◌, ◌++◌, length, refl, sym, ap, ◌∙◌, subst, arith, Option, Some, None}
use Rattle.std.proofs.lemmas.Bool.{cases_eq}
use Rattle.std.proofs.lemmas.List.{length-append}
use Rattle.ff_propagate.specs.Trails.{known, IsTrail, Grows}
use Rattle.ff_tables.specs.declared.terms.Constraint.{Constraint}
use Rattle.ff_solver.specs.declared.path.Path.{Path}
use Rattle.ff_solver.specs.Paths.{IsPath}
use Rattle.ff_solver.specs.Moves.{IsBranched, IsTakenUp, GoesBack}
use Rattle.ff_solver.specs.Most.{most_nodes, most_left, most_below, most_of}
use Rattle.ff_solver.proofs.Branching.{longer, middle}

some_nodes : (n : ℕ) → 0 < most_nodes n
some_nodes zero = omega arith
some_nodes (suc n) = omega arith

most_more : (a b : ℕ) → a ≤ b → most_nodes a ≤ most_nodes b
most_more a zero l = let e : zero ≡ a = omega (arith, l) in subst (λ k. most_nodes k ≤ 1) e (omega arith)
most_more a (suc b) l = elim (cases_eq a (suc b)) [
  | inl e ↦ subst (λ k. most_nodes k ≤ most_nodes (suc b)) (sym e) (omega arith)
  | inr ne ↦ (let r = most_more a b (omega (arith, l, ne)) in omega (arith, r))
]

left_append : (vars : ℕ) (marks : List ℕ) (m : ℕ) → most_left vars (marks ++ m ∷ []) ≡ most_left vars marks + most_nodes (vars - suc m)
left_append vars [] m = omega arith
left_append vars (k ∷ marks) m = let r = left_append vars marks m in omega (arith, r)

at_next : (vars steps : ℕ) (o : Option ℕ) (head : ℕ) → o ≡ Some head → most_below vars steps o ≡ most_nodes (vars - steps)
at_next vars steps o head e = ap (most_below vars steps) e

pub back_less : (vars : ℕ) (cons : List Constraint) (old new : Path) (head : ℕ) → IsPath vars cons old → old.next ≡ Some head → GoesBack vars old new
    → most_of vars new < most_of vars old
back_less vars cons old new head is next (inl (none, still, ended)) =
    let a : most_below vars (length new.trail.steps.items) new.next ≡ 0 = ap (most_below vars (length new.trail.steps.items)) ended in
    let b : most_left vars new.branches.items ≡ 0 = ap (most_left vars) still in
    let c = at_next vars (length old.trail.steps.items) old.next head next in
    let d = some_nodes (vars - length old.trail.steps.items) in
    omega (arith, a, b, c, d)
back_less vars cons old new head is next (inr (m, v, mid, up)) =
    let k = middle vars cons old m v mid new is up.back in
    let long : length new.trail.steps.items ≡ suc m = omega (arith, longer mid v _ new.trail up.set.stepped, k.long) in
    let a : most_below vars (length new.trail.steps.items) new.next ≡ most_nodes (vars - suc m) =
    at_next vars (length new.trail.steps.items) new.next m up.next ∙ ap (λ j. most_nodes (vars - j)) long in
    let b : most_left vars old.branches.items ≡ most_left vars new.branches.items + most_nodes (vars - suc m) =
    ap (most_left vars) up.back.popped ∙ left_append vars new.branches.items m in
    let c = at_next vars (length old.trail.steps.items) old.next head next in
    let d = some_nodes (vars - length old.trail.steps.items) in
    omega (arith, a, b, c, d)

pub branch_less : (vars : ℕ) (old : Path) (v : ℕ) (new : Path) (head : ℕ) → old.next ≡ Some head → IsBranched vars old v new
    → most_of vars new < most_of vars old
branch_less vars old v new head next br =
    let m = length old.trail.steps.items in
    let long : length new.trail.steps.items ≡ suc m = omega (arith, longer old.trail v _ new.trail br.set.stepped) in
    let a : most_below vars (length new.trail.steps.items) new.next ≡ most_nodes (vars - suc m) =
    at_next vars (length new.trail.steps.items) new.next m br.next ∙ ap (λ j. most_nodes (vars - j)) long in
    let b : most_left vars new.branches.items ≡ most_left vars old.branches.items + most_nodes (vars - suc m) =
    ap (most_left vars) br.branches ∙ left_append vars old.branches.items m in
    let c = at_next vars m old.next head next in
    let split : vars - m ≡ suc (vars - suc m) = omega (arith, long, br.set.within) in
    let d : most_nodes (vars - m) ≡ suc (most_nodes (vars - suc m) + most_nodes (vars - suc m)) = ap most_nodes split in
    omega (arith, a, b, c, d)

pub grown_less : (vars : ℕ) (old mid : Path) (head : ℕ) → length old.trail.steps.items ≤ length mid.trail.steps.items
    → mid.branches ≡ old.branches → mid.next ≡ old.next → old.next ≡ Some head → most_of vars mid ≤ most_of vars old
grown_less vars old mid head l same still next =
    let a = at_next vars (length old.trail.steps.items) old.next head next in
    let b = at_next vars (length mid.trail.steps.items) mid.next head (still ∙ next) in
    let c = most_more (vars - length mid.trail.steps.items) (vars - length old.trail.steps.items) (omega (arith, l)) in
    let d : most_left vars mid.branches.items ≡ most_left vars old.branches.items = ap (λ bs. most_left vars bs.items) same in
    omega (arith, a, b, c, d)
