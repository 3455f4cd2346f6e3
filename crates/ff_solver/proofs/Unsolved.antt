-- A tree without solutions is gone through.
use Rattle.std.proofs.Common.{◌≡◌, ℕ, List, [], ◌∷◌, sym, ap, ◌∙◌, subst, Option, Some, None}
use Rattle.ff_tables.specs.declared.orders.Order.{Order}
use Rattle.ff_tables.specs.declared.terms.Constraint.{Constraint}
use Rattle.ff_propagate.specs.Trees.{found}
use Rattle.ff_solver.specs.declared.path.Path.{Path}
use Rattle.ff_solver.specs.Paths.{AreLeft, AreNext, IsPassed, IsSolved, Nodes}
use Rattle.ff_solver.specs.Refuting.{HasNoSolution}

-- what is below the next node
pub record IsUnsolved (own : List Constraint) (places : List ℕ) (p : Path) : Type 0 where
  pub own_value : ℕ → Option Order
  pub nodes : Nodes
  pub next : AreNext own own_value places p nodes
  pub none : found nodes ≡ []

pub unsolved_next : (own : List Constraint) (places : List ℕ) (p : Path) (head : ℕ) → p.next ≡ Some head → HasNoSolution own places p
    → IsUnsolved own places p
unsolved_next own places p head next h = record {
  own_value = h.own_value;
  nodes = h.nodes;
  next = subst (λ o. AreLeft own h.own_value places p o h.nodes) next h.left;
  none = h.none;
}

pub still_unsolved : (own : List Constraint) (places : List ℕ) (old new : Path) (u : IsUnsolved own places old)
    → IsPassed own u.own_value places new u.nodes → HasNoSolution own places new
still_unsolved own places old new u passed = record {
  own_value = u.own_value;
  nodes = passed.later;
  left = passed.left;
  none = sym (ap found passed.are) ∙ u.none;
}

pub no_solution : {A : Type 0} (own : List Constraint) (places : List ℕ) (old new : Path) (u : IsUnsolved own places old)
    → IsSolved own u.own_value places new u.nodes → A
no_solution own places old new u solved =
    let e : solved.values ∷ found solved.later ≡ [] = sym (ap found solved.are) ∙ u.none in cc
