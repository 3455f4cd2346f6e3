-- A refutation goes on from a node.
use Rattle.std.proofs.Common.{◌≡◌, ℕ, ◌<◌, ◌≤◌, List, ◌∷◌, ◌++◌, length, slice_index, sym, ap, ◌∙◌, subst, arith, Option, Some, None, Result, Ok, Err, IfOk}
use Rattle.ff_tables.specs.declared.memory.NoMemory.{NoMemory}
use Rattle.ff_tables.specs.declared.orders.Order.{Order}
use Rattle.ff_tables.specs.declared.orders.Order.TheVariants.{Below, Above}
use Rattle.ff_tables.specs.declared.terms.Constraint.{Constraint}
use Rattle.ff_tables.specs.Forces.{Knows}
use Rattle.ff_tables.specs.Systems.{AreFit}
use Rattle.ff_propagate.specs.declared.trail.Trail.{Trail}
use Rattle.ff_propagate.specs.Trails.{known, IsTrail, Grows, AreReady, IsDead, Ends}
use Rattle.ff_propagate.specs.Trees.{Tree, IsTreeAt, visits}
use Rattle.ff_solver.specs.declared.path.Path.{Path}
use Rattle.ff_solver.specs.declared.refuting.Naming.{Naming}
use Rattle.ff_solver.specs.declared.steps.Step.{Step}
use Rattle.ff_solver.specs.Paths.{IsPath, AreSilent, IsAtNode, ArePending, AreLeft, AreDecided, IsFirstOpen, Nodes}
use Rattle.ff_solver.specs.Refuting.{IsNoted, IsDown, HasNoSolution, ArePlaces}
use Rattle.ff_solver.proofs.Visited.{closed_path, all_silent, passed_clash, solved_full, passed_fork}
use Rattle.ff_solver.proofs.Noting.{grown_noted, grown_down}
use Rattle.ff_solver.proofs.Unsolved.{unsolved_next, still_unsolved, no_solution}

-- the node is closed
pub record IsClosedOn (vars : ℕ) (cons : List Constraint) (old mid : Path) : Type 0 where
  pub trail : IsTrail vars mid.trail
  pub grows : Grows cons old.trail mid.trail
  pub branches : mid.branches ≡ old.branches
  pub next : mid.next ≡ old.next

pub if_ok : {A B : Type 0} (r : Result (Unit {0}) NoMemory) → IfOk r (λ _. A) → (A → B) → IfOk r (λ _. B)
if_ok (Ok u) a f = f a
if_ok (Err e) a f = tt

pub dead_at : (cons : List Constraint) (n : ℕ) (t : Trail) (dead : Option ℕ) (number : ℕ) → dead ≡ Some number → Ends cons n t dead
    → IsDead cons t number
dead_at cons n t dead number e ends = subst (Ends cons n t) e ends

pub silent_at : (cons : List Constraint) (t : Trail) (dead : Option ℕ) → dead ≡ None → Ends cons (length t.steps.items) t dead
    → AreSilent cons (known t)
silent_at cons t dead e ends = all_silent cons t (subst (Ends cons (length t.steps.items) t) e ends)

module _ (vars : ℕ) (cons : List Constraint) (old mid : Path) (is : IsPath vars cons old) (closed : IsClosedOn vars cons old mid) where
  pub mid_path : IsPath vars cons mid
  mid_path = closed_path vars cons old mid is closed.trail closed.grows closed.branches

  pub mid_down : (n : Naming) (value : ℕ → Option Order) (steps more : List Step) (from : ℕ) → from ≡ length old.trail.steps.items
      → ((stack : List (List (ℕ × Order))) → IsNoted n value mid.trail stack steps from
      → IsNoted n value mid.trail stack more (length mid.trail.steps.items))
      → IsDown n value old steps → IsDown n value mid more
  mid_down n value steps more from e note down = grown_down n value vars cons old mid steps more is closed.grows closed.branches down
      (note down.stack (subst (λ k. IsNoted n value mid.trail down.stack steps k) (sym e)
      (grown_noted n value cons old.trail mid.trail closed.grows down.stack steps down.noted)))

  module _ (places : List ℕ) (head : ℕ) (next : old.next ≡ Some head) (none : HasNoSolution cons places old) where
    pub clash_goes : AreFit vars cons → (new : Path) (number : ℕ) → IsDead cons mid.trail number
        → ((value : ℕ → Option Order) (part : List ℕ) (nodes : Nodes) → ArePending cons value part mid nodes
        → AreLeft cons value part new new.next nodes)
        → HasNoSolution cons places new
    clash_goes fit new number dead left =
        let u = unsolved_next cons places old head next none in
        still_unsolved cons places old new u
        (passed_clash vars cons fit old mid new (record { path = is; grows = closed.grows; same = closed.branches }) number dead
        u.own_value places u.nodes (left u.own_value places) u.next)

    pub fork_goes : (new : Path) (v : ℕ) → AreSilent cons (known mid.trail) → IsFirstOpen places mid.trail v
        → ((value : ℕ → Option Order) (part : List ℕ) (tried : List (ℕ × Order)) (below above : Tree) (nodes : Nodes)
        → IsAtNode cons value tried (known mid.trail)
        → IsTreeAt cons (Knows value) part ((v, Below) ∷ tried) below
        → IsTreeAt cons (Knows value) part ((v, Above) ∷ tried) above
        → ArePending cons value part mid nodes
        → AreLeft cons value part new new.next (visits below ++ (visits above ++ nodes)))
        → HasNoSolution cons places new
    fork_goes new v silent first left =
        let u = unsolved_next cons places old head next none in
        still_unsolved cons places old new u
        (passed_fork vars cons old mid new (record { path = is; grows = closed.grows; same = closed.branches }) silent
        u.own_value places u.nodes v first
        (λ tried below above later. left u.own_value places tried below above later) u.next)

    pub full_never : {A : Type 0} → AreSilent cons (known mid.trail) → AreDecided places mid.trail → A
    full_never silent decided =
        let u = unsolved_next cons places old head next none in
        no_solution cons places old mid u
        (solved_full vars cons old mid (record { path = is; grows = closed.grows; same = closed.branches }) silent
        u.own_value places u.nodes decided u.next)

-- the first open variable of the part is one of the case's and one of its own system
pub place_within : (n : Naming) → ArePlaces n → (t : Trail) (v : ℕ) → IsFirstOpen n.places.now t v → v < n.own.now.vars
place_within n places t v first = subst (λ k. k < n.own.now.vars) first.is (places.within first.place first.inside)

pub place_named : (n : Naming) → ArePlaces n → (t : Trail) (v : ℕ) → IsFirstOpen n.places.now t v
    → slice_index n.names.now v < n.case.now.system.vars
place_named n places t v first = subst (λ k. slice_index n.names.now k < n.case.now.system.vars) first.is (places.names first.place first.inside)
