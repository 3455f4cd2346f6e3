-- A node is closed, and what its tree then is.
use Rattle.std.proofs.Common.{◌≡◌, ℕ, ◌≤◌, inl, inr, List, ◌∷◌, ◌++◌, length, reverse, sym, ap, ◌∙◌, subst, arith, Option, None}
use Rattle.std.specs.Vec.{vec_capacity}
use Rattle.std.proofs.lemmas.List.{append_assoc}
use Rattle.ff_tables.specs.declared.orders.Order.{Order}
use Rattle.ff_tables.specs.declared.orders.Order.TheVariants.{Below, Above}
use Rattle.ff_tables.specs.declared.terms.Constraint.{Constraint}
use Rattle.ff_tables.specs.Systems.{AreFit}
use Rattle.ff_tables.specs.Forces.{Knows}
use Rattle.ff_propagate.specs.declared.trail.Step.{Step}
use Rattle.ff_propagate.specs.declared.trail.Trail.{Trail}
use Rattle.ff_propagate.specs.Trails.{known, IsTrail, Grows, IsSilent, Rests, AreReady, IsDead}
use Rattle.ff_propagate.specs.Trees.{Tree, IsTreeAt, visits}
use Rattle.ff_solver.specs.declared.path.Path.{Path}
use Rattle.ff_solver.specs.Paths.{AreSilent, IsAtNode, AreMarks, IsPath, AreBranches, ArePending, AreNext, AreLeft, IsPassed, IsSolved, AreDecided, IsFirstOpen, Nodes}
use Rattle.ff_solver.proofs.Branching.{AreAlike, marks_alike, branches_alike, marks_up}
use Rattle.ff_solver.proofs.Inverting.{dead_clash, clash_tree, full_tree, fork_tree}

pub grows_alike : (cons : List Constraint) (old new : Trail) → Grows cons old new
    → AreAlike old new (length old.steps.items)
grows_alike cons old new x = record { cuts = λ m l. x.same m (omega (arith, l)); vars = λ m l. ap (λ (z : Step). z.var) (x.front m l) }

pub closed_path : (vars : ℕ) (cons : List Constraint) (old new : Path) → IsPath vars cons old
    → IsTrail vars new.trail → Grows cons old.trail new.trail → new.branches ≡ old.branches
    → IsPath vars cons new
closed_path vars cons old new is trail x same = record {
  trail = trail;
  marks = subst (λ b. AreMarks cons new.trail (length new.trail.steps.items) (reverse b.items)) (sym same)
      (marks_up cons new.trail (length old.trail.steps.items) (length new.trail.steps.items)
      (reverse old.branches.items) x.count
      (marks_alike cons old.trail new.trail (length old.trail.steps.items) (reverse old.branches.items)
      (grows_alike cons old.trail new.trail x) is.marks));
  room = subst (λ b. vars ≤ vec_capacity b) (sym same) is.room;
}

pub all_silent : (cons : List Constraint) (t : Trail) → AreReady cons t (length t.steps.items)
    → AreSilent cons (known t)
all_silent cons t ready c con is = pick (ready c con is)
  where
    pick : Rests t (length t.steps.items) con → IsSilent (known t) con
    pick (inl (i, j, a, b, l, e)) = absurd (omega (arith, a, b))
    pick (inr quiet) = quiet

-- what the closure of the node is added keeps the node
closed_node : (cons : List Constraint) (value : ℕ → Option Order) (tried : List (ℕ × Order)) (old new : Trail)
    → Grows cons old new → IsAtNode cons value tried (known old) → IsAtNode cons value tried (known new)
closed_node cons value tried old new x node = record {
  inside = λ v s e set closed. x.derived set (λ c con is u t force. closed.forced_held c con u t is force)
      (λ u t q. node.inside u t q set closed) v s e;
  holds = λ v s with_it. x.kept v s (node.holds v s with_it);
}

closed_pending : (vars : ℕ) (cons : List Constraint) (value : ℕ → Option Order) (part : List ℕ)
    (old new : Path) (nodes : Nodes) → IsPath vars cons old → Grows cons old.trail new.trail
    → new.branches ≡ old.branches
    → ArePending cons value part old nodes → ArePending cons value part new nodes
closed_pending vars cons value part old new nodes is x same pending = record {
  trees = pending.trees;
  branches = subst (λ b. AreBranches cons value part new.trail (reverse b.items) pending.trees) (sym same)
      (branches_alike cons value part old.trail new.trail (length old.trail.steps.items)
      (reverse old.branches.items) pending.trees (grows_alike cons old.trail new.trail x) is.marks
      pending.branches);
  are = pending.are;
}

pub record IsClosing (vars : ℕ) (cons : List Constraint) (old new : Path) : Type 0 where
  pub path : IsPath vars cons old
  pub grows : Grows cons old.trail new.trail
  pub same : new.branches ≡ old.branches

-- a constraint is dead
pub passed_clash : (vars : ℕ) (cons : List Constraint) → AreFit vars cons → (old mid new : Path)
    → IsClosing vars cons old mid → (number : ℕ) → IsDead cons mid.trail number
    → (value : ℕ → Option Order) (part : List ℕ) (nodes : Nodes)
    → ((later : Nodes) → ArePending cons value part mid later → AreLeft cons value part new new.next
    later)
    → AreNext cons value part old nodes → IsPassed cons value part new nodes
passed_clash vars cons fit old mid new c number dead value part nodes back next =
    let node = closed_node cons value next.tried old.trail mid.trail c.grows next.node in
    let e = clash_tree cons value part next.tried (known mid.trail) node next.tree next.below
    (dead_clash cons value part next.tried (known mid.trail) node vars fit number dead.constraint dead.there dead.none) in
    record {
      later = next.later;
      left = back next.later
          (closed_pending vars cons value part old mid next.later c.path c.grows c.same next.pending);
      are = next.are ∙ ap (λ (t : Tree). visits t ++ next.later) e;
    }

-- all variables of the part have values
pub solved_full : (vars : ℕ) (cons : List Constraint) (old mid : Path) → IsClosing vars cons old mid
    → AreSilent cons (known mid.trail) → (value : ℕ → Option Order) (part : List ℕ) (nodes : Nodes)
    → AreDecided part mid.trail
    → AreNext cons value part old nodes → IsSolved cons value part mid nodes
solved_full vars cons old mid c silent value part nodes decided next =
    let node = closed_node cons value next.tried old.trail mid.trail c.grows next.node in
    let leaf = full_tree cons value part next.tried (known mid.trail) node silent next.tree next.below decided
    in
    record {
      values = leaf.values;
      later = next.later;
      are_values = record { as_many = leaf.as_many; each = leaf.each };
      pending = closed_pending vars cons value part old mid next.later c.path c.grows c.same next.pending;
      are = next.are ∙ ap (λ (t : Tree). visits t ++ next.later) leaf.is;
    }

-- a variable of the part is open
pub passed_fork : (vars : ℕ) (cons : List Constraint) (old mid new : Path) → IsClosing vars cons old mid
    → AreSilent cons (known mid.trail) → (value : ℕ → Option Order) (part : List ℕ) (nodes : Nodes) (v : ℕ)
    → IsFirstOpen part mid.trail v
    → ((tried : List (ℕ × Order)) (below above : Tree) (later : Nodes) → IsAtNode cons value tried
    (known mid.trail)
    → IsTreeAt cons (Knows value) part ((v, Below) ∷ tried) below
    → IsTreeAt cons (Knows value) part ((v, Above) ∷ tried) above
    → ArePending cons value part mid later
    → AreLeft cons value part new new.next (visits below ++ (visits above ++ later)))
    → AreNext cons value part old nodes → IsPassed cons value part new nodes
passed_fork vars cons old mid new c silent value part nodes v first branch next =
    let node = closed_node cons value next.tried old.trail mid.trail c.grows next.node in
    let fork = fork_tree cons value part next.tried (known mid.trail) node silent next.tree next.below
    first.place first.inside (ap (known mid.trail) first.is ∙ first.open_yet) first.earlier in
    record {
      later = visits fork.below ++ (visits fork.above ++ next.later);
      left = branch next.tried fork.below fork.above next.later node
          (subst (λ u. IsTreeAt cons (Knows value) part ((u, Below) ∷ next.tried) fork.below) first.is
          fork.tree_below)
          (subst (λ u. IsTreeAt cons (Knows value) part ((u, Above) ∷ next.tried) fork.above) first.is
          fork.tree_above)
          (closed_pending vars cons value part old mid next.later c.path c.grows c.same next.pending);
      are = next.are ∙ ap (λ (t : Tree). visits t ++ next.later) fork.is
          ∙ ap (λ ns. None ∷ ns) (append_assoc (visits fork.below) (visits fork.above) next.later);
    }
