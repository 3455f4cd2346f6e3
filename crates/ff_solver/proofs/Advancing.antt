-- A call, in the tree.
use Rattle.std.proofs.Common.{true≢false, not, ◌≡◌, ℕ, zero, suc, ◌+◌, ◌<◌, ◌≤◌, Bool, true, false, List, [], ◌∷◌, ◌++◌, length, drop, take, refl, sym, ap, ◌∙◌, subst, arith, Option, Some, None}
use Rattle.std.specs.Option.{is_some}
use Rattle.std.proofs.Math.Nat.{mul-zero}
use Rattle.std.proofs.lemmas.List.{append_assoc, append-nil, length-append, length-replicate, drop_at, take_at, drop-drop, length-take-le, take-append-drop}
use Rattle.std.proofs.lemmas.List.Elements.{filter_map-append}
use Rattle.ff_tables.specs.declared.orders.Order.{Order}
use Rattle.ff_tables.specs.declared.terms.Constraint.{Constraint}
use Rattle.ff_propagate.specs.declared.parts.Part.{Part}
use Rattle.ff_propagate.specs.Solutions.{solutions_of}
use Rattle.ff_propagate.specs.Trees.{Tree, IsTree, visits, found, same}
use Rattle.ff_solver.specs.declared.state.Search.{Search}
use Rattle.ff_solver.specs.declared.state.Advance.{Advance}
use Rattle.ff_solver.specs.declared.state.Advance.TheVariants.{Found, Finished, Spent}
use Rattle.ff_solver.specs.Paths.{AreLeft, AreNext, Nodes}
use Rattle.ff_solver.specs.Searches.{IsSearch, IsSameSearch, AreLeftIn, IsRun, Advances, IsIn, StandsAt, IsAdvance, GoesOn, AnswersIn, TellsFinished, idle, solution_in}
use Rattle.ff_solver.proofs.Running.{carried, visits_some, times_more}
use Rattle.ff_solver.proofs.Unique.{same_tree}

-- the nodes that a call visits
record IsFront (before after : Nodes) (steps : ℕ) (answer : Advance) : Type 0 where
  front : Nodes
  long : length front ≡ steps
  are : before ≡ front ++ after
  solutions : found front ≡ solution_in answer

found_idle : (n : ℕ) → found (idle n) ≡ []
found_idle zero = refl
found_idle (suc n) = found_idle n

front_of : (cost turns : ℕ) (before after : Nodes) (steps : ℕ) (answer : Advance)
    → Advances cost turns before after steps answer → IsFront before after steps answer
front_of cost turns before after steps (Found values) a = record {
  front = idle a.earlier ++ Some values ∷ [];
  long = length-append (idle a.earlier) (Some values ∷ []) ∙ ap (λ n. n + 1) (length-replicate a.earlier None)
      ∙ sym a.counted;
  are = a.nodes ∙ sym (append_assoc (idle a.earlier) (Some values ∷ []) after);
  solutions = filter_map-append same (idle a.earlier) (Some values ∷ [])
      ∙ ap (λ ls. ls ++ values ∷ []) (found_idle a.earlier);
}
front_of cost turns before after steps Finished a = record {
  front = idle steps;
  long = length-replicate steps None;
  are = a.nodes ∙ sym (append-nil (idle steps)) ∙ ap (λ ns. idle steps ++ ns) (sym a.ended);
  solutions = found_idle steps;
}
front_of cost turns before after steps Spent a = record {
  front = idle steps;
  long = length-replicate steps None;
  are = a.nodes;
  solutions = found_idle steps;
}

-- what a call does in the tree
pub record IsDone (cons : List Constraint) (value : ℕ → Option Order) (old new : Search) (turns : ℕ) (tree : Tree)
    (answer : Advance) : Type 0 where
  pub is_in : IsIn cons value new tree
  pub advance : IsAdvance tree (length old.part.vars) turns old.visited new.visited answer

pub done_in : (cons : List Constraint) (value : ℕ → Option Order) (turns : ℕ) (old new : Search) (tree : Tree) (answer : Advance)
    → (is : IsIn cons value old tree) → IsSameSearch old new
    → IsRun is.own_value turns old new (drop old.visited (visits tree)) answer
    → IsDone cons value old new turns tree answer
done_in cons value turns old new tree answer is same_search run =
    let f = front_of (length old.part.vars) turns (drop old.visited (visits tree)) run.later run.steps answer
    run.advances in
    let vis = visits tree in
    let rest : run.later ≡ drop new.visited vis =
    sym (ap (λ n. drop n vis) run.counted ∙ sym (drop-drop run.steps old.visited vis) ∙ ap (drop run.steps)
    f.are ∙ drop_at f.front run.later run.steps f.long) in
    let whole : vis ≡ (take old.visited vis ++ f.front) ++ run.later =
    sym (take-append-drop old.visited vis) ∙ ap (λ ns. take old.visited vis ++ ns) f.are
    ∙ sym (append_assoc (take old.visited vis) f.front run.later) in
    let long : length (take old.visited vis ++ f.front) ≡ new.visited =
    length-append (take old.visited vis) f.front
    ∙ ap (λ n. n + length f.front) (length-take-le old.visited vis is.within)
    ∙ ap (λ n. old.visited + n) f.long ∙ sym run.counted in
    let part : new.part.vars ≡ old.part.vars = ap (λ (p : Part). p.vars) same_search.part in
    record {
      is_in = record {
        is_tree = subst (λ vs. IsTree cons value vs tree) (sym part) is.is_tree;
        within = subst (λ n. n ≤ length vis) long
            (omega (arith, ap length whole, length-append (take old.visited vis ++ f.front) run.later));
        own_value = is.own_value;
        left = subst (λ ns. AreLeftIn is.own_value new ns) rest
            (carried old new same_search
            (λ own places. AreLeft own is.own_value places new.path new.path.next run.later) run.left);
        solutions = is.solutions ∙ ap (solutions_of cons value) (sym part);
      };
      advance = record {
        steps = run.steps;
        counted = run.counted;
        advances = subst (λ ns. Advances (length old.part.vars) turns (drop old.visited vis) ns run.steps answer) rest run.advances;
        solutions = ap found
            (ap (take new.visited) whole ∙ take_at (take old.visited vis ++ f.front) run.later new.visited
            long)
            ∙ filter_map-append same (take old.visited vis) f.front
            ∙ ap (λ ls. found (take old.visited vis) ++ ls) f.solutions;
      };
    }

pub advanced : (cons : List Constraint) (turns : ℕ) (old new : Search) (answer : Advance)
    → IsSearch new → IsSameSearch old new
    → ((value : ℕ → Option Order) (nodes : Nodes) → AreLeftIn value old nodes → IsRun value turns old new nodes answer)
    → GoesOn cons old new × AnswersIn cons old turns new answer
advanced cons turns old new answer search same_search run = (
  λ value at. record { search = search; tree = at.tree; is_in = (done value at).is_in },
  λ value at tree is. subst (λ t. IsAdvance t (length old.part.vars) turns old.visited new.visited answer)
      (same_tree cons (λ v s. value v ≡ Some s) old.part.vars [] at.tree tree
      at.is_in.is_tree is) (done value at).advance,
)
  where
    done : (value : ℕ → Option Order) → (at : StandsAt cons value old) → IsDone cons value old new turns at.tree answer
    done value at = done_in cons value turns old new at.tree answer at.is_in same_search
        (run at.is_in.own_value (drop old.visited (visits at.tree)) at.is_in.left)

pub itself : (s : Search) → IsSameSearch s s
itself s = record { system = refl; places = refl; part = refl }

-- a search whose tree has ended
pub stays_finished : (cons : List Constraint) (turns : ℕ) (s : Search) → IsSearch s
    → s.path.next ≡ None → AnswersIn cons s turns s Finished
stays_finished cons turns s search
    ended = (advanced cons turns s s Finished search (itself s) (λ value nodes left. record {
      steps = 0;
      later = nodes;
      counted = omega arith;
      left = left;
      advances = record { nodes = none value nodes left; ended = none value nodes left; covered = subst (λ n. n ≤ turns) (sym (mul-zero (length s.part.vars))) (omega arith) };
    })).1
  where
    none : (value : ℕ → Option Order) (nodes : Nodes) → AreLeftIn value s nodes → nodes ≡ []
    none value nodes left = subst (λ o. AreLeft s.system.constraints value s.places s.path o nodes) ended left

some_next : (o : Option ℕ) → (o ≡ None → ⊥) → (head : ℕ) × (o ≡ Some head)
some_next None some = absurd (some refl)
some_next (Some head) some = (head, refl)

-- a search whose tree goes on, with turns that don't cover a node
pub stays_spent : (cons : List Constraint) (turns : ℕ) (s : Search) → IsSearch s
    → (s.path.next ≡ None → ⊥) → turns < length s.part.vars → AnswersIn cons s turns s Spent
stays_spent cons turns s search goes_on
    short = (advanced cons turns s s Spent search (itself s) (λ value nodes left. record {
      steps = 0;
      later = nodes;
      counted = omega arith;
      left = left;
      advances = record {
        nodes = refl;
        goes_on = λ e. let next = next value nodes left in visits_some next.tree next.later (sym next.are ∙ e);
        covered = subst (λ n. n ≤ turns) (sym (mul-zero (length s.part.vars))) (omega arith);
        not_covered = omega (arith, short, times_more (length s.part.vars) 0, mul-zero (length s.part.vars));
      };
    })).1
  where
    next : (value : ℕ → Option Order) (nodes : Nodes) → AreLeftIn value s nodes
        → AreNext s.system.constraints value s.places s.path nodes
    next value nodes left = subst (λ o. AreLeft s.system.constraints value s.places s.path o nodes)
        (some_next s.path.next goes_on).1 left

pub no_next : (o : Option ℕ) → is_some o ≡ false → o ≡ None
no_next None e = refl
no_next (Some head) e = cc

pub has_next : (o : Option ℕ) → is_some o ≡ true → o ≡ None → ⊥
has_next None e n = cc
has_next (Some head) e n = cc

-- whether a search has a next node is whether nodes are left
pub tells_finished : (s : Search) (finished : Bool) → (finished ≡ true → s.path.next ≡ None) × (finished ≡ false → s.path.next ≡ None → ⊥)
    → TellsFinished s finished
tells_finished s finished tells cons value at tree is = (
  λ e. subst (λ t. drop s.visited (visits t) ≡ []) same
      (subst (λ o. AreLeft s.system.constraints at.is_in.own_value s.places s.path o (drop s.visited (visits at.tree))) (tells.0 e) at.is_in.left),
  λ ended. by finished refl ended,
)
  where
    same : at.tree ≡ tree
    same = same_tree cons (λ v x. value v ≡ Some x) s.part.vars [] at.tree tree at.is_in.is_tree is

    by : (b : Bool) → finished ≡ b → drop s.visited (visits tree) ≡ [] → finished ≡ true
    by true e ended = e
    by false e ended =
        let head = some_next s.path.next (tells.1 e) in
        let next : AreNext s.system.constraints at.is_in.own_value s.places s.path (drop s.visited (visits at.tree)) =
        subst (λ o. AreLeft s.system.constraints at.is_in.own_value s.places s.path o (drop s.visited (visits at.tree))) head.1 at.is_in.left in
        absurd (visits_some next.tree next.later (sym next.are ∙ subst (λ t. drop s.visited (visits t) ≡ []) (sym same) ended))

pub none_is : (o : Option ℕ) (b : Bool) → is_some o ≡ not b → (b ≡ true → o ≡ None) × (b ≡ false → o ≡ None → ⊥)
none_is None b e = (λ t. refl, λ f n. true≢false (sym (e ∙ ap not f)))
none_is (Some head) b e = (λ t. absurd (true≢false (e ∙ ap not t)), λ f n. cc)
