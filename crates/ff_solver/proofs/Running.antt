-- A call visits nodes one after the other.
use Rattle.std.proofs.Common.{◌≡◌, ℕ, ◌+◌, ◌*◌, ◌-◌, ◌^◌, ◌<◌, List, [], ◌∷◌, ◌++◌, length, refl, sym, ap, ◌∙◌, subst, arith, add-one, Option, Some, None}
use Rattle.std.proofs.Math.Nat.{mul-suc, mul-add}
use Rattle.std.proofs.lemmas.List.{append_assoc, replicate_more, ext_get_or}
use Rattle.ff_basics.proofs.Options.{some_same}
use Rattle.ff_tables.specs.declared.orders.Order.{Order}
use Rattle.ff_tables.specs.declared.orders.Order.TheVariants.{Below}
use Rattle.ff_tables.specs.declared.terms.Constraint.{Constraint}
use Rattle.ff_tables.specs.declared.systems.System.{System}
use Rattle.ff_propagate.specs.declared.parts.Part.{Part}
use Rattle.ff_propagate.specs.Trees.{Tree, Clash, Full, Fork, visits}
use Rattle.ff_propagate.specs.declared.trail.Trail.{Trail}
use Rattle.ff_solver.specs.declared.path.Path.{Path}
use Rattle.ff_solver.specs.declared.state.Search.{Search}
use Rattle.ff_solver.specs.declared.state.Advance.TheVariants.{Found, Spent}
use Rattle.ff_solver.specs.Paths.{AreLeft, AreNext, ArePending, AreValues, IsPassed, IsSolved, Nodes}
use Rattle.ff_solver.specs.Searches.{IsSearch, IsSameSearch, IsRunning, IsRun, AreLeftIn, idle}

pub visits_some : (tree : Tree) (later : Nodes) → visits tree ++ later ≡ [] → ⊥
visits_some Clash later e = cc
visits_some (Full values) later e = cc
visits_some (Fork below above) later e = cc

pub times_more : (cost steps : ℕ) → cost * (steps + 1) ≡ cost * steps + cost
times_more cost steps = ap (λ n. cost * n) (add-one steps) ∙ mul-suc cost steps

-- what is said of one search's own system is so of the other's
pub carried : (old new : Search) → IsSameSearch old new → (P : List Constraint → List ℕ → Type 0)
    → P old.system.constraints old.places → P new.system.constraints new.places
carried old new same P x = subst (λ cons. P cons new.places) (ap (λ (y : System). y.constraints) (sym same.system))
    (subst (λ places. P old.system.constraints places) (sym same.places) x)

pub carried_back : (old new : Search) → IsSameSearch old new → (P : List Constraint → List ℕ → Type 0)
    → P new.system.constraints new.places → P old.system.constraints old.places
carried_back old new same P x = subst (λ cons. P cons old.places) (ap (λ (y : System). y.constraints) same.system)
    (subst (λ places. P new.system.constraints places) same.places x)

next_of : (cons : List Constraint) (value : ℕ → Option Order) (part : List ℕ) (p : Path) (o : Option ℕ)
    (head : ℕ) (nodes : Nodes) → o ≡ Some head → AreLeft cons value part p o nodes
    → AreNext cons value part p nodes
next_of cons value part p o head nodes e left = subst (λ x. AreLeft cons value part p x nodes) e left

pub run_spent : (turns : ℕ) (old now : Search) (left head : ℕ)
    → IsRunning turns old now left → now.path.next ≡ Some head → left < length old.part.vars
    → (value : ℕ → Option Order) (nodes : Nodes) → AreLeftIn value old nodes
    → IsRun value turns old now nodes Spent
run_spent turns old now left head r at short value nodes are =
    let g = r.gone value nodes are in
    let next = next_of old.system.constraints value old.places now.path now.path.next head g.later at g.left in
    record {
      steps = r.steps;
      later = g.later;
      counted = r.counted;
      left = g.left;
      advances = record {
        nodes = g.are;
        goes_on = λ e. visits_some next.tree next.later (sym next.are ∙ e);
        covered = omega (arith, r.paid);
        not_covered = omega (arith, r.paid, short, times_more (length old.part.vars) r.steps);
      };
    }

same_values : (part : List ℕ) (t : Trail) (a b : List Order) → AreValues part t a → AreValues part t b → a ≡ b
same_values part t a b x y = ext_get_or Below a b (x.as_many ∙ sym y.as_many)
    (λ i l. let m : i < length part = omega (arith, l, x.as_many) in some_same
    (sym (x.each i m) ∙ y.each i m))

pub run_found : (turns : ℕ) (old now mid new : Search) (left head : ℕ)
    (result : List Order) → IsRunning turns old now left → now.path.next ≡ Some head
    → (left < length old.part.vars → ⊥) → mid.visited ≡ now.visited + 1 → new.visited ≡ mid.visited
    → IsSameSearch now mid
    → ((value : ℕ → Option Order) (nodes : Nodes) → AreNext now.system.constraints value now.places now.path nodes
    → IsSolved now.system.constraints value now.places mid.path nodes)
    → AreValues mid.places mid.path.trail result
    → ((value : ℕ → Option Order) (part : List ℕ) (nodes : Nodes) → ArePending mid.system.constraints value part mid.path nodes
    → AreLeft mid.system.constraints value part new.path new.path.next nodes)
    → (value : ℕ → Option Order) (nodes : Nodes) → AreLeftIn value old nodes
    → IsRun value turns old new nodes (Found result)
run_found turns old now mid new left head result r at enough stepped still same solved values back value nodes are =
    let g = r.gone value nodes are in
    let next = next_of old.system.constraints value old.places now.path now.path.next head g.later at g.left in
    let s = carried_back old now r.same
    (λ cons part. AreNext cons value part now.path g.later → IsSolved cons value part mid.path g.later)
    (solved value g.later) next in
    let here : AreValues old.places mid.path.trail result = carried_back old now r.same
    (λ cons part. AreValues part mid.path.trail result)
    (carried_back now mid same (λ cons part. AreValues part mid.path.trail result) values) in
    let left_now : AreLeft old.system.constraints value old.places new.path new.path.next s.later = carried_back old now r.same
    (λ cons part. ArePending cons value part mid.path s.later → AreLeft cons value part new.path new.path.next s.later)
    (carried_back now mid same
    (λ cons part. ArePending cons value part mid.path s.later → AreLeft cons value part new.path new.path.next s.later)
    (back value mid.places s.later)) s.pending in
    let e : s.values ≡ result = same_values old.places mid.path.trail s.values result s.are_values here in
    record {
      steps = r.steps + 1;
      later = s.later;
      counted = omega (arith, still, stepped, r.counted);
      left = left_now;
      advances = record {
        earlier = r.steps;
        counted = refl;
        nodes = g.are ∙ ap (λ ns. idle r.steps ++ ns) (s.are ∙ ap (λ vs. Some vs ∷ s.later) e);
        covered = omega (arith, r.paid, enough, times_more (length old.part.vars) r.steps);
      };
    }

pub run_on : (turns : ℕ) (old now mid : Search) (left head : ℕ)
    → IsRunning turns old now left → now.path.next ≡ Some head → (left < length old.part.vars → ⊥)
    → IsSearch mid → IsSameSearch now mid → mid.visited ≡ now.visited + 1
    → ((value : ℕ → Option Order) (nodes : Nodes) → AreNext now.system.constraints value now.places now.path nodes
    → IsPassed now.system.constraints value now.places mid.path nodes)
    → IsRunning turns old mid (left - length old.part.vars)
run_on turns old now mid left head r at enough search same stepped passed = record {
  search = search;
  same = record {
    system = same.system ∙ r.same.system;
    places = same.places ∙ r.same.places;
    part = same.part ∙ r.same.part;
  };
  steps = r.steps + 1;
  counted = omega (arith, stepped, r.counted);
  paid = omega (arith, r.paid, enough, times_more (length old.part.vars) r.steps);
  gone = λ value nodes are.
      let g = r.gone value nodes are in
      let next = next_of old.system.constraints value old.places now.path now.path.next head g.later at g.left in
      let s = carried_back old now r.same
      (λ cons part. AreNext cons value part now.path g.later → IsPassed cons value part mid.path g.later)
      (passed value g.later) next in
      record {
        later = s.later;
        left = s.left;
        are = g.are ∙ ap (λ ns. idle r.steps ++ ns) s.are
            ∙ sym (append_assoc (idle r.steps) (None ∷ []) s.later)
            ∙ ap (λ ns. ns ++ s.later) (replicate_more r.steps None);
      };
}

-- the turns of one node more
pub run_room : (turns : ℕ) (old now : Search) (left : ℕ)
    → IsRunning turns old now left → (left < length old.part.vars → ⊥)
    → length old.part.vars * old.visited + turns < 2 ^ 64
    → length now.part.vars * (now.visited + 1) < 2 ^ 64
run_room turns old now left r enough few =
    let cost = length old.part.vars in
    let here : length now.part.vars ≡ cost = ap (λ (p : Part). length p.vars) r.same.part in
    let one : cost * (now.visited + 1) ≡ cost * now.visited + cost = times_more cost now.visited in
    let all : cost * now.visited ≡ cost * old.visited + cost * r.steps = ap (λ n. cost * n) r.counted
    ∙ mul-add cost old.visited r.steps in
    subst (λ c. c * (now.visited + 1) < 2 ^ 64) (sym here) (omega (arith, one, all, r.paid, enough, few))
