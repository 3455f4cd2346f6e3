-- A refutation begins at the root.
use Rattle.std.proofs.Common.{◌≡◌, ℕ, ◌<◌, inl, inr, List, [], ◌++◌, length, reverse, slice_index, refl, sym, ap, ◌∙◌, subst, arith, Option, Some, None}
use Rattle.std.proofs.lemmas.Bool.{cases_lt}
use Rattle.ff_basics.proofs.Options.{some_none}
use Rattle.ff_tables.specs.declared.orders.Order.{Order}
use Rattle.ff_tables.specs.declared.terms.Constraint.{Constraint}
use Rattle.ff_tables.specs.declared.systems.System.{System}
use Rattle.ff_propagate.specs.declared.facts.Fact.{Fact}
use Rattle.ff_propagate.specs.declared.uses.Uses.{Uses}
use Rattle.ff_propagate.specs.Facts.{value_at}
use Rattle.ff_propagate.specs.Parts.{IsPart}
use Rattle.ff_propagate.specs.Solutions.{solutions_of}
use Rattle.ff_propagate.specs.Trails.{known, cut}
use Rattle.ff_propagate.specs.Trees.{visits}
use Rattle.ff_solver.specs.declared.path.Path.{Path}
use Rattle.ff_solver.specs.declared.refuting.Naming.{Naming}
use Rattle.ff_solver.specs.declared.steps.Step.{Step}
use Rattle.ff_solver.specs.Copies.{AreCopied}
use Rattle.ff_solver.specs.Paths.{AreLeft, AreWithin}
use Rattle.ff_solver.specs.Roots.{IsRoot}
use Rattle.ff_solver.specs.Steps.{knows}
use Rattle.ff_solver.specs.Refuting.{IsNaming, ArePlaces, Told, AreStacked, IsDown, IsAt, HasNoSolution}
use Rattle.ff_solver.proofs.Branching.{cut_now}
use Rattle.ff_solver.proofs.Started.{IsBegun}

pub root_unsolved : (cons : List Constraint) (fs : List (Option Fact)) (part touching names : List ℕ) (system : System) (places now : List ℕ)
    (uses : Uses) (path : Path) → (root : IsRoot cons fs part touching names system places uses path) → now ≡ places
    → IsBegun cons fs part root.own_value system places path → solutions_of cons (value_at fs) part ≡ []
    → HasNoSolution system.constraints now path
root_unsolved cons fs part touching names system places now uses path root places_are b none = record {
  own_value = root.own_value;
  nodes = visits b.tree;
  left = subst (λ ps. AreLeft system.constraints root.own_value ps path path.next (visits b.tree)) (sym places_are) b.left;
  none = b.solutions ∙ none;
}

module _ (n : Naming) (fs : List (Option Fact)) (part touching names places : List ℕ) (uses : Uses) (path : Path)
    (root : IsRoot n.case.now.system.constraints fs part touching names n.own.now places uses path)
    (names_are : n.names.now ≡ names) (numbers_are : n.numbers.now ≡ touching) (places_are : n.places.now ≡ places) where
  pub root_naming : IsNaming n
  root_naming = record {
    part = part;
    copied = subst (λ ks. AreCopied n.case.now.system.constraints ks part n.names.now n.own.now.constraints (length ks)) (sym numbers_are)
        (subst (λ ns. AreCopied n.case.now.system.constraints touching part ns n.own.now.constraints (length touching)) (sym names_are) root.copied);
    vars_are = root.vars_are ∙ ap length (sym names_are);
  }

  pub root_places : (vars : ℕ) → vars ≡ n.case.now.system.vars → IsPart vars n.case.now.system.constraints (value_at fs) part
      → AreWithin n.own.now.vars places → ArePlaces n
  root_places vars same is within = record {
    within = subst (λ ps. AreWithin n.own.now.vars ps) (sym places_are) within;
    names = λ j l.
        let m : j < length part = omega (arith, l, ap length places_are, root.places_are.0) in
        let at : slice_index n.places.now j ≡ j = ap (λ ps. slice_index ps j) places_are ∙ root.places_are.1 j m in
        let name : slice_index n.names.now (slice_index n.places.now j) ≡ slice_index part j =
        ap (slice_index n.names.now) at ∙ ap (λ ns. slice_index ns j) names_are ∙ root.own.are_names.front j m in
        let low = (is.undecided j m).variable in
        omega (arith, name, low, same);
  }

  root_told : Told n.names.now (value_at fs) [] (cut path.trail (length path.trail.steps.items))
  root_told u s e = elim (cases_lt u (length names)) [
    | inl l ↦ inl (ap (λ ns. value_at fs (slice_index ns u)) names_are ∙ sym (root.own.are_names.values u l) ∙ now)
    | inr past ↦ some_none now (root.own.are_names.beyond u past)
  ]
    where
      now : root.own_value u ≡ Some s
      now = sym (root.known_is u) ∙ sym (cut_now path.trail (length path.trail.steps.items) (omega arith) u) ∙ e

  pub root_at : (steps : List Step) → steps ≡ [] → IsAt n (value_at fs) path path.next steps
  root_at steps none = subst (λ qs. IsAt n (value_at fs) path path.next qs) (sym none)
      (subst (λ o. IsAt n (value_at fs) path o []) (sym root.next) down)
    where
      down : IsDown n (value_at fs) path []
      down = record {
        stack = [];
        noted = record { held = []; leads = λ rest runs. runs; told = root_told };
        stacked = subst (λ ms. AreStacked n.names.now (value_at fs) path.trail (reverse ms) []) (sym root.branches) tt;
      }
