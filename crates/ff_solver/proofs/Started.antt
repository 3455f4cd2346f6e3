-- A search at the root of its tree.
use Rattle.std.proofs.Common.{◌≡◌, ℕ, ◌<◌, ◌≤◌, ◌^◌, inl, inr, List, [], length, reverse, drop, slice_index, refl, sym, ap, ◌∙◌, subst, arith, Option, Some, None}
use Rattle.std.specs.Vec.{vec_capacity}
use Rattle.std.proofs.lemmas.List.{append-nil, get_or_past}
use Rattle.ff_tables.specs.declared.orders.Order.{Order}
use Rattle.ff_tables.specs.declared.terms.Constraint.{Constraint}
use Rattle.ff_tables.specs.declared.givens.Given.{Given}
use Rattle.ff_tables.specs.Systems.{AreFit}
use Rattle.ff_propagate.specs.declared.facts.Fact.{Fact}
use Rattle.ff_propagate.specs.declared.facts.Closed.TheVariants.{Board}
use Rattle.ff_propagate.specs.Facts.{value_at}
use Rattle.ff_propagate.specs.Closure.{Gives}
use Rattle.ff_propagate.specs.Closing.{ClosesTo}
use Rattle.ff_propagate.specs.Parts.{IsPart, AreTouching}
use Rattle.ff_propagate.specs.Solutions.{solutions_of}
use Rattle.ff_propagate.specs.Uses.{AreUses}
use Rattle.ff_propagate.specs.Trails.{known, value_in, IsTrail, AreReady}
use Rattle.ff_propagate.specs.Trees.{Tree, IsTree, visits, found}
use Rattle.ff_propagate.proofs.Quiet.{IsQuiet, closure_quiet}
use Rattle.ff_propagate.specs.declared.uses.Uses.{Uses}
use Rattle.ff_tables.specs.declared.systems.System.{System}
use Rattle.ff_solver.specs.declared.copying.Names.{Names}
use Rattle.ff_solver.specs.declared.path.Path.{Path}
use Rattle.ff_solver.specs.declared.state.Search.{Search}
use Rattle.ff_solver.specs.Paths.{IsAtNode, AreMarks, IsPath, AreBranches, AreNext, AreLeft, AreWithin, IsReady}
use Rattle.ff_solver.specs.Copies.{AreNamed, AreCopied, AreOwn, AreOwnNumbers}
use Rattle.ff_solver.specs.Roots.{IsRoot}
use Rattle.ff_solver.specs.Searches.{AreLeftIn, StandsAt}
use Rattle.ff_solver.proofs.Copies.{copy_there}
use Rattle.ff_solver.proofs.Copied.{own_quiet}
use Rattle.ff_solver.proofs.OwnTrees.{own_tree}
use Rattle.ff_solver.proofs.Existing.{tree_of}
use Rattle.ff_solver.proofs.Listing.{solutions_found}

-- what the root is made of
pub record IsMade (cons : List Constraint) (fs : List (Option Fact)) (part touching : List ℕ) (names : Names) (system : System)
    (places : List ℕ) (uses : Uses) (path : Path) : Type 0 where
  pub few : length system.constraints < 2 ^ 32
  pub vars_are : system.vars ≡ length names.list.items
  pub named : AreNamed fs part names
  pub copied : AreCopied cons touching part names.list.items system.constraints (length touching)
  pub touching_are : AreTouching cons part touching
  pub places_are : AreOwnNumbers places (length part)
  pub uses_are : AreUses system.vars system.constraints uses
  pub next : path.next ≡ Some 0
  pub branches : path.branches.items ≡ []
  pub branches_room : system.vars ≤ vec_capacity path.branches
  pub trail : IsTrail system.vars path.trail
  pub none : path.trail.steps.items ≡ []
  pub values : path.trail.values.list.items ≡ names.values.items

pub made_root : (cons : List Constraint) (fs : List (Option Fact)) (part touching : List ℕ) (names : Names) (system : System)
    (places : List ℕ) (uses : Uses) (path : Path) → IsMade cons fs part touching names system places uses path
    → IsRoot cons fs part touching names.list.items system places uses path
made_root cons fs part touching names system places uses path m = record {
  few = m.few;
  vars_are = m.vars_are;
  own_value = value_in names.values.items;
  own = record {
    are_names = record {
      long = m.named.longer.long;
      front = m.named.longer.front;
      values = m.named.values;
      beyond = λ u past. get_or_past names.values.items u None (omega (arith, m.named.as_many, past));
    };
    each = λ c con at. (slice_index touching c, m.copied.each c con at);
    all = λ c from at i l among. copy_there cons system.constraints part touching names.list.items m.touching_are m.copied c from at i l among;
  };
  known_is = λ v. ap (λ vs. value_in vs v) m.values;
  copied = m.copied;
  places_are = m.places_are;
  uses_are = m.uses_are;
  is_path = record {
    trail = m.trail;
    marks = subst (λ ms. AreMarks system.constraints path.trail (length path.trail.steps.items) (reverse ms)) (sym m.branches) tt;
    room = m.branches_room;
  };
  next = m.next;
  branches = m.branches;
  none = m.none;
}

-- the tree below the root
pub record IsBegun (cons : List Constraint) (fs : List (Option Fact)) (part : List ℕ) (own_value : ℕ → Option Order) (system : System)
    (places : List ℕ) (path : Path) : Type 0 where
  pub tree : Tree
  pub is_tree : IsTree cons (value_at fs) part tree
  pub left : AreLeft system.constraints own_value places path path.next (visits tree)
  pub ready : IsReady system.constraints path.trail path.next
  pub within : AreWithin system.vars places
  pub solutions : found (visits tree) ≡ solutions_of cons (value_at fs) part

pub begun : (vars : ℕ) (cons : List Constraint) (gs : List Given) (fs : List (Option Fact)) (part touching names : List ℕ) (system : System)
    (places : List ℕ) (uses : Uses) (path : Path) → AreFit vars cons → ClosesTo vars cons gs (Board fs) → IsPart vars cons (value_at fs) part
    → (root : IsRoot cons fs part touching names system places uses path) → IsBegun cons fs part root.own_value system places path
begun vars cons gs fs part touching names system places uses path fit board is root =
    let quiet : IsQuiet cons (value_at fs) = closure_quiet cons (Gives gs) (value_at fs) board.1 in
    let value = root.own_value in
    let within : (j : ℕ) → j < length part → slice_index part j < vars = λ j l. (is.undecided j l).variable in
    let tree = tree_of vars cons (value_at fs) fit part within in
    let node : IsAtNode system.constraints value [] (known path.trail) = record {
      inside = λ v t e set closed. closed.base_held v t (inl (sym (root.known_is v) ∙ e));
      holds = λ v t with_it. elim with_it
          [ inl e ↦ root.known_is v ∙ e | inr among ↦ absurd (omega (arith, among.1)) ];
    } in
    let next : AreNext system.constraints value places path (visits tree.0) = record {
      tried = [];
      tree = tree.0;
      later = [];
      node = node;
      below = own_tree vars system.vars cons system.constraints fit system.fit (value_at fs) value part names places quiet is root.own root.places_are tree.0 tree.1;
      pending = record { trees = []; branches = subst (λ ms. AreBranches system.constraints value places path.trail (reverse ms) []) (sym root.branches) tt; are = refl };
      are = sym (append-nil (visits tree.0));
    } in
    let ready : AreReady system.constraints path.trail 0 = λ c con at. inr (λ v t f.
    own_quiet vars cons system.constraints fit (value_at fs) value part names quiet is root.own (known path.trail) root.known_is c con at v t f) in
    record {
      tree = tree.0;
      is_tree = tree.1;
      left = subst (λ o. AreLeft system.constraints value places path o (visits tree.0)) (sym root.next) next;
      ready = subst (λ o. IsReady system.constraints path.trail o) (sym root.next) (omega arith, ready);
      within = λ j l.
          let m : j < length part = omega (arith, l, root.places_are.0) in
          omega (arith, root.places_are.1 j m, m, root.own.are_names.long, root.vars_are);
      solutions = solutions_found vars cons (value_at fs) part fit quiet is tree.0 tree.1;
    }

pub started : (vars : ℕ) (cons : List Constraint) (gs : List Given) (fs : List (Option Fact)) (part touching names : List ℕ) (s : Search)
    → AreFit vars cons → ClosesTo vars cons gs (Board fs) → IsPart vars cons (value_at fs) part
    → IsRoot cons fs part touching names s.system s.places s.uses s.path → s.part.vars ≡ part → s.visited ≡ 0
    → StandsAt cons (value_at fs) s
started vars cons gs fs part touching names s fit board is root part_is unvisited =
    let b = begun vars cons gs fs part touching names s.system s.places s.uses s.path fit board is root in
    record {
      search = record {
        few = root.few;
        path = root.is_path;
        ready = b.ready;
        uses = root.uses_are;
        part = b.within;
        as_many = root.places_are.0 ∙ ap length (sym part_is);
        some = subst (λ vs. 0 < length vs) (sym part_is) is.some;
      };
      tree = b.tree;
      is_in = record {
        is_tree = subst (λ vs. IsTree cons (value_at fs) vs b.tree) (sym part_is) b.is_tree;
        within = subst (λ n. n ≤ length (visits b.tree)) (sym unvisited) (omega arith);
        own_value = root.own_value;
        left = subst (λ n. AreLeftIn root.own_value s (drop n (visits b.tree))) (sym unvisited) b.left;
        solutions = b.solutions ∙ ap (solutions_of cons (value_at fs)) (sym part_is);
      };
    }
