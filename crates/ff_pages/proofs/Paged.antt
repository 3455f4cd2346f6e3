-- Pages go on with their search.
use Rattle.std.proofs.Common.{◌≡◌, ℕ, zero, suc, ◌+◌, ◌*◌, ◌≤◌, true, List, [], ◌++◌, length, take, refl, sym, ap, ◌∙◌, subst, arith, Option, Some, None, Result, Ok, Err, OnErr, IfOk}
use Rattle.std.specs.Option.{is_some}
use Rattle.ff_tables.specs.declared.orders.Order.{Order}
use Rattle.ff_tables.specs.declared.memory.NoMemory.{NoMemory}
use Rattle.ff_tables.specs.declared.terms.Constraint.{Constraint}
use Rattle.ff_tables.specs.Systems.{AreFit}
use Rattle.ff_propagate.specs.declared.parts.Part.{Part}
use Rattle.ff_propagate.specs.Boards.{IsBoardOf}
use Rattle.ff_propagate.specs.Closure.{Gives}
use Rattle.ff_propagate.specs.Facts.{value_at}
use Rattle.ff_propagate.specs.Parts.{IsPart, AreTouching}
use Rattle.ff_propagate.specs.Solutions.{solutions_of}
use Rattle.ff_propagate.specs.Trees.{IsTree, visits, found}
use Rattle.ff_propagate.proofs.Quiet.{closure_quiet}
use Rattle.ff_solver.specs.declared.state.Search.{Search}
use Rattle.ff_solver.specs.declared.state.Advance.{Advance}
use Rattle.ff_solver.specs.declared.state.Advance.TheVariants as advance
use Rattle.ff_solver.specs.Searches.{IsSearch, IsSameSearch, AnswersIn, IsAdvance, Advances, solution_in}
use Rattle.ff_solver.specs.Searches.{GoesOn as SearchGoesOn}
use Rattle.ff_solver.proofs.Existing.{tree_of}
use Rattle.ff_solver.proofs.Listing.{solutions_found}
use Rattle.ff_solver.proofs.Unique.{same_tree}
use Rattle.ff_solver.proofs.Running.{times_more}
use Rattle.ff_pages.specs.declared.pages.Pages.{Pages}
use Rattle.ff_pages.specs.declared.pages.Gone.{Gone}
use Rattle.ff_pages.specs.Paging.{visited_by, visited_of, IsSearchIn, MaySearch, StandsIn, HasGone, GoesOn, IsBegun}

some_or : {A : Type 0} (o : Option A) → is_some o ≡ true → (x : A) × (o ≡ Some x)
some_or None e = cc
some_or (Some x) e = (x, refl)

pub is_begun : (p : Pages) → is_some p.search ≡ true → IsBegun p
is_begun p e = some_or p.search e

pub times : (a b c : ℕ) → a * (b + c) ≡ a * b + a * c
times a b zero = ap (λ n. a * n) (plain b) ∙ sum (a * b) (a * 0) (none a)
  where
    plain : (n : ℕ) → n + 0 ≡ n
    plain n = omega arith

    none : (n : ℕ) → n * 0 ≡ 0
    none n = omega arith

    sum : (m n : ℕ) → n ≡ 0 → m ≡ m + n
    sum m n e = omega (arith, e)
times a b (suc c) = ap (λ n. a * n) (next b c) ∙ times_more a (b + c) ∙ ap (λ n. n + a) (times a b c) ∙ turned (a * b) (a * c) a
    ∙ ap (λ n. a * b + n) (sym (times_more a c)) ∙ ap (λ n. a * b + a * n) (last c)
  where
    next : (m n : ℕ) → m + suc n ≡ (m + n) + 1
    next m n = omega arith

    turned : (m n k : ℕ) → (m + n) + k ≡ m + (n + k)
    turned m n k = omega arith

    last : (n : ℕ) → n + 1 ≡ suc n
    last n = omega arith

pub new_stands : (p : Pages) → p.search ≡ None → p.found.items ≡ [] → p.budget ≤ 1000000000
    → (vars : ℕ) (cons : List Constraint) → AreFit vars cons → IsBoardOf vars cons p.facts.value
    → IsPart vars cons (value_at p.facts.value) p.part.vars → AreTouching cons p.part.vars p.part.touching → StandsIn vars cons p
new_stands p none empty few vars cons fit board part touching =
    let tree = tree_of vars cons (value_at p.facts.value) fit p.part.vars (λ j l. (part.undecided j l).variable) in
    let quiet = closure_quiet cons (Gives board.0) (value_at p.facts.value) board.1.1 in
    let zero_is : visited_of p ≡ 0 = ap visited_by none in
    record {
      board = board;
      part = part;
      touching = touching;
      few = few;
      tree = tree.0;
      is_in = record {
        is_tree = tree.1;
        solutions = solutions_found vars cons (value_at p.facts.value) p.part.vars fit quiet part tree.0 tree.1;
        search = subst (λ o. MaySearch cons p.part.vars tree.0 o) (sym none) tt;
        within = subst (λ n. n ≤ length (visits tree.0)) (sym zero_is) (omega arith);
        found_are = empty ∙ ap (λ n. found (take n (visits tree.0))) (sym zero_is);
        paid = subst (λ n. length p.part.vars * n ≤ p.budget) (sym zero_is) (none_paid (length p.part.vars) p.budget);
      };
    }
  where
    none_paid : (a b : ℕ) → a * 0 ≤ b
    none_paid a b = omega arith

covered : (cost turns : ℕ) (before after : List (Option (List Order))) (steps : ℕ) (a : Advance) → Advances cost turns before after steps a → cost * steps ≤ turns
covered cost turns before after steps (advance.Found values) x = x.covered
covered cost turns before after steps advance.Finished x = x.covered
covered cost turns before after steps advance.Spent x = x.covered

within_bound : (a b c d e : ℕ) → a ≡ b + c → c ≤ d → b + d ≤ e → a ≤ e
within_bound a b c d e p q r = omega (arith, p, q, r)

-- what was said of the search's facts and part, of the pages'
module _ (vars : ℕ) (cons : List Constraint) (p : Pages) (at : StandsIn vars cons p) (s : Search) (is : p.search ≡ Some s) where
  search_in : IsSearchIn cons p.part.vars at.tree s
  search_in = subst (λ o. MaySearch cons p.part.vars at.tree o) is at.is_in.search

  visited_is : visited_of p ≡ s.visited
  visited_is = ap visited_by is

  -- what an advance of the search is in the pages' tree
  pub advance_in : (new : Search) (turns : ℕ) (a : Advance) → AnswersIn cons s turns new a
      → IsAdvance at.tree (length p.part.vars) turns (visited_of p) new.visited a
  advance_in new turns a ad =
      let i = search_in in
      subst (λ n. IsAdvance at.tree (length p.part.vars) turns n new.visited a) (sym visited_is)
      (subst (λ vs. IsAdvance at.tree (length vs) turns s.visited new.visited a) i.part_is
      (ad i.value i.stands at.tree (subst (λ vs. IsTree cons i.value vs at.tree) (sym i.part_is) i.is_tree)))

  pub new_in : (new : Search) → SearchGoesOn cons s new → IsSameSearch s new → IsSearchIn cons p.part.vars at.tree new
  new_in new goes same = record {
    value = search_in.value;
    stands = goes search_in.value search_in.stands;
    part_is = ap (λ (q : Part). q.vars) same.part ∙ search_in.part_is;
    is_tree = search_in.is_tree;
  }

  -- a search that is there is one
  pub is_search : IsSearch s
  is_search = search_in.stands.search

  -- a search has visited no more nodes than there are
  pub visited_within : (new : Search) → IsSearchIn cons p.part.vars at.tree new → new.visited ≤ length (visits at.tree)
  visited_within new i =
      let tree_is : i.stands.tree ≡ at.tree = same_tree cons (λ v x. i.value v ≡ Some x) p.part.vars [] i.stands.tree at.tree
      (subst (λ vs. IsTree cons i.value vs i.stands.tree) i.part_is i.stands.is_in.is_tree) i.is_tree in
      subst (λ x. new.visited ≤ length (visits x)) tree_is i.stands.is_in.within

  -- the pages after the search has gone on
  pub gone_stands : (q : Pages) (new : Search) (turns : ℕ) (g : Gone) → length p.part.vars * visited_of p + turns ≤ p.budget
      → SearchGoesOn cons s new → IsSameSearch s new → HasGone cons s p.found.items turns new q.found.items g
      → q.search ≡ Some new → q.facts ≡ p.facts → q.part ≡ p.part → q.budget ≡ p.budget → StandsIn vars cons q
  gone_stands q new turns g room stands same gone here facts part budget =
      let ad = advance_in new turns gone.0 gone.1 in
      let value = ap (λ f. f.value) facts in
      let vs : q.part.vars ≡ p.part.vars = ap (λ (x : Part). x.vars) part in
      record {
        board = subst (IsBoardOf vars cons) (sym value) at.board;
        part = subst (λ f. IsPart vars cons (value_at f) q.part.vars) (sym value) (subst (IsPart vars cons (value_at p.facts.value)) (sym vs) at.part);
        touching = subst (λ (x : Part). AreTouching cons x.vars x.touching) (sym part) at.touching;
        few = subst (λ n. n ≤ 1000000000) (sym budget) at.few;
        tree = at.tree;
        is_in = record {
          is_tree = subst (λ f. IsTree cons (value_at f) q.part.vars at.tree) (sym value) (subst (λ xs. IsTree cons (value_at p.facts.value) xs at.tree) (sym vs) at.is_in.is_tree);
          solutions = at.is_in.solutions ∙ ap (λ f. solutions_of cons (value_at f) p.part.vars) (sym value)
              ∙ ap (solutions_of cons (value_at q.facts.value)) (sym vs);
          search = subst (λ xs. MaySearch cons xs at.tree q.search) (sym vs)
              (subst (λ o. MaySearch cons p.part.vars at.tree o) (sym here) (new_in new stands same));
          within = subst (λ n. n ≤ length (visits at.tree)) (sym (ap visited_by here)) (visited_within new (new_in new stands same));
          found_are = gone.2 ∙ ap (λ xs. xs ++ solution_in gone.0) at.is_in.found_are ∙ sym ad.solutions
              ∙ ap (λ n. found (take n (visits at.tree))) (sym (ap visited_by here));
          paid = subst (λ n. length q.part.vars * n ≤ q.budget) (sym (ap visited_by here))
              (subst (λ xs. length xs * new.visited ≤ q.budget) (sym vs) (subst (λ n. length p.part.vars * new.visited ≤ n) (sym budget)
              (within_bound (length p.part.vars * new.visited) (length p.part.vars * visited_of p) (length p.part.vars * ad.steps) turns p.budget
              (ap (λ n. length p.part.vars * n) ad.counted ∙ times (length p.part.vars) (visited_of p) ad.steps)
              (covered (length p.part.vars) turns _ _ ad.steps gone.0 ad.advances) room)));
        };
      }

  -- after want of memory
  pub kept_stands : (q : Pages) (new : Search) → new ≡ s → q.found.items ≡ p.found.items
      → q.search ≡ Some new → q.facts ≡ p.facts → q.part ≡ p.part → q.budget ≡ p.budget → StandsIn vars cons q
  kept_stands q new same found_same here facts part budget =
      let value = ap (λ f. f.value) facts in
      let vs : q.part.vars ≡ p.part.vars = ap (λ (x : Part). x.vars) part in
      let o : q.search ≡ p.search = here ∙ ap (λ x. Some x) same ∙ sym is in
      record {
        board = subst (IsBoardOf vars cons) (sym value) at.board;
        part = subst (λ f. IsPart vars cons (value_at f) q.part.vars) (sym value) (subst (IsPart vars cons (value_at p.facts.value)) (sym vs) at.part);
        touching = subst (λ (x : Part). AreTouching cons x.vars x.touching) (sym part) at.touching;
        few = subst (λ n. n ≤ 1000000000) (sym budget) at.few;
        tree = at.tree;
        is_in = record {
          is_tree = subst (λ f. IsTree cons (value_at f) q.part.vars at.tree) (sym value) (subst (λ xs. IsTree cons (value_at p.facts.value) xs at.tree) (sym vs) at.is_in.is_tree);
          solutions = at.is_in.solutions ∙ ap (λ f. solutions_of cons (value_at f) p.part.vars) (sym value)
              ∙ ap (solutions_of cons (value_at q.facts.value)) (sym vs);
          search = subst (λ xs. MaySearch cons xs at.tree q.search) (sym vs)
              (subst (λ x. MaySearch cons p.part.vars at.tree x) (sym o) at.is_in.search);
          within = subst (λ x. visited_by x ≤ length (visits at.tree)) (sym o) at.is_in.within;
          found_are = found_same ∙ at.is_in.found_are ∙ ap (λ x. found (take (visited_by x) (visits at.tree))) (sym o);
          paid = subst (λ x. length q.part.vars * visited_by x ≤ q.budget) (sym o)
              (subst (λ xs. length xs * visited_of p ≤ q.budget) (sym vs) (subst (λ n. length p.part.vars * visited_of p ≤ n) (sym budget) at.is_in.paid));
        };
      }

  pub either_stands : (q : Pages) (new : Search) (turns : ℕ) (r : Result Gone NoMemory) → length p.part.vars * visited_of p + turns ≤ p.budget
      → SearchGoesOn cons s new → IsSameSearch s new → IfOk r (λ g. HasGone cons s p.found.items turns new q.found.items g)
      → OnErr r (new ≡ s) → OnErr r (q.found.items ≡ p.found.items)
      → q.search ≡ Some new → q.facts ≡ p.facts → q.part ≡ p.part → q.budget ≡ p.budget → StandsIn vars cons q
  either_stands q new turns (Ok g) room stands same ok err err2 = gone_stands q new turns g room stands same ok
  either_stands q new turns (Err e) room stands same ok err err2 = kept_stands q new err err2

  pub goes_on : (new : Search) (turns : ℕ) (more : List (List Order)) (g : Gone) → HasGone cons s p.found.items turns new more g
      → GoesOn cons p.facts.value p.part.vars turns (visited_of p) new.visited g
  goes_on new turns more g gone tree is_tree =
      let e : at.tree ≡ tree = same_tree cons (λ v x. value_at p.facts.value v ≡ Some x) p.part.vars [] at.tree tree at.is_in.is_tree is_tree in
      (gone.0, subst (λ t. IsAdvance t (length p.part.vars) turns (visited_of p) new.visited gone.0) e (advance_in new turns gone.0 gone.1), gone.3)

  pub goes_on_ok : (new : Search) (turns : ℕ) (more : List (List Order)) (r : Result Gone NoMemory)
      → IfOk r (λ g. HasGone cons s p.found.items turns new more g)
      → IfOk r (λ g. GoesOn cons p.facts.value p.part.vars turns (visited_of p) new.visited g)
  goes_on_ok new turns more (Ok g) ok = goes_on new turns more g ok
  goes_on_ok new turns more (Err e) ok = tt

pub room_same : (p q : Pages) (turns : ℕ) → q.part ≡ p.part → visited_of q ≡ visited_of p → q.budget ≡ p.budget
    → length p.part.vars * visited_of p + turns ≤ p.budget → length q.part.vars * visited_of q + turns ≤ q.budget
room_same p q turns part visited budget room =
    subst (λ n. length q.part.vars * visited_of q + turns ≤ n) (sym budget)
    (subst (λ n. length q.part.vars * n + turns ≤ p.budget) (sym visited)
    (subst (λ (x : Part). length x.vars * visited_of p + turns ≤ p.budget) (sym part) room))

pub goes_same : (cons : List Constraint) (p q : Pages) (turns after : ℕ) (r : Result Gone NoMemory) → q.facts ≡ p.facts → q.part ≡ p.part → visited_of q ≡ visited_of p
    → IfOk r (λ g. GoesOn cons q.facts.value q.part.vars turns (visited_of q) after g)
    → IfOk r (λ g. GoesOn cons p.facts.value p.part.vars turns (visited_of p) after g)
goes_same cons p q turns after (Err e) facts part visited ok = tt
goes_same cons p q turns after (Ok g) facts part visited ok =
    subst (λ f. GoesOn cons f.value p.part.vars turns (visited_of p) after g) facts
    (subst (λ (x : Part). GoesOn cons q.facts.value x.vars turns (visited_of p) after g) part
    (subst (λ n. GoesOn cons q.facts.value q.part.vars turns n after g) visited ok))
