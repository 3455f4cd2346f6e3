-- A search begins.
use Rattle.std.proofs.Common.{◌≡◌, ℕ, ◌*◌, ◌≤◌, false, List, length, take, refl, sym, ap, ◌∙◌, subst, Option, Some, None, Result, Ok, Err, IfOk}
use Rattle.std.specs.Option.{is_some}
use Rattle.ff_tables.specs.declared.terms.Constraint.{Constraint}
use Rattle.ff_propagate.specs.Facts.{value_at}
use Rattle.ff_propagate.specs.Trees.{visits, found}
use Rattle.ff_solver.specs.declared.state.Search.{Search}
use Rattle.ff_solver.specs.Searches.{StandsAt, Starts}
use Rattle.ff_pages.specs.declared.pages.Pages.{Pages}
use Rattle.ff_tables.specs.declared.memory.NoMemory.{NoMemory}
use Rattle.ff_types.specs.declared.cases.Case.{Case}
use Rattle.ff_propagate.specs.FactRule.{MeetsFactRule}
use Rattle.ff_refute.specs.Givens.{AreGivens}
use Rattle.ff_pages.specs.declared.pages.PageAnswer.{PageAnswer}
use Rattle.ff_pages.specs.Paging.{visited_by, visited_of, StandsIn, IsSamePages, HasLog}

pub none_begun : (o : Option Search) → is_some o ≡ false → o ≡ None
none_begun None e = refl
none_begun (Some s) e = cc

pub begun_stands : (vars : ℕ) (cons : List Constraint) (p : Pages) → StandsIn vars cons p → (s : Search) → p.search ≡ None
    → StandsAt cons (value_at p.facts.value) s → Starts p.part.vars s
    → StandsIn vars cons (record { givens = p.givens; facts = p.facts; part = p.part; budget = p.budget; search = Some s; found = p.found })
begun_stands vars cons p at s none stands starts =
    let same : s.visited ≡ visited_of p = starts.unvisited ∙ sym (ap visited_by none) in
    record {
      board = at.board;
      part = at.part;
      touching = at.touching;
      few = at.few;
      tree = at.tree;
      is_in = record {
        is_tree = at.is_in.is_tree;
        solutions = at.is_in.solutions;
        search = record {
          value = value_at p.facts.value;
          stands = stands;
          part_is = starts.part_is;
          is_tree = at.is_in.is_tree;
        };
        within = subst (λ n. n ≤ length (visits at.tree)) (sym same) at.is_in.within;
        found_are = at.is_in.found_are ∙ ap (λ n. found (take n (visits at.tree))) (sym same);
        paid = subst (λ n. length p.part.vars * n ≤ p.budget) (sym same) at.is_in.paid;
      };
    }

pub begun_visited : (p : Pages) (s : Search) → p.search ≡ None → Starts p.part.vars s → s.visited ≡ visited_of p
begun_visited p s none starts = starts.unvisited ∙ sym (ap visited_by none)

-- what the givens are stays so
pub givens_kept : (case : Case) (p q : Pages) → IsSamePages p q → AreGivens case p.givens.value → AreGivens case q.givens.value
givens_kept case p q same are = subst (λ g. AreGivens case g.value) (sym same.givens) are

pub rule_kept : (vars : ℕ) (cons : List Constraint) (p q : Pages) → IsSamePages p q → MeetsFactRule vars cons p.givens.value p.facts.value
    → MeetsFactRule vars cons q.givens.value q.facts.value
rule_kept vars cons p q same rule = subst (λ f. MeetsFactRule vars cons q.givens.value f.value) (sym same.facts)
    (subst (λ g. MeetsFactRule vars cons g.value p.facts.value) (sym same.givens) rule)

pub log_kept : (case : Case) (p q : Pages) → IsSamePages p q → (r : Result PageAnswer NoMemory)
    → IfOk r (λ a. HasLog case q.givens.value a) → IfOk r (λ a. HasLog case p.givens.value a)
log_kept case p q same (Ok a) log = subst (λ g. HasLog case g.value a) same.givens log
log_kept case p q same (Err e) log = tt
