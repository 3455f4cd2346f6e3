-- Pages that are kept stand in the tree under the new facts.
use Rattle.std.proofs.Common.{◌≡◌, ℕ, ◌*◌, ◌≤◌, length, sym, ap, ◌∙◌, subst, List}
use Rattle.ff_tables.specs.declared.terms.Constraint.{Constraint}
use Rattle.ff_tables.specs.Systems.{AreFit}
use Rattle.ff_propagate.specs.Boards.{IsBoardOf}
use Rattle.ff_propagate.specs.Facts.{value_at}
use Rattle.ff_propagate.specs.Parts.{IsPart}
use Rattle.ff_propagate.specs.Solutions.{solutions_of}
use Rattle.ff_propagate.specs.Trees.{IsTree}
use Rattle.ff_alike.specs.Alike.{HaveSameRim}
use Rattle.ff_alike.proofs.AlikeParts.{alike}
use Rattle.ff_pages.specs.declared.pages.Pages.{Pages}
use Rattle.ff_pages.specs.Paging.{StandsIn, CanKeep, MaySearch, visited_of}

pub moved_stands : (vars : ℕ) (cons : List Constraint) → AreFit vars cons → (p q : Pages) → StandsIn vars cons p
    → IsBoardOf vars cons q.facts.value → IsPart vars cons (value_at q.facts.value) p.part.vars
    → HaveSameRim cons (value_at p.facts.value) (value_at q.facts.value) p.part.vars
    → q.part ≡ p.part → q.budget ≡ p.budget → q.search ≡ p.search → q.found ≡ p.found → StandsIn vars cons q
moved_stands vars cons fit p q at board part rim part_is budget search found_is =
    let a = alike vars cons p.facts.value q.facts.value p.part.vars fit at.board board at.part part rim in
    let r : StandsIn vars cons (record { givens = q.givens; facts = q.facts; part = p.part; budget = p.budget; search = p.search; found = p.found }) = record {
      board = board;
      part = part;
      touching = at.touching;
      few = at.few;
      tree = at.tree;
      is_in = record {
        is_tree = (a.trees at.tree).0 at.is_in.is_tree;
        solutions = at.is_in.solutions ∙ a.solutions;
        search = at.is_in.search;
        within = at.is_in.within;
        found_are = at.is_in.found_are;
        paid = at.is_in.paid;
      };
    } in
    subst (λ x. StandsIn vars cons (record { givens = q.givens; facts = q.facts; part = x; budget = q.budget; search = q.search; found = q.found })) (sym part_is)
    (subst (λ x. StandsIn vars cons (record { givens = q.givens; facts = q.facts; part = p.part; budget = x; search = q.search; found = q.found })) (sym budget)
    (subst (λ x. StandsIn vars cons (record { givens = q.givens; facts = q.facts; part = p.part; budget = p.budget; search = x; found = q.found })) (sym search)
    (subst (λ x. StandsIn vars cons (record { givens = q.givens; facts = q.facts; part = p.part; budget = p.budget; search = p.search; found = x })) (sym found_is) r)))

pub taken_stands : (vars : ℕ) (cons : List Constraint) → AreFit vars cons → (p q : Pages) → StandsIn vars cons p → StandsIn vars cons q
    → p.budget ≡ q.budget → CanKeep cons p (value_at q.facts.value) q.part.vars
    → StandsIn vars cons (record { givens = q.givens; facts = q.facts; part = q.part; budget = q.budget; search = p.search; found = p.found })
taken_stands vars cons fit p q at own budget keep =
    let back = sym keep.vars_are in
    let a = alike vars cons p.facts.value q.facts.value p.part.vars fit at.board own.board at.part
    (subst (λ vs. IsPart vars cons (value_at q.facts.value) vs) keep.vars_are own.part) keep.rim in record {
      board = own.board;
      part = own.part;
      touching = own.touching;
      few = own.few;
      tree = at.tree;
      is_in = record {
        is_tree = subst (λ vs. IsTree cons (value_at q.facts.value) vs at.tree) back ((a.trees at.tree).0 at.is_in.is_tree);
        solutions = at.is_in.solutions ∙ a.solutions ∙ ap (λ vs. solutions_of cons (value_at q.facts.value) vs) back;
        search = subst (λ vs. MaySearch cons vs at.tree p.search) back at.is_in.search;
        within = at.is_in.within;
        found_are = at.is_in.found_are;
        paid = subst (λ n. length q.part.vars * visited_of p ≤ n) budget
            (subst (λ vs. length vs * visited_of p ≤ p.budget) back at.is_in.paid);
      };
    }
