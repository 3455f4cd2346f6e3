-- Whether a part is closed, and how far its pages run.
use Rattle.std.proofs.Common.{◌≡◌, ℕ, ◌+◌, ◌-◌, ◌*◌, ◌<◌, ◌≤◌, ◌↔◌, inl, inr, Bool, true, false, IsTrue, List, [], length, drop, refl, sym, ap, ◌∙◌, subst, arith, Some, None}
use Rattle.std.specs.Prelude.{min}
use Rattle.std.proofs.lemmas.Bool.{cases_lt}
use Rattle.std.proofs.Math.Nat.{min-eq_left, min-eq_right}
use Rattle.ff_tables.specs.declared.terms.Constraint.{Constraint}
use Rattle.ff_propagate.specs.Facts.{value_at}
use Rattle.ff_propagate.specs.Trees.{Tree, IsTree, visits}
use Rattle.ff_solver.specs.declared.state.Search.{Search}
use Rattle.ff_solver.specs.Searches.{TellsFinished}
use Rattle.ff_solver.proofs.Running.{visits_some, times_more}
use Rattle.ff_solver.proofs.Unique.{same_tree}
use Rattle.std.proofs.lemmas.List.{append-nil}
use Rattle.ff_pages.specs.declared.pages.Pages.{Pages}
use Rattle.ff_pages.specs.Paging.{visited_by, visited_of, IsSearchIn, MaySearch, StandsIn, TellsClosed, RunsTo}

-- whether all nodes are visited
abbrev pub TellsEnd : List Constraint → Pages → Bool → Type 0
TellsEnd cons p ended = (tree : Tree) → IsTree cons (value_at p.facts.value) p.part.vars tree
    → IsTrue ended ↔ (drop (visited_of p) (visits tree) ≡ [])

pub closed_by : (cons : List Constraint) (p : Pages) (r : Bool) → TellsEnd cons p r
    → (p.budget < length p.part.vars * (visited_of p + 1) → ⊥) → TellsClosed cons p r
closed_by cons p r tells covers tree is = (
  λ e. inl ((tells tree is).0 e),
  λ either. elim either [ inl e ↦ (tells tree is).1 e | inr short ↦ absurd (covers short) ],
)

pub closed_short : (cons : List Constraint) (p : Pages) → p.budget < length p.part.vars * (visited_of p + 1) → TellsClosed cons p true
closed_short cons p short tree is = (λ e. inr short, λ either. refl)

pub ended_none : (cons : List Constraint) (p : Pages) → p.search ≡ None → TellsEnd cons p false
ended_none cons p none tree is = (
  λ e. cc,
  λ e. absurd (visits_some tree [] (append-nil (visits tree) ∙ subst (λ n. drop n (visits tree) ≡ []) (ap visited_by none) e)),
)

pub ended_some : (vars : ℕ) (cons : List Constraint) (p : Pages) (at : StandsIn vars cons p) (s : Search) → p.search ≡ Some s
    → (r : Bool) → TellsFinished s r → TellsEnd cons p r
ended_some vars cons p at s is r tells tree is_tree =
    let i : IsSearchIn cons p.part.vars at.tree s = subst (λ o. MaySearch cons p.part.vars at.tree o) is at.is_in.search in
    let same : at.tree ≡ tree = same_tree cons (λ v x. value_at p.facts.value v ≡ Some x) p.part.vars [] at.tree tree at.is_in.is_tree is_tree in
    let here = tells cons i.value i.stands at.tree (subst (λ vs. IsTree cons i.value vs at.tree) (sym i.part_is) i.is_tree) in
    subst (λ t. IsTrue r ↔ (drop (visited_of p) (visits t) ≡ [])) same
    (subst (λ n. IsTrue r ↔ (drop n (visits at.tree) ≡ [])) (sym (ap visited_by is)) here)

-- the rest of the budget doesn't cover a node
pub short_of : (cost visited spent budget : ℕ) → spent ≡ cost * visited → spent ≤ budget → budget - spent < cost → budget < cost * (visited + 1)
short_of cost visited spent budget is l short = let m = times_more cost visited in omega (arith, m, is, l, short)

pub covers_one : (cost visited spent budget : ℕ) → spent ≡ cost * visited → spent ≤ budget → (budget - spent < cost → ⊥)
    → budget < cost * (visited + 1) → ⊥
covers_one cost visited spent budget is l covers short = let m = times_more cost visited in covers (omega (arith, m, is, l, short))

-- where the turns don't cover a node none is visited
pub runs_none : (cons : List Constraint) (p : Pages) (more cost : ℕ) → cost ≡ length p.part.vars → more < cost
    → RunsTo cons (length p.part.vars * visited_of p + more) p
runs_none cons p more cost is short = (
  omega arith,
  λ tree t. inr (let m = times_more (length p.part.vars) (visited_of p) in omega (arith, m, is, short)),
)

pub min_more : (spent turns budget : ℕ) → spent ≤ budget → spent + min turns (budget - spent) ≡ min (spent + turns) budget
min_more spent turns budget l = elim (cases_lt turns (budget - spent)) [
  | inl less ↦ (
      let a : min turns (budget - spent) ≡ turns = min-eq_left (omega (arith, less)) in
      let b : min (spent + turns) budget ≡ spent + turns = min-eq_left (omega (arith, less, l)) in
      ap (λ n. spent + n) a ∙ sym b)
  | inr more ↦ (
      let a : min turns (budget - spent) ≡ budget - spent = min-eq_right (omega (arith, more)) in
      let b : min (spent + turns) budget ≡ budget = min-eq_right (omega (arith, more, l)) in
      let c : spent + (budget - spent) ≡ budget = omega (arith, l) in
      ap (λ n. spent + n) a ∙ c ∙ sym b)
]

pub more_within : (spent turns budget more : ℕ) → spent ≤ budget → more ≡ min turns (budget - spent) → spent + more ≤ budget
more_within spent turns budget more l is = elim (cases_lt turns (budget - spent)) [
  | inl less ↦ (
      let a : min turns (budget - spent) ≡ turns = min-eq_left (omega (arith, less)) in
      omega (arith, is, a, less, l))
  | inr high ↦ (
      let a : min turns (budget - spent) ≡ budget - spent = min-eq_right (omega (arith, high)) in
      omega (arith, is, a, high, l))
]

pub ran_to : (cons : List Constraint) (q : Pages) (spent turns budget more : ℕ) → spent ≤ budget → more ≡ min turns (budget - spent)
    → RunsTo cons (spent + more) q → RunsTo cons (min (spent + turns) budget) q
ran_to cons q spent turns budget more l is ran = subst (λ n. RunsTo cons n q) (ap (λ n. spent + n) is ∙ min_more spent turns budget l) ran
