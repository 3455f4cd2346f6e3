-- Searches of demanded parts.
use Rattle.std.proofs.Common.{◌≡◌, ◌≢◌, ℕ, zero, suc, ◌+◌, ◌*◌, ◌<◌, ◌≤◌, ◌⊎◌, ◌↔◌, inl, inr, Bool, true, false, not, max, min, List, [], ◌∷◌, length, drop, get_or, set, slice_get, sym, refl, ap, ◌∙◌, subst, arith, Option, Some, None}
use Rattle.std.specs.Prelude.{IsTrue}
use Rattle.std.proofs.Math.Nat.{mul-le-mul_left}
use Rattle.std.proofs.lemmas.Bool.{cases_lt}
use Rattle.std.proofs.lemmas.Option.{slice_get_within}
use Rattle.ff_tables.specs.declared.terms.Constraint.{Constraint}
use Rattle.ff_types.specs.declared.cases.Case.{Case}
use Rattle.ff_propagate.specs.Facts.{value_at}
use Rattle.ff_propagate.specs.Trees.{Tree, IsTree, visits}
use Rattle.ff_pages.specs.declared.pages.Pages.{Pages}
use Rattle.ff_pages.specs.Paging.{StandsIn, IsSamePages, visited_of, RunsTo, TellsClosed}
use Rattle.ff_told.specs.Paged.{AreAllPages}
use Rattle.ff_desk.specs.declared.loans.Turn.{Turn}
use Rattle.ff_desk.specs.declared.loans.Turn.TheVariants as turn
use Rattle.ff_desk.specs.Views.{DeskView}
use Rattle.ff_desk.specs.Demands.{IsDemanded, AreDemanded, IsClosed, HasPages, IsOpenAt}
use Rattle.ff_desk.specs.Desks.{IsDesk, KeepsPages}
use Rattle.ff_desk.specs.Marks.{IsMarked}
use Rattle.ff_desk.specs.Steps.{IsSameButPages, NoneOpen, IsLeastOpen, HasGoneOn, IsSearched, SearchIs}
use Rattle.ff_desk.specs.Searched.{AllStand, IsOpenMarked, IsLeastMarked, WentOn, HasWentOn, SearchesIn}

one_pages : {a b : Pages} → Some a ≡ Some b → a ≡ b
one_pages e = cc

-- ---- whether a part is open

pub open_told : (vars : ℕ) (cons : List Constraint) (list : List Pages) (marks : List Bool) (p : ℕ) (q : Pages) (b : Bool) → slice_get list p ≡ Some q
    → StandsIn vars cons q → IsMarked marks p → TellsClosed cons q b
    → (IsTrue (not b) → IsOpenMarked cons list marks p) × (IsOpenMarked cons list marks p → IsTrue (not b))
open_told vars cons list marks p q true there stands marked tells = (
  λ t. absurd (let e : false ≡ true = t in cc),
  λ o. absurd (o.open_yet (subst (λ x. IsClosed cons x) (one_pages (sym there ∙ o.there)) (record {
    tree = stands.tree;
    is_tree = stands.is_in.is_tree;
    ended = (tells stands.tree stands.is_in.is_tree).0 refl;
  }))),
)
open_told vars cons list marks p q false there stands marked tells = (
  λ t. record {
    pages = q;
    there = there;
    marked = marked;
    open_yet = λ c. let e : false ≡ true = (tells c.tree c.is_tree).1 c.ended in cc;
  },
  λ o. refl,
)

-- ---- a part goes on

dropped_all : {X : Type 0} (n m : ℕ) (xs : List X) → n ≤ m → drop n xs ≡ [] → drop m xs ≡ []
dropped_all zero zero xs l e = e
dropped_all zero (suc m) [] l e = refl
dropped_all zero (suc m) (x ∷ xs) l e = cc
dropped_all (suc n) zero xs l e = absurd (omega (arith, l))
dropped_all (suc n) (suc m) [] l e = refl
dropped_all (suc n) (suc m) (x ∷ xs) l e = dropped_all n m xs (omega (arith, l)) e

-- a node was visited
went_further : (cons : List Constraint) (a b : Pages) (tree : Tree) → IsTree cons (value_at a.facts.value) a.part.vars tree → (IsClosed cons a → ⊥)
    → IsSamePages a b → RunsTo cons (min (length a.part.vars * visited_of a + max 4096 (length a.part.vars)) a.budget) b → visited_of a < visited_of b
went_further cons a b tree is unfinished same ran = elim (cases_lt (visited_of a) (visited_of b)) [
  | inl l ↦ l
  | inr l ↦ absurd (stuck l)
]
  where
    not_ended : drop (visited_of a) (visits tree) ≡ [] → ⊥
    not_ended e = unfinished (record { tree = tree; is_tree = is; ended = inl e })

    covered : length a.part.vars * (visited_of a + 1) ≤ a.budget
    covered = elim (cases_lt a.budget (length a.part.vars * (visited_of a + 1))) [
      | inl l ↦ absurd (unfinished (record { tree = tree; is_tree = is; ended = inr l }))
      | inr l ↦ l
    ]

    tree_there : IsTree cons (value_at b.facts.value) b.part.vars tree
    tree_there = subst (λ f. IsTree cons (value_at f.value) b.part.vars tree) (sym same.facts)
        (subst (λ x. IsTree cons (value_at a.facts.value) x.vars tree) (sym same.part) is)

    stuck : visited_of b ≤ visited_of a → ⊥
    stuck l = elim (ran.1 tree tree_there) [
      | inl e ↦ not_ended (dropped_all (visited_of b) (visited_of a) (visits tree) l e)
      | inr s ↦
          let cost : length b.part.vars ≡ length a.part.vars = ap (λ x. length x.vars) same.part in
          let less : length a.part.vars * (visited_of b + 1) ≤ length a.part.vars * (visited_of a + 1) = mul-le-mul_left (length a.part.vars) (omega (arith, l)) in
          let next : length a.part.vars * (visited_of a + 1) ≡ length a.part.vars * visited_of a + length a.part.vars = one_more (length a.part.vars) (visited_of a) in
          let there : min (length a.part.vars * visited_of a + max 4096 (length a.part.vars)) a.budget < length a.part.vars * (visited_of b + 1) =
          subst (λ n. min (length a.part.vars * visited_of a + max 4096 (length a.part.vars)) a.budget < n * (visited_of b + 1)) cost s in
          omega (arith, less, next, there, covered)
    ]
      where
        one_more : (c v : ℕ) → c * (v + 1) ≡ c * v + c
        one_more c v = omega arith

set_there : (ps : List Pages) (p : ℕ) (a b : Pages) → slice_get ps p ≡ Some a → slice_get (set ps p b) p ≡ Some b
set_there [] p a b h = absurd (nothing p a h)
  where
    nothing : (p : ℕ) (a : Pages) → slice_get [] p ≡ Some a → ⊥
    nothing p a h = cc
set_there (x ∷ ps) zero a b h = refl
set_there (x ∷ ps) (suc p) a b h = set_there ps p a b h

set_others : (ps : List Pages) (p q : ℕ) (b x : Pages) → q ≢ p → slice_get ps q ≡ Some x → slice_get (set ps p b) q ≡ Some x
set_others [] p q b x n h = h
set_others (y ∷ ps) zero zero b x n h = absurd (n refl)
set_others (y ∷ ps) zero (suc q) b x n h = h
set_others (y ∷ ps) (suc p) zero b x n h = h
set_others (y ∷ ps) (suc p) (suc q) b x n h = set_others ps p q b x (λ e. n (ap suc e)) h

pub has_gone : (vars : ℕ) (cons : List Constraint) (ps : List Pages) (p : ℕ) (a b : Pages) → slice_get ps p ≡ Some a → StandsIn vars cons a
    → (IsClosed cons a → ⊥) → IsSamePages a b
    → RunsTo cons (min (length a.part.vars * visited_of a + max 4096 (length a.part.vars)) a.budget) b → HasWentOn cons p ps (set ps p b)
has_gone vars cons ps p a b there stands unfinished same ran = (
  record {
    before = a;
    after = b;
    was = there;
    is = set_there ps p a b there;
    same = same;
    others = λ q x n h. set_others ps p q b x n h;
  },
  record { ran = ran; visited = went_further cons a b stands.tree stands.is_in.is_tree unfinished same ran },
)

-- ---- a desk

-- all pages of a desk stand
pub all_stand : (d : DeskView) (ps : List Pages) → IsDesk d → d.pages ≡ Some ps → AllStand d.base.case ps
all_stand d ps is e i p at = let k = subst (λ x. KeepsPages d.base.case d.base.budget d.journal d.facts x) e is.pages in (k.3.each i p at).stands

pub marks_long : (d : DeskView) (ps : List Pages) → IsDesk d → d.pages ≡ Some ps → length d.demanded ≡ length ps
marks_long d ps is e = (subst (λ x. AreDemanded d.journal x d.demanded) e is.demands).0

-- a demanded part that is open is one that is marked and open
open_from : (d : DeskView) (ps : List Pages) (q : ℕ) → IsDesk d → d.pages ≡ Some ps → IsOpenAt d.base.case.system.constraints d.journal d.pages q
    → IsOpenMarked d.base.case.system.constraints ps d.demanded q
open_from d ps q is e o =
    let at : slice_get ps q ≡ Some o.pages = subst (λ x. HasPages x q o.pages) e o.there in
    let m = subst (λ x. AreDemanded d.journal x d.demanded) e is.demands in record {
      pages = o.pages;
      there = at;
      marked = (m.1 q (slice_get_within ps q o.pages at)).1 o.demanded;
      open_yet = o.open_yet;
    }

open_to : (d : DeskView) (ps : List Pages) (q : ℕ) → IsDesk d → d.pages ≡ Some ps → IsOpenMarked d.base.case.system.constraints ps d.demanded q
    → IsOpenAt d.base.case.system.constraints d.journal d.pages q
open_to d ps q is e o =
    let m = subst (λ x. AreDemanded d.journal x d.demanded) e is.demands in record {
      pages = o.pages;
      there = subst (λ x. HasPages x q o.pages) (sym e) o.there;
      demanded = (m.1 q (slice_get_within ps q o.pages o.there)).0 o.marked;
      open_yet = o.open_yet;
    }

-- where there are no pages no demanded part is open
pub none_open : (d : DeskView) → d.pages ≡ None → NoneOpen d
none_open d e p o = subst (λ x. HasPages x p o.pages) e o.there

-- what a search of the marked parts comes to
pub searched : (d : DeskView) (ps qs : List Pages) (t : Turn) → IsDesk d → d.pages ≡ Some ps
    → SearchesIn d.base.case.system.constraints ps d.demanded qs t → SearchIs d (record d { pages = Some qs }) t
searched d ps qs turn.Idle is e (same, none) =
    (λ p o. none p (open_from d ps p is e o), λ i. record d { pages = (ap (λ xs. Some xs) same ∙ sym e) i })
searched d ps qs turn.Did is e (p, (here, least), (g, w)) = (
  p,
  record {
    open_yet = open_to d ps p is e here;
    least = λ q l o. least q l (open_from d ps q is e o);
  },
  record {
    same = record { base = refl; journal = refl; givens = refl; facts = refl; home = refl; present = refl };
    demanded = refl;
    earlier = refl;
    gone = record {
      before = g.before;
      after = g.after;
      was = subst (λ x. HasPages x p g.before) (sym e) g.was;
      is = g.is;
      same = g.same;
      others = λ q x n h. g.others q x n (subst (λ y. HasPages y q x) e h);
    };
    ran = w.ran;
    visited = w.visited;
  },
)
