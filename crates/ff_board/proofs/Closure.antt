-- What was swept is the whole closure.
use Rattle.std.proofs.Common.{IsTrue, ◌≡◌, ℕ, ◌<◌, Bool, true, false, List, length, slice_get, sym, refl, ap, ◌∙◌, subst, Option, Some, None}
use Rattle.ff_tables.specs.declared.orders.Order.{Order}
use Rattle.ff_tables.specs.declared.orders.Order.TheVariants.{Below, Above}
use Rattle.ff_tables.specs.declared.terms.Constraint.{Constraint}
use Rattle.ff_tables.specs.declared.givens.Given.{Given}
use Rattle.ff_tables.specs.Orders.{is_order, term_at}
use Rattle.ff_tables.proofs.Agreeing.{forces_more}
use Rattle.ff_propagate.specs.declared.facts.Fact.{Fact}
use Rattle.ff_propagate.specs.Facts.{fact_at, value_at, seen}
use Rattle.ff_propagate.specs.Closure.{InClosure, IsClosure, Gives, HoldsGivens}
use Rattle.ff_propagate.proofs.Lists.{seen_is}
use Rattle.ff_propagate.specs.declared.words.Held.{Held}
use Rattle.ff_board.specs.declared.opening.Opening.{Opening}
use Rattle.ff_propagate.specs.Words.{held}
use Rattle.ff_board.specs.Answer.{fact_of}
use Rattle.ff_board.specs.Facts.{cons_in, SeenAt, AllIn}
use Rattle.ff_board.specs.Rule.{Opens}
use Rattle.ff_board.specs.Swept.{Closes}
use Rattle.ff_board.specs.Ends.{value_seen}

abbrev test : Option Order → Order → Bool
test None s = false
test (Some t) s = is_order t s

test_some : (o : Option Order) (s : Order) → test o s ≡ true → o ≡ Some s
test_some None s h = cc
test_some (Some Below) Below h = refl
test_some (Some Below) Above h = cc
test_some (Some Above) Below h = cc
test_some (Some Above) Above h = refl

some_test : (s : Order) → test (Some s) s ≡ true
some_test Below = refl
some_test Above = refl

pub to_seen : (x : Option Held) (s : Order) → seen (fact_of x) ≡ Some s → (h : Held) × (x ≡ Some h) × (h.fact.value ≡ s)
to_seen None s e = absurd (let q : None ≡ Some s = e in cc)
to_seen (Some h) s e = (h, refl, let q : Some h.fact.value ≡ Some s = e in cc)

pub from_seen : (ws : List ℕ) (v : ℕ) (s : Order) → SeenAt ws v s → value_seen ws v ≡ Some s
from_seen ws v s t = ap (λ x. seen (fact_of x)) t.1 ∙ ap Some t.2

pub is_closure : (o : Opening) (ws : List ℕ) → HoldsGivens o.givens (value_at o.facts) → Opens o ws → Closes o ws → AllIn o ws → IsClosure (cons_in o) (Gives o.givens) (value_seen ws)
is_closure o ws gives opened closes inside v s = (
  (λ e. let h = to_seen (held ws v) s e in subst (λ t. InClosure (cons_in o) (Gives o.givens) v t) h.2 (inside v h.0 h.1)),
  (λ all. test_some (value_seen ws v) s (all (λ u t. test (value_seen ws u) t) (record {
    base_held = λ u t g.
        let f = seen_is (fact_at o.facts g.1.given.var) g.1.given.value (gives g.0 g.1.given g.1.there) in
        let w = opened g.1.given.var f.0 f.1 in
        let here : value_seen ws u ≡ Some t = ap (value_seen ws) (sym g.1.variable) ∙ (ap (λ x. seen (fact_of x)) w.1 ∙ (ap Some f.2 ∙ ap Some g.1.value)) in
        ap (λ (x : Option Order). test x t) here ∙ some_test t;
    forced_held = λ c con u t is f.
        ap (λ (x : Option Order). test x t) (from_seen ws u t ((closes c con is).1 u t (forces_more con.kind con.terms (λ x y. IsTrue (test (value_seen ws x) y)) (SeenAt ws) u t
        (λ j y l q. to_seen (held ws (term_at con.terms j).var) y (test_some (value_seen ws (term_at con.terms j).var) y q)) f))) ∙ some_test t;
  }))),
)
