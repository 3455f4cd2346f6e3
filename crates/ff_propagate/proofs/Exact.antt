-- Values of a closure: when they are all of it, and when it clashes.
use Rattle.std.proofs.Common.{IsTrue, List, ◌≡◌, ℕ, Bool, true, false, slice_get, Some, None, Option, sym, ap, ◌∙◌, subst, inl, inr, refl}
use Rattle.ff_tables.proofs.SameOrders.{is_order_of, order_is, turn_one}
use Rattle.ff_basics.proofs.Options.{some_same}
use Rattle.ff_tables.specs.declared.terms.Constraint.{Constraint}
use Rattle.ff_tables.specs.declared.orders.Order.{Order}
use Rattle.ff_tables.specs.declared.orders.Order.TheVariants.{Below, Above}
use Rattle.ff_tables.specs.declared.terms.Kind.{Kind}
use Rattle.ff_tables.specs.declared.terms.Term.{Term}
use Rattle.ff_tables.specs.declared.known.Forced.TheVariants.{Nothing}
use Rattle.ff_tables.specs.Orders.{turn, term_at, is_order, row_at}
use Rattle.ff_tables.specs.Systems.{AreFit}
use Rattle.ff_tables.specs.Forces.{Forces, Knows, ForcedIs, NoneAgrees, Settled, Meets}
use Rattle.ff_tables.specs.declared.givens.Given.{Given}
use Rattle.ff_tables.proofs.Agreeing.{turn_turn, forces_more}
use Rattle.ff_propagate.specs.Closure.{InClosure, Clashes, IsClosure, Gives, HoldsGivens}
use Rattle.ff_propagate.specs.Closing.{Contradict}
use Rattle.ff_propagate.specs.ClosureLaws.{AreQuiet}
use Rattle.ff_propagate.proofs.Quiet.{IsQuiet, closure_forced, dead_forces}

-- what a quiet constraint forces is known
pub quiet_known : (kind : Kind) (ts : List Term) (f : ℕ → Option Order) (v : ℕ) (s : Order)
    → ForcedIs kind ts f Nothing → Forces kind ts (Knows f) v s → f v ≡ Some s
quiet_known kind ts f v s q (p, l, e, only) = by_case (q.1 p l)
  where
    by_case : Settled kind ts f p → f v ≡ Some s
    by_case (inl k) =
        let fl = (term_at ts p).flipped in
        let known : f (term_at ts p).var ≡ Some (turn fl (turn fl k.0)) = k.1 ∙ ap Some (sym (turn_turn fl k.0)) in
        let r = q.0 in
        let a : turn fl k.0 ≡ turn fl s = sym (r.3 p (turn fl k.0) l known) ∙ only r.0 r.1 r.2 r.3 in
        ap f (sym e) ∙ k.1 ∙ ap Some (turn_one fl k.0 s a)
    by_case (inr c) =
        let b : Below ≡ Above = sym c.0.4 ∙ only c.0.0 c.0.1 c.0.2 c.0.3 ∙ sym (only c.1.0 c.1.1 c.1.2 c.1.3)
        ∙ c.1.4 in cc

abbrev test : Option Order → Order → Bool
test None s = false
test (Some t) s = is_order t s

test_some : (o : Option Order) (s : Order) → test o s ≡ true → o ≡ Some s
test_some None s h = cc
test_some (Some Below) Below h = refl
test_some (Some Below) Above h = cc
test_some (Some Above) Below h = cc
test_some (Some Above) Above h = refl

some_test : (s : Order) → test (Some s) s ≡ true
some_test Below = refl
some_test Above = refl

-- each value is in the closure
abbrev pub AreInside : List Constraint → List Given → (ℕ → Option Order) → Type 0
AreInside cons gs f = (v : ℕ) (s : Order) → f v ≡ Some s → InClosure cons (Gives gs) v s

-- values of the closure that hold the givens, and from which no constraint forces more, are all of it
pub silent_closure : (cons : List Constraint) (gs : List Given) (f : ℕ → Option Order) → AreInside cons gs f
    → HoldsGivens gs f → IsQuiet cons f → IsClosure cons (Gives gs) f
silent_closure cons gs f inside gives quiet v s = (
  inside v s,
  λ is. test_some (f v) s (is (λ u t. test (f u) t) (record {
    base_held = λ u t g. ap (λ (o : Option Order). test o t)
        (ap f (sym g.1.variable) ∙ gives g.0 g.1.given g.1.there ∙ ap Some g.1.value) ∙ some_test t;
    forced_held = λ c con u t there force. ap (λ (o : Option Order). test o t)
        (quiet c con u t there
        (forces_more con.kind con.terms (λ x y. IsTrue (test (f x) y)) (Knows f) u t
        (λ j y l q. test_some (f (term_at con.terms j).var) y q) force)) ∙ some_test t;
  })),
)

pub quiet_closure : (cons : List Constraint) (gs : List Given) (f : ℕ → Option Order) → AreInside cons gs f
    → HoldsGivens gs f → AreQuiet cons f → IsClosure cons (Gives gs) f
quiet_closure cons gs f inside gives quiet = silent_closure cons gs f inside gives
    (λ c con v s there. quiet_known con.kind con.terms f v s (quiet c con there))

-- a dead constraint clashes
pub dead_closure : (vars : ℕ) (cons : List Constraint) (gs : List Given) (f : ℕ → Option Order)
    → AreFit vars cons → AreInside cons gs f → (c : ℕ) (con : Constraint) → slice_get cons c ≡ Some con
    → NoneAgrees con.kind con.terms (Knows f) → Clashes cons (Gives gs)
dead_closure vars cons gs f fit inside c con there none = record {
  variable = (term_at con.terms 0).var;
  below = both Below;
  above = both Above;
}
  where
    both : (s : Order) → InClosure cons (Gives gs) (term_at con.terms 0).var s
    both s = closure_forced cons (Gives gs) c con (term_at con.terms 0).var s there
        (forces_more con.kind con.terms (Knows f) (InClosure cons (Gives gs)) (term_at con.terms 0).var s
        (λ j t l q. inside (term_at con.terms j).var t q)
        (dead_forces vars cons fit c con there (Knows f) none s))

sides : (cons : List Constraint) (gs : List Given) (v : ℕ) (a b : Order) → (a ≡ b → ⊥)
    → InClosure cons (Gives gs) v a → InClosure cons (Gives gs) v b → Clashes cons (Gives gs)
sides cons gs v Below Below ne x y = absurd (ne refl)
sides cons gs v Below Above ne x y = record { variable = v; below = x; above = y }
sides cons gs v Above Below ne x y = record { variable = v; below = y; above = x }
sides cons gs v Above Above ne x y = absurd (ne refl)

-- two givens that contradict each other clash
pub contradiction_clashes : (cons : List Constraint) (gs : List Given) (i j : ℕ) (g h : Given)
    → slice_get gs i ≡ Some g → slice_get gs j ≡ Some h → Contradict g h → Clashes cons (Gives gs)
contradiction_clashes cons gs i j g h one two x = sides cons gs h.var g.value h.value x.1
    (subst (λ v. InClosure cons (Gives gs) v g.value) x.0
    (λ set closed. closed.base_held g.var g.value (i, record { given = g; there = one; variable = refl; value = refl })))
    (λ set closed. closed.base_held h.var h.value (j, record { given = h; there = two; variable = refl; value = refl }))

-- an assignment that meets the constraints and holds the givens has the closure
pub holds_closure : (cons : List Constraint) (gs : List Given) (a : ℕ → Order) → Meets cons a
    → HoldsGivens gs (λ v. Some (a v)) → (v : ℕ) (s : Order) → InClosure cons (Gives gs) v s → a v ≡ s
holds_closure cons gs a meets holds v s inside = order_is (a v) s (inside (λ u t. is_order (a u) t) (record {
  base_held = λ u t (i, g). is_order_of (a u) t
      (ap a (sym g.variable) ∙ some_same (holds i g.given g.there) ∙ g.value);
  forced_held = λ c con u t is f.
      let r = meets c con is in
      let fl = (term_at con.terms f.0).flipped in
      let x = (term_at con.terms f.0).var in
      let e : row_at r.1 f.0 ≡ turn fl t = f.3 r.0 r.1 r.2
      (λ j b l q. r.3 j b l
      (order_is (a (term_at con.terms j).var) (turn (term_at con.terms j).flipped b) q)) in
      let d : row_at r.1 f.0 ≡ turn fl (a x) = r.3 f.0 (turn fl (a x)) f.1 (sym (turn_turn fl (a x))) in
      is_order_of (a u) t (ap a (sym f.2) ∙ turn_one fl (a x) t (sym d ∙ e));
}))
