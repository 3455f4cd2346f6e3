-- Collected facts meet the fact rule.
use Rattle.std.proofs.Common.{◌≡◌, ℕ, ◌<◌, Bool, true, false, List, length, slice_get, sym, refl, ap, ◌∙◌, subst, Option, Some, None}
use Rattle.std.specs.Arc.{arc_value}
use Rattle.ff_tables.specs.declared.orders.Order.{Order}
use Rattle.ff_tables.specs.declared.givens.Given.{Given}
use Rattle.ff_tables.specs.Orders.{term_at}
use Rattle.ff_tables.proofs.Agreeing.{forces_more}
use Rattle.ff_propagate.specs.declared.facts.Fact.{Fact}
use Rattle.ff_propagate.specs.declared.facts.Reason.{Reason}
use Rattle.ff_propagate.specs.declared.facts.Reason.TheVariants as by
use Rattle.ff_propagate.specs.Facts.{fact_at, value_at, IsKnownBelow}
use Rattle.ff_propagate.specs.FactRule.{MeetsFactRule, StandsBy, HasGivenFact}
use Rattle.ff_propagate.specs.declared.words.Held.{Held}
use Rattle.ff_board.specs.declared.opening.Opening.{Opening}
use Rattle.ff_propagate.specs.Words.{held}
use Rattle.ff_board.specs.Answer.{fact_of}
use Rattle.ff_board.specs.Facts.{vars_in, cons_in, Marked, ReasonOk, FactOk}
use Rattle.ff_board.specs.Rule.{Opens}
use Rattle.ff_board.specs.Standing.{GivensStand, is_by_given}
use Rattle.ff_board.proofs.Examined.{held_by}
use Rattle.ff_board.proofs.Steps.{fact_inside}

module _ (o : Opening) (ws : List ℕ) (fs : List (Option Fact)) (wide : length fs ≡ vars_in o)
    (found : (v : ℕ) → v < vars_in o → fact_at fs v ≡ fact_of (held ws v))
    (rule : (v : ℕ) (h : Held) → v < vars_in o → held ws v ≡ Some h → FactOk o ws v h) where
  stands : (v : ℕ) (h : Held) (r : Reason) → ReasonOk o ws v h r → StandsBy (cons_in o) o.givens fs v h.fact.value h.fact.level r
  stands v h (by.Given i) ok = ok
  stands v h (by.Forced c) ok = (
    ok.up,
    record {
      constraint = ok.con;
      there = ok.there;
      forces = forces_more ok.con.kind ok.con.terms (Marked ws ok.con.terms h.marks) (IsKnownBelow fs h.fact.level) v h.fact.value
          (λ j s l m. let g = ok.lower m.0 m.1 m.2 in let u = (term_at ok.con.terms j).var in
          let inside = ((arc_value o.case).system.fit c ok.con ok.there).within j l in
          let here : held ws u ≡ Some g.0 = ap (held ws) (sym m.3) ∙ g.1 in
          let same : m.4.0 ≡ g.0 = let a = m.4.1 in cc in
          record {
            fact = g.0.fact;
            there = found u inside ∙ ap fact_of here;
            lower = g.2;
            value = ap (λ (x : Held). x.fact.value) (sym same) ∙ m.4.2;
          })
          ok.forces;
    },
  )

  given_of : (v : ℕ) (x : Option Fact) → is_by_given x ≡ true → fact_at o.facts v ≡ x → Opens o ws → v < vars_in o → HasGivenFact fs v
  given_of v None e at opens l = absurd (let q : false ≡ true = e in cc)
  given_of v (Some f) e at opens l = by_reason f.reason refl e
    where
      by_reason : (r : Reason) → f.reason ≡ r → is_by_given (Some (record { value = f.value; level = f.level; reason = r })) ≡ true → HasGivenFact fs v
      by_reason (by.Given i) is _ = let w = opens v f at in record { fact = f; number = i; there = found v l ∙ ap fact_of w.1; by_given = is }
      by_reason (by.Forced c) is q = absurd (let z : false ≡ true = q in cc)

  pub meets : Opens o ws → GivensStand o.givens o.facts → length o.facts ≡ vars_in o → MeetsFactRule (vars_in o) (cons_in o) o.givens fs
  meets opens given spread = record {
    wide = wide;
    stands = λ v f e. let l : v < vars_in o = subst (λ (n : ℕ). v < n) wide (fact_inside fs v f e) in
        let q = held_by (held ws v) f (sym (found v l) ∙ e) in
        subst (λ (x : Fact). StandsBy (cons_in o) o.givens fs v x.value x.level x.reason) q.2 (stands v q.0 q.0.fact.reason (rule v q.0 l q.1));
    given = λ i g is. let t = given i g is in
        given_of g.var (fact_at o.facts g.var) t.1 refl opens (subst (λ (n : ℕ). g.var < n) spread (inside_by g.var (fact_at o.facts g.var) t.1 refl));
  }
    where
      inside_by : (v : ℕ) (x : Option Fact) → is_by_given x ≡ true → fact_at o.facts v ≡ x → v < length o.facts
      inside_by v None e at = absurd (let q : false ≡ true = e in cc)
      inside_by v (Some f) e at = fact_inside o.facts v f at
