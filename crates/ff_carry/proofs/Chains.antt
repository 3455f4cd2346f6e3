-- Carried facts meet the fact rule, and chains that don't reach a dropped given are kept.
use Rattle.std.proofs.Common.{◌≡◌, ◌≢◌, ◌⊎◌, ⊎_elim, inl, inr, ℕ, zero, suc, ◌+◌, ◌<◌, List, [], ◌∷◌, length, slice_get, sym, refl, ap, ◌∙◌, subst, arith, Option, Some, None}
use mathlib.Core.Logic.{dite}
use native.Mathlib.Decide.{ℕ_discrete}
use Rattle.ff_tables.specs.declared.orders.Order.{Order}
use Rattle.ff_tables.specs.declared.orders.Order.TheVariants.{Below, Above}
use Rattle.ff_tables.specs.declared.terms.Constraint.{Constraint}
use Rattle.ff_tables.specs.Orders.{term_at}
use Rattle.ff_tables.specs.declared.givens.Given.{Given}
use Rattle.ff_tables.proofs.Agreeing.{forces_more}
use Rattle.ff_propagate.specs.declared.facts.Fact.{Fact}
use Rattle.ff_propagate.specs.declared.facts.Reason.{Reason}
use Rattle.ff_propagate.specs.declared.facts.Reason.TheVariants as by
use Rattle.ff_propagate.specs.Facts.{fact_at, IsKnownBelow}
use Rattle.ff_propagate.specs.FactRule.{IsForcedBelow, MeetsFactRule, StandsBy, HasGivenFact}
use Rattle.ff_carry.specs.Carrying.{NoGiven, IsFirstGiven, IsKept, IsCarried, ReachesBy, ReachesIn, Reaches, IsWithout}
use Rattle.ff_propagate.specs.Agreeing.{Agree}
use Rattle.ff_carry.proofs.Kept.{same_fact, reason_is, no_reason}

-- the first given of a variable, or that there is none
first_from : (gs : List Given) (v : ℕ) → ((i : ℕ) × (g : Given) × IsFirstGiven gs v i g) ⊎ NoGiven gs v
first_from [] v = inr (λ i g at e. let q : None ≡ Some g = at in cc)
first_from (x ∷ gs) v = dite (ℕ_discrete x.var v)
    (λ e. inl (zero, x, record { there = refl; variable = e; first = λ j k l. absurd (omega arith) }))
    (λ n. ⊎_elim
    (λ t. inl (
      suc t.0,
      t.1,
      record {
        there = t.2.there;
        variable = t.2.variable;
        first = λ j k l at e. first_of t.0 t.1 t.2 j k l at e n;
      },
    ))
    (λ none. inr (λ i g at e. none_of i g at e n none)) (first_from gs v))
  where
    first_of : (i : ℕ) (g : Given) → IsFirstGiven gs v i g → (j : ℕ) (k : Given) → j < suc i → slice_get (x ∷ gs) j ≡ Some k → k.var ≡ v → x.var ≢ v → ⊥
    first_of i g f zero k l at e n = n (let q : Some x ≡ Some k = at in ap (λ (y : Given). y.var) (same x k q) ∙ e)
      where
        same : (a b : Given) → Some a ≡ Some b → a ≡ b
        same a b q = cc
    first_of i g f (suc j) k l at e n = f.first j k (omega (arith, l)) at e

    none_of : (i : ℕ) (g : Given) → slice_get (x ∷ gs) i ≡ Some g → g.var ≡ v → x.var ≢ v → NoGiven gs v → ⊥
    none_of zero g at e n none = n (let q : Some x ≡ Some g = at in ap (λ (y : Given). y.var) (same x g q) ∙ e)
      where
        same : (a b : Given) → Some a ≡ Some b → a ≡ b
        same a b q = cc
    none_of (suc i) g at e n none = none i g at e

given_is : (gs : List Given) (v i : ℕ) (g : Given) → IsFirstGiven gs v i g → StandsBy [] gs [] v g.value 0 (by.Given i)
given_is gs v i g f = (refl, record { given = g; there = f.there; variable = f.variable; value = refl })

pub carried_meet : (vars : ℕ) (cons : List Constraint) (old_gs gs : List Given) (old new : List (Option Fact)) → MeetsFactRule vars cons old_gs old → IsCarried vars cons gs old new → MeetsFactRule vars cons gs new
carried_meet vars cons old_gs gs old new rule carried = record {
  wide = carried.wide;
  stands = λ v h at. ⊎_elim
      (λ t. let is = same_fact (fact_at new v) _ h (carried.given v t.0 t.1 t.2) at in
      subst (λ (x : Fact). StandsBy cons gs new v x.value x.level x.reason) is (refl, record { given = t.1; there = t.2.there; variable = t.2.variable; value = refl }))
      (λ none. let k = (carried.forced v h none).0 at in
      let up = reason_is vars cons old_gs old v k.number h rule k.was k.by_constraint in
      subst (StandsBy cons gs new v h.value h.level) (sym k.by_constraint) (up.0, k.still))
      (first_from gs v);
  given = λ i g at. ⊎_elim
      (λ t. record { fact = record { value = t.1.value; level = 0; reason = by.Given t.0 }; number = t.0; there = carried.given g.var t.0 t.1 t.2; by_given = refl })
      (λ none. absurd (none i g at refl)) (first_from gs g.var);
}

order_same : (a b : Order) → (a ≢ b → ⊥) → a ≡ b
order_same Below Below n = refl
order_same Below Above n = absurd (n (λ e. let q : Below ≡ Above = e in cc))
order_same Above Below n = absurd (n (λ e. let q : Above ≡ Below = e in cc))
order_same Above Above n = refl

module _ (vars : ℕ) (cons : List Constraint) (old_gs gs : List Given) (d : ℕ) (old new : List (Option Fact))
    (rule : MeetsFactRule vars cons old_gs old) (carried : IsCarried vars cons gs old new) (without : IsWithout old_gs d gs) (agree : Agree gs) where
  -- a fact with the value and the level
  abbrev Alike : ℕ → Fact → Type 0
  Alike v h = (x : Fact) × (fact_at new v ≡ Some x) × (x.value ≡ h.value) × (x.level ≡ h.level)

  pub given_kept : (v i : ℕ) (h : Fact) → fact_at old v ≡ Some h → h.reason ≡ by.Given i → (i ≡ d → ⊥) → Alike v h
  given_kept v i h at is ne =
      let s = subst (StandsBy cons old_gs old v h.value h.level) is (rule.stands v h at) in
      let g = s.1 in
      let here = without.stays i g.given ne g.there in
      ⊎_elim
      (λ t. (
        record { value = t.1.value; level = 0; reason = by.Given t.0 },
        carried.given v t.0 t.1 t.2,
        order_same t.1.value g.given.value (λ apart. agree t.0 here.0 t.1 g.given t.2.there here.1 (t.2.variable ∙ sym g.variable, apart)) ∙ g.value,
        sym s.0,
      ))
      (λ none. absurd (none here.0 g.given here.1 g.variable)) (first_from gs v)

  -- a variable whose old fact is by a constraint has no new given
  no_given : (v c : ℕ) (h : Fact) → fact_at old v ≡ Some h → h.reason ≡ by.Forced c → NoGiven gs v
  no_given v c h at is i g there e =
      let was = without.old_one i g there in
      let f = rule.given was.0 g was.1 in
      let same = same_fact (fact_at old v) h f.fact at (ap (fact_at old) (sym e) ∙ f.there) in
      no_reason h f.number c (ap (λ (x : Fact). x.reason) same ∙ f.by_given) is

  forced_step : (n v c : ℕ) (h : Fact) → h.level < suc n → fact_at old v ≡ Some h → (ReachesIn cons old d (suc n) v → ⊥) → h.reason ≡ by.Forced c
      → ((u : ℕ) (g : Fact) → g.level < n → fact_at old u ≡ Some g → (ReachesIn cons old d n u → ⊥) → Alike u g) → fact_at new v ≡ Some h
  forced_step n v c h l at far is ih =
      let s = subst (StandsBy cons old_gs old v h.value h.level) is (rule.stands v h at) in
      let f = s.1 in
      (carried.forced v h (no_given v c h at is)).1 (record {
        was = at;
        number = c;
        by_constraint = is;
        still = record {
          constraint = f.constraint;
          there = f.there;
          forces = forces_more f.constraint.kind f.constraint.terms (IsKnownBelow old h.level) (IsKnownBelow new h.level) v h.value
              (λ j t k q.
              let u = (term_at f.constraint.terms j).var in
              let a = ih u q.fact (omega (arith, l, q.lower)) q.there
              (λ r. far (h, at, subst (ReachesBy cons old d (ReachesIn cons old d n) h.level) (sym is) (f.constraint, f.there, j, k, q.fact, q.there, q.lower, r))) in
              record { fact = a.0; there = a.1; lower = omega (arith, a.3, q.lower); value = a.2 ∙ q.value })
              f.forces;
        };
      })

  kept_in : (n v : ℕ) (h : Fact) → h.level < n → fact_at old v ≡ Some h → (ReachesIn cons old d n v → ⊥) → (r : Reason) → h.reason ≡ r → Alike v h
  kept_in zero v h l at far r is = absurd (omega (arith, l))
  kept_in (suc n) v h l at far (by.Given i) is = given_kept v i h at is (λ e. far (h, at, subst (ReachesBy cons old d (ReachesIn cons old d n) h.level) (sym is) e))
  kept_in (suc n) v h l at far (by.Forced c) is = (h, forced_step n v c h l at far is (λ u g m there out. kept_in n u g m there out g.reason refl), refl, refl)

  pub chain_kept : (v c : ℕ) (h : Fact) → fact_at old v ≡ Some h → h.reason ≡ by.Forced c → (Reaches cons old d v h → ⊥) → fact_at new v ≡ Some h
  chain_kept v c h at is far = let e : h.level + 1 ≡ suc h.level = omega arith in
      let out = subst (λ (n : ℕ). ReachesIn cons old d n v → ⊥) e far in
      forced_step h.level v c h (omega arith) at out is (λ u g m there o. kept_in h.level u g m there o g.reason refl)
