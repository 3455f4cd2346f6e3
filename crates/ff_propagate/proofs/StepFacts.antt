-- The fact of a step.
use Rattle.std.proofs.Common.{◌≡◌, ℕ, suc, ◌+◌, ◌<◌, ◌≤◌, ◌==◌, List, length, set, drop, slice_get, sym, refl, ap, ◌∙◌, subst, arith, add-one, Option, Some, None, if◌then◌else◌}
use Rattle.std.proofs.Math.Seq.{drop-cons}
use Rattle.std.proofs.lemmas.Option.{slice_get_within}
use Rattle.std.proofs.lemmas.Bool.{eq-eqb, ne_eqb}
use Rattle.std.proofs.lemmas.List.{get_or-set_same, get_or-set_other, length-set}
use Rattle.ff_basics.proofs.Options.{some_same}
use mathlib.Core.Logic.{dite}
use native.Mathlib.Decide.{ℕ_discrete}
use Rattle.ff_tables.specs.declared.orders.Order.{Order}
use Rattle.ff_tables.specs.declared.terms.Constraint.{Constraint}
use Rattle.ff_tables.specs.declared.givens.Given.{Given}
use Rattle.ff_tables.specs.Orders.{term_at}
use Rattle.ff_tables.specs.Forces.{Knows}
use Rattle.ff_tables.proofs.Agreeing.{forces_more}
use Rattle.ff_propagate.specs.declared.facts.Fact.{Fact}
use Rattle.ff_propagate.specs.declared.facts.Reason.TheVariants as by
use Rattle.ff_propagate.specs.declared.trail.Step.{Step}
use Rattle.ff_propagate.specs.declared.trail.Trail.{Trail}
use Rattle.ff_propagate.specs.Facts.{fact_at, value_at, seen, IsKnownBelow}
use Rattle.ff_propagate.specs.FactRule.{StandsBy}
use Rattle.ff_propagate.specs.Levels.{IsOver}
use Rattle.ff_propagate.specs.Telling.{AreTold}
use Rattle.ff_propagate.specs.Trails.{known, step_at, without, cut, IsTrail, IsForcedAt}
use Rattle.ff_propagate.proofs.Lists.{seen_is, seen_none}
use Rattle.ff_propagate.proofs.GivenSteps.{more_set}
use Rattle.ff_propagate.proofs.Ruling.{stands_grows}
use Rattle.ff_propagate.proofs.TrailSteps.{without_known}

-- what was known before a step
cut_at : (t : Trail) (i w : ℕ) → i < length t.steps.items
    → cut t i w ≡ (if (step_at t i).var == w then None else cut t (suc i) w)
cut_at t i w l = ap (λ ss. without (known t) ss w)
    (drop-cons t.steps.items i (record { var = 0; by = None }) l)

cut_same : (t : Trail) (i w : ℕ) → i < length t.steps.items → (step_at t i).var ≡ w → cut t i w ≡ None
cut_same t i w l e = cut_at t i w l
    ∙ ap (λ b. if b then None else cut t (suc i) w) (eq-eqb (step_at t i).var w e)

cut_other : (t : Trail) (i w : ℕ) → i < length t.steps.items → ((step_at t i).var ≡ w → ⊥)
    → cut t i w ≡ cut t (suc i) w
cut_other t i w l ne = cut_at t i w l
    ∙ ap (λ b. if b then None else cut t (suc i) w) (ne_eqb (step_at t i).var w ne)

same_fact : {g h : Fact} → Some g ≡ Some h → g ≡ h
same_fact e = cc

module _ (vars : ℕ) (cons : List Constraint) (gs : List Given) (t : Trail) (i : ℕ) (old : List (Option Fact))
    (k : ℕ) (is : IsTrail vars t) (l : i < length t.steps.items) (f : IsForcedAt cons t i)
    (told : AreTold vars cons gs t i old)
  where
    abbrev here : ℕ
    here = (step_at t i).var

    abbrev fact : Fact
    fact = record { value = f.value; level = k; reason = by.Forced f.number }

    abbrev new : List (Option Fact)
    new = set old here (Some fact)

    pub none_yet : fact_at old here ≡ None
    none_yet = seen_none (fact_at old here) (told.same here ∙ cut_same t i here l refl)

    within : here < length old
    within = let r = is.stepped i l in omega (arith, r, told.wide)

    at_here : fact_at new here ≡ Some fact
    at_here = get_or-set_same old here (Some fact) None within

    at_other : (u : ℕ) → (u ≡ here → ⊥) → fact_at new u ≡ fact_at old u
    at_other u ne = get_or-set_other old here u (Some fact) None ne

    -- each fact is the new one or an old one
    either : (Q : ℕ → Fact → Type 0) → Q here fact → ((u : ℕ) (g : Fact) → fact_at old u ≡ Some g → Q u g)
        → (u : ℕ) (g : Fact) → fact_at new u ≡ Some g → Q u g
    either Q first rest u g at = dite (ℕ_discrete u here)
        (λ e. subst (λ n. Q n g) (sym e)
        (subst (Q here) (same_fact (sym at_here ∙ ap (fact_at new) (sym e) ∙ at)) first))
        (λ ne. rest u g (sym (at_other u ne) ∙ at))

    pub told_on : 0 < k → IsOver old f.constraint.terms k → k ≤ i + 1 → AreTold vars cons gs t (suc i) new
    told_on some over most = record {
      wide = length-set old here (Some fact) ∙ told.wide;
      rule = either (λ u g. StandsBy cons gs new u g.value g.level g.reason)
          (stands_grows cons gs old new (more_set old here fact none_yet) here f.value k (by.Forced f.number) (
            some,
            record {
              constraint = f.constraint;
              there = f.there;
              forces = forces_more f.constraint.kind f.constraint.terms (Knows (cut t i)) (IsKnownBelow old k) here
                  f.value
                  (λ j x m q.
                  let v = (term_at f.constraint.terms j).var in
                  let h = seen_is (fact_at old v) x (told.same v ∙ q) in
                  record { fact = h.0; there = h.1; lower = over j h.0 m h.1; value = h.2 })
                  f.forces;
            },
          ))
          (λ u g at. stands_grows cons gs old new (more_set old here fact none_yet) u g.value g.level g.reason
          (told.rule u g at));
      low = either (λ u g. g.level ≤ suc i) (omega (arith, most)) (λ u g at. let r = told.low u g at in omega (arith, r));
      same = λ w. dite (ℕ_discrete w here)
          (λ e. ap (value_at new) e ∙ ap seen at_here ∙ sym f.given ∙ ap (cut t (suc i)) (sym e))
          (λ ne. ap seen (at_other w ne) ∙ told.same w ∙ cut_other t i w l (λ e. ne (sym e)));
    }

-- the fact that is noted, from what was read of the step
pub told_by : (vars : ℕ) (cons : List Constraint) (gs : List Given) (t : Trail) (i : ℕ)
    (old : List (Option Fact)) → IsTrail vars t → i < length t.steps.items → (f : IsForcedAt cons t i)
    → AreTold vars cons gs t i old → (step : Step) → step ≡ step_at t i → (c : ℕ) → step.by ≡ Some c
    → (v : Order) → known t step.var ≡ Some v → (con : Constraint) → slice_get cons c ≡ Some con
    → (k : ℕ) → 0 < k → IsOver old con.terms k → k ≤ i + 1
    → AreTold vars cons gs t (i + 1)
    (set old step.var (Some (record { value = v; level = k; reason = by.Forced c })))
told_by vars cons gs t i old is l f told step read c by_c v known_v con there k some over most =
    let number : f.number ≡ c = some_same (sym f.by_number ∙ ap (λ (x : Step). x.by) (sym read) ∙ by_c) in
    let value : f.value ≡ v = some_same
    (sym (without_known (known t) (drop (suc i) t.steps.items) (step_at t i).var f.value f.given)
    ∙ ap (λ (x : Step). known t x.var) (sym read) ∙ known_v) in
    let same : con ≡ f.constraint = some_same (sym there ∙ ap (slice_get cons) (sym number) ∙ f.there) in
    let r = told_on vars cons gs t i old k is l f told some
    (subst (λ (d : Constraint). IsOver old d.terms k) same over) most in
    subst (λ n. AreTold vars cons gs t n (set old step.var (Some (record { value = v; level = k; reason = by.Forced c }))))
    (sym (add-one i))
    (subst (λ (fs : List (Option Fact)). AreTold vars cons gs t (suc i) fs)
    (ap (λ (x : Step). set old x.var (Some (record { value = f.value; level = k; reason = by.Forced f.number }))) (sym read)
    ∙ ap (λ (x : Order). set old step.var (Some (record { value = x; level = k; reason = by.Forced f.number }))) value
    ∙ ap (λ n. set old step.var (Some (record { value = v; level = k; reason = by.Forced n }))) number) r)

-- a forced step has its value
pub forced_known : (cons : List Constraint) (t : Trail) (i : ℕ) (f : IsForcedAt cons t i)
    → known t (step_at t i).var ≡ Some f.value
forced_known cons t i f = without_known (known t) (drop (suc i) t.steps.items) (step_at t i).var f.value f.given

-- the constraint of a forced step is one of them
pub number_within : (cons : List Constraint) (t : Trail) (i : ℕ) → IsForcedAt cons t i → (step : Step)
    → step ≡ step_at t i → (c : ℕ) → step.by ≡ Some c → c < length cons
number_within cons t i f step read c by_c = subst (λ n. n < length cons)
    (some_same (sym f.by_number ∙ ap (λ (x : Step). x.by) (sym read) ∙ by_c))
    (slice_get_within cons f.number f.constraint f.there)
