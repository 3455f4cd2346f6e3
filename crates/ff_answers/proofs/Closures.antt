-- A closure that doesn't clash can't fail to be given by facts.
use Rattle.std.proofs.Common.{◌≡◌, ◌⊎◌, inl, inr, ℕ, ◌<◌, ◌≤◌, List, length, map, nat_lt, Option, Some, None, refl, sym, ap, subst, ◌∙◌, arith}
use Rattle.std.specs.List.{range_with_len}
use Rattle.std.proofs.lemmas.Bool.{ltb-true, lt-ltb}
use Rattle.std.proofs.lemmas.List.{length-map, get_or_past}
use Rattle.std.proofs.lemmas.List.FromFn.{length-range_with_len, get_or-map-range_with_len}
use Rattle.ff_tables.specs.declared.orders.Order.{Order}
use Rattle.ff_tables.specs.declared.orders.Order.TheVariants.{Below, Above}
use Rattle.ff_tables.specs.declared.terms.Constraint.{Constraint}
use Rattle.ff_tables.specs.declared.givens.Given.{Given}
use Rattle.ff_tables.specs.Systems.{AreFit}
use Rattle.ff_tables.specs.Forces.{Knows}
use Rattle.ff_propagate.specs.declared.facts.Fact.{Fact}
use Rattle.ff_propagate.specs.declared.facts.Reason.TheVariants as reason
use Rattle.ff_propagate.specs.Facts.{fact_at, seen, value_at}
use Rattle.ff_propagate.specs.Closure.{InClosure, Clashes, IsClosure, Gives}
use Rattle.ff_answers.specs.Ends.{AreOfVariables}
use Rattle.ff_answers.proofs.Deciding.{either_way, each_below}

module _ (vars : ℕ) (cons : List Constraint) (fit : AreFit vars cons) (gs : List Given) (of_vars : AreOfVariables vars gs) where
  abbrev Has : ℕ → Order → Type 0
  Has v s = InClosure cons (Gives gs) v s

  -- nothing but variables has a value
  pub within : (v : ℕ) (s : Order) → Has v s → v < vars
  within v s h = ltb-true v vars (h (λ u t. nat_lt u vars) (record {
    base_held = λ u t (i, is). lt-ltb u vars (let l = of_vars i is.given is.there in omega (arith, l, is.variable));
    forced_held = λ c con u t there (p, l, e, only). lt-ltb u vars (let w = (fit c con there).within p l in omega (arith, w, e));
  }))

  -- it has a value of the variable, or none
  abbrev IsSettled : ℕ → Type 0
  IsSettled v = ((s : Order) × Has v s) ⊎ ((s : Order) → Has v s → ⊥)

  settled : (v : ℕ) → (IsSettled v → ⊥) → ⊥
  settled v k = either_way ((s : Order) × Has v s) by where
    by : ((s : Order) × Has v s) ⊎ (((s : Order) × Has v s) → ⊥) → ⊥
    by (inl h) = k (inl h)
    by (inr n) = k (inr (λ s h. n (s, h)))

  module _ (none : Clashes cons (Gives gs) → ⊥) (all : (v : ℕ) → v < vars → IsSettled v) where
    one_value : (v : ℕ) (s t : Order) → Has v s → Has v t → s ≡ t
    one_value v Below Below a b = refl
    one_value v Below Above a b = absurd (none (record { variable = v; below = a; above = b }))
    one_value v Above Below a b = absurd (none (record { variable = v; below = b; above = a }))
    one_value v Above Above a b = refl

    in_or_out : (v : ℕ) → (v < vars) ⊎ (vars ≤ v)
    in_or_out v = grind arith

    abbrev of_settled : (v : ℕ) → IsSettled v → Option Fact
    of_settled v (inl (s, h)) = Some (record { value = s; level = 0; reason = reason.Given 0 })
    of_settled v (inr n) = None

    abbrev fact_by : (v : ℕ) → (v < vars) ⊎ (vars ≤ v) → Option Fact
    fact_by v (inl l) = of_settled v (all v l)
    fact_by v (inr l) = None

    fact_of : ℕ → Option Fact
    fact_of v = fact_by v (in_or_out v)

    facts : List (Option Fact)
    facts = map fact_of (range_with_len 0 vars)

    wide : length facts ≡ vars
    unfolding facts
    wide = length-map (range_with_len 0 vars) fact_of ∙ length-range_with_len 0 vars

    fact_is : (v : ℕ) → v < vars → fact_at facts v ≡ fact_of v
    unfolding facts
    fact_is v l = get_or-map-range_with_len fact_of 0 vars v v None l (omega arith)

    no_fact : (v : ℕ) → vars ≤ v → fact_at facts v ≡ None
    no_fact v l = get_or_past facts v None (let w = wide in omega (arith, w, l))

    none_some : {A : Type 0} (s : Order) → None ≡ Some s → A
    none_some s e = cc

    some_same : (s t : Order) → Some s ≡ Some t → s ≡ t
    some_same s t e = cc

    known : (v : ℕ) (s : Order) (x : IsSettled v) → seen (of_settled v x) ≡ Some s → Has v s
    known v s (inl (t, h)) e = subst (Has v) (some_same t s e) h
    known v s (inr n) e = none_some s e

    has_value : (v : ℕ) (s : Order) (x : IsSettled v) → Has v s → seen (of_settled v x) ≡ Some s
    has_value v s (inl (t, h)) k = ap Some (one_value v t s h k)
    has_value v s (inr n) k = absurd (n s k)

    to : (v : ℕ) (s : Order) (o : (v < vars) ⊎ (vars ≤ v)) → in_or_out v ≡ o → Knows (value_at facts) v s → Has v s
    unfolding fact_of
    to v s (inl l) q e = known v s (all v l) (sym (ap seen (fact_is v l ∙ ap (fact_by v) q)) ∙ e)
    to v s (inr l) q e = none_some s (sym (ap seen (no_fact v l)) ∙ e)

    back : (v : ℕ) (s : Order) (o : (v < vars) ⊎ (vars ≤ v)) → in_or_out v ≡ o → Has v s → Knows (value_at facts) v s
    unfolding fact_of
    back v s (inl l) q h = ap seen (fact_is v l ∙ ap (fact_by v) q) ∙ has_value v s (all v l) h
    back v s (inr l) q h = absurd (let w = within v s h in omega (arith, w, l))

    closure : IsClosure cons (Gives gs) (value_at facts)
    closure v s = (to v s (in_or_out v) refl, back v s (in_or_out v) refl)

  pub some_facts : (Clashes cons (Gives gs) → ⊥) → ((facts : List (Option Fact)) → length facts ≡ vars
      → IsClosure cons (Gives gs) (value_at facts) → ⊥) → ⊥
  some_facts none k = each_below vars IsSettled (λ v l. settled v) (λ all. k (facts none all) (wide none all) (closure none all))
