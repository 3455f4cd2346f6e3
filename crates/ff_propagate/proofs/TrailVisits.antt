-- The constraints of one variable are visited.
use Rattle.std.proofs.Common.{List, get_or, ◌≡◌, ℕ, ◌+◌, ◌<◌, ◌≤◌, ◌⊎◌, length, slice_get, slice_index, Option, Some, sym, ap, ◌∙◌, subst, inl, inr, arith}
use Rattle.std.proofs.lemmas.Option.{slice_get_within, slice_get-get_or}
use Rattle.std.proofs.lemmas.Bool.{cases_eq}
use Rattle.ff_basics.proofs.Numbers.{scan}
use Rattle.ff_basics.proofs.Options.{same_value}
use Rattle.ff_tables.specs.declared.orders.Order.{Order}
use Rattle.ff_tables.specs.declared.terms.Constraint.{Constraint}
use Rattle.ff_tables.specs.Orders.{term_at}
use Rattle.ff_tables.specs.Forces.{Knows}
use Rattle.ff_propagate.specs.Uses.{IsUse, IsFrom, IsIn}
use Rattle.ff_tables.proofs.Agreeing.{forces_more}
use Rattle.ff_propagate.specs.declared.trail.Step.{Step}
use Rattle.ff_propagate.specs.declared.trail.Trail.{Trail}
use Rattle.ff_propagate.specs.Trails.{known, step_at, Grows, IsSilent, Rests, AreReadyBelow, AreReady}

-- where the values of its terms are the same, a constraint stays silent
pub silent_same : (con : Constraint) (f g : ℕ → Option Order)
    → ((j : ℕ) → j < length con.terms → g (term_at con.terms j).var ≡ f (term_at con.terms j).var)
    → IsSilent f con → IsSilent g con
silent_same con f g same quiet v s (p, l, e, only) =
    ap g (sym e) ∙ same p l ∙ ap f e
    ∙ quiet v s
    (forces_more con.kind con.terms (Knows g) (Knows f) v s (λ j t m q. sym (same j m) ∙ q)
    (p, l, e, only))

pub keeps : (cons : List Constraint) (old new : Trail) (head : ℕ) (con : Constraint) → Grows cons old new
    → head ≤ length old.steps.items → Rests old head con → Rests new head con
keeps cons old new head con x h
    (inl (i, j, a, b, l, e)) = inl (i, j, a, omega (arith, b, x.count), l, ap (λ (z : Step). z.var) (x.front i b) ∙ e)
keeps cons old new head con x h (inr quiet) = elim (scan
    (λ j. known new (term_at con.terms j).var ≡ known old (term_at con.terms j).var)
    (λ j. (i : ℕ) × (length old.steps.items ≤ i) × (i < length new.steps.items)
    × ((step_at new i).var ≡ (term_at con.terms j).var))
    (length con.terms) (λ j. x.changed (term_at con.terms j).var)) [
      | inl r ↦ inl (r.2.0, r.0, omega (arith, h, r.2.1), r.2.2, r.1, r.2.3)
      | inr same ↦ inr (silent_same con (known old) (known new) same quiet)
    ]

-- each constraint rests, or is left to be visited
abbrev pub Almost : List Constraint → Trail → ℕ → List ℕ → ℕ → Type 0
Almost cons t head list k = (c : ℕ) (con : Constraint) → slice_get cons c ≡ Some con
    → Rests t head con ⊎ IsFrom list k c

pub begins : (cons : List Constraint) (t : Trail) (head v : ℕ) (list : List ℕ) → (step_at t head).var ≡ v
    → AreReady cons t head → ((d : ℕ) → IsUse cons d v → IsIn list d) → Almost cons t (head + 1) list 0
begins cons t head v list here ready each c con at = sort (ready c con at)
  where
    sort : Rests t head con → Rests t (head + 1) con ⊎ IsFrom list 0 c
    sort (inr q) = inl (inr q)
    sort (inl (i, j, a, b, l, e)) = elim (cases_eq i head) [
      | inl s ↦ inr (each c (record {
        con = con;
        there = at;
        place = j;
        within = l;
        var = sym e ∙ ap (λ n. (step_at t n).var) s ∙ here;
      }))
      | inr ne ↦ inl (inl (i, j, omega (arith, a, ne), b, l, e))
    ]

-- one constraint is visited
pub visits : (cons : List Constraint) (old new : Trail) (head k n : ℕ) (list : List ℕ) → Grows cons old new
    → head ≤ length old.steps.items → slice_index list k ≡ n → Almost cons old head list k
    → ((con : Constraint) → slice_get cons n ≡ Some con → Rests new (length old.steps.items) con)
    → Almost cons new head list (k + 1)
visits cons old new head k n list x h is almost here c con at = sort (almost c con at)
  where
    lower : Rests new (length old.steps.items) con → Rests new head con
    lower (inl (i, j, a, b, l, e)) = inl (i, j, omega (arith, a, h), b, l, e)
    lower (inr q) = inr q

    sort : Rests old head con ⊎ IsFrom list k c → Rests new head con ⊎ IsFrom list (k + 1) c
    sort (inl p) = inl (keeps cons old new head con x h p)
    sort (inr (j, l, m, e)) = elim (cases_eq j k) [
      | inl s ↦ inl (lower (here con (ap (slice_get cons) (sym is ∙ ap (slice_index list) (sym s) ∙ e) ∙ at)))
      | inr ne ↦ inr (j, omega (arith, l, ne), m, e)
    ]

pub ends : (cons : List Constraint) (t : Trail) (head k : ℕ) (list : List ℕ) → length list ≤ k
    → Almost cons t head list k → AreReady cons t head
ends cons t head k list z almost c con at = sort (almost c con at)
  where
    sort : Rests t head con ⊎ IsFrom list k c → Rests t head con
    sort (inl p) = p
    sort (inr (j, a, b, e)) = absurd (omega (arith, a, b, z))

pub con_read : (cons cs : List Constraint) (k : ℕ) (con : Constraint) → cs ≡ cons → k < length cons
    → con ≡ get_or cs k con → slice_get cons k ≡ Some con
con_read cons cs k con same l is = slice_get-get_or cons k con l
    ∙ ap (λ d. Some d) (sym (is ∙ ap (λ ds. get_or ds k con) same))

-- a constraint that waits for a later step waits for an earlier one
lower : (t : Trail) (head first : ℕ) (con : Constraint) → first ≤ head → Rests t head con → Rests t first con
lower t head first con h (inl (i, j, a, b, l, e)) = inl (i, j, omega (arith, a, h), b, l, e)
lower t head first con h (inr q) = inr q

-- one constraint more is examined
pub passes_on : (cons : List Constraint) (old new : Trail) (head n : ℕ) (con : Constraint) → Grows cons old new
    → head ≤ length old.steps.items → slice_get cons n ≡ Some con → Rests new (length old.steps.items) con
    → AreReadyBelow cons old head n → AreReadyBelow cons new head (n + 1)
passes_on cons old new head n con x h there rests ready c d l at = elim (cases_eq c n) [
  | inl e ↦ lower new (length old.steps.items) head d h
      (subst (λ (z : Constraint). Rests new (length old.steps.items) z)
      (same_value there (ap (slice_get cons) (sym e) ∙ at)) rests)
  | inr ne ↦ keeps cons old new head d x h (ready c d (omega (arith, l, ne)) at)
]

pub passed : (cons : List Constraint) (t : Trail) (head n : ℕ) → length cons ≤ n → AreReadyBelow cons t head n
    → AreReady cons t head
passed cons t head n l ready c con at = ready c con (omega (arith, l, slice_get_within cons c con at)) at
