-- A given is set.
use Rattle.std.proofs.Common.{List, ◌≡◌, ℕ, ◌+◌, ◌<◌, length, set, slice_get, Some, None, Option, sym, ap, ◌∙◌, subst, arith}
use Rattle.std.proofs.lemmas.List.{get_or-set_same, get_or-set_other}
use Rattle.ff_basics.proofs.Options.{same_value}
use mathlib.Core.Logic.{dite}
use native.Mathlib.Decide.{ℕ_discrete}
use Rattle.ff_propagate.specs.declared.facts.Fact.{Fact}
use Rattle.ff_tables.specs.declared.givens.Given.{Given}
use Rattle.ff_propagate.specs.declared.facts.Reason.TheVariants as by
use Rattle.ff_propagate.specs.Facts.{fact_at}
use Rattle.ff_propagate.specs.RuleLaws.{HasFacts}
use Rattle.ff_propagate.specs.Closing.{IsFirstContradiction}
use Rattle.ff_propagate.specs.Giving.{HasGivens, Contradicts, Agreed}

some_none : {A : Type 0} {o : Option A} {g : A} → o ≡ Some g → o ≡ None → ⊥
some_none p q = cc

-- a further fact leaves the others
pub more_set : (fs : List (Option Fact)) (v : ℕ) (h : Fact) → fact_at fs v ≡ None
    → HasFacts (set fs v (Some h)) fs
more_set fs v h none u g at = dite (ℕ_discrete u v)
    (λ e. absurd (some_none (ap (fact_at fs) (sym e) ∙ at) none))
    (λ ne. get_or-set_other fs v u (Some h) None ne ∙ at)

pub given_step : (gs : List Given) (fs : List (Option Fact)) (i : ℕ) (g : Given) → slice_get gs i ≡ Some g
    → g.var < length fs → fact_at fs g.var ≡ None → HasGivens gs i fs
    → HasGivens gs (i + 1) (set fs g.var (Some (record { value = g.value; level = 0; reason = by.Given i })))
given_step gs fs i g at l none gives =
    let h : Fact = record { value = g.value; level = 0; reason = by.Given i } in
    let here : fact_at (set fs g.var (Some h)) g.var ≡ Some h = get_or-set_same fs g.var (Some h) None l in
    record {
      all = λ k f lt is_f. dite (ℕ_discrete k i)
          (λ e. (
            h,
            ap (λ (x : Given). fact_at (set fs g.var (Some h)) x.var)
                (same_value is_f (ap (slice_get gs) e ∙ at)) ∙ here,
          ))
          (λ ne. let old = gives.all k f (omega (arith, lt, ne)) is_f in
          (old.0, more_set fs g.var h none f.var old.0 old.1));
      by = λ v f is_f. dite (ℕ_discrete v g.var)
          (λ e.
          let same : f ≡ h = same_value is_f (ap (fact_at (set fs g.var (Some h))) e ∙ here) in (
            i,
            omega arith,
            (λ k x lt at_k var. let old = gives.all k x lt at_k in some_none old.1
                (ap (fact_at fs) (var ∙ e) ∙ none)),
            (
              ap (λ (x : Fact). x.reason) same,
              ap (λ (x : Fact). x.level) same,
              record { given = g; there = at; variable = sym e; value = sym (ap (λ (x : Fact). x.value) same) },
            ),
          ))
          (λ ne. let old = gives.by v f (sym (get_or-set_other fs g.var v (Some h) None ne) ∙ is_f) in
          (old.0, omega (arith, old.1), old.2, old.3));
    }

-- one given more
pub agreed_on : (gs : List Given) (n : ℕ) (old new : List (Option Fact)) (g : Given) → HasFacts new old
    → HasGivens gs n old → Agreed gs n old → slice_get gs n ≡ Some g
    → ((h : Fact) → fact_at new g.var ≡ Some h → h.value ≡ g.value) → Agreed gs (n + 1) new
agreed_on gs n old new g more gives before at here i f lt is_f h is_h = dite (ℕ_discrete i n)
    (λ e. let same : f ≡ g = same_value is_f (ap (slice_get gs) e ∙ at) in
    subst (λ (z : Given). fact_at new z.var ≡ Some h → h.value ≡ z.value) (sym same) (here h) is_h)
    (λ ne. let l : i < n = omega (arith, lt, ne) in
    let o = gives.all i f l is_f in
    let same : o.0 ≡ h = same_value (more f.var o.0 o.1) is_h in
    before i f l is_f h (o.1 ∙ ap Some same))

pub first_clash : (gs : List Given) (n j : ℕ) (fs : List (Option Fact)) (g : Given) → HasGivens gs n fs
    → Agreed gs n fs → slice_get gs n ≡ Some g → Contradicts gs g n j → IsFirstContradiction gs j n
first_clash gs n j fs g gives agreed at c = record {
  g = c.one;
  h = g;
  g_there = c.is;
  h_there = at;
  in_order = c.earlier;
  contradict = (c.var, c.differ);
  least_first = λ i f lt is_f both. c.first i f lt is_f both.0;
  least_second = λ i k f h lt l is_f is_h both.
      let m : i < n = omega (arith, lt, l) in
      let a = gives.all i f m is_f in
      both.1 (sym (agreed i f m is_f a.0 a.1)
      ∙ agreed k h l is_h a.0 (ap (fact_at fs) (sym both.0) ∙ a.1));
}
