-- The facts of the givens, with the old facts that are kept, are the carried ones.
use Rattle.std.proofs.Common.{◌≡◌, ℕ, zero, suc, replicate, ◌+◌, ◌<◌, List, length, slice_get, sym, refl, ap, ◌∙◌, subst, arith, Option, Some, None}
use mathlib.Core.Logic.{dite}
use native.Mathlib.Decide.{ℕ_discrete, dec_lt}
use Rattle.std.proofs.lemmas.Option.{slice_get_within}
use Rattle.ff_tables.specs.declared.orders.Order.{Order}
use Rattle.ff_tables.specs.declared.terms.Constraint.{Constraint}
use Rattle.ff_tables.specs.declared.givens.Given.{Given}
use Rattle.ff_propagate.specs.declared.facts.Fact.{Fact}
use Rattle.ff_propagate.specs.declared.facts.Reason.TheVariants as by
use Rattle.ff_propagate.specs.Facts.{fact_at}
use Rattle.ff_propagate.specs.Agreeing.{Agree}
use Rattle.ff_propagate.specs.Giving.{HasGivens, Agreed, IsFactBy}
use Rattle.ff_carry.specs.Carrying.{NoGiven, IsFirstGiven, IsCarried}
use Rattle.ff_carry.specs.Keeping.{AreKept}
use Rattle.ff_carry.proofs.Kept.{same_fact, some_none}

one_given : (x : Option Given) (g h : Given) → x ≡ Some g → x ≡ Some h → g ≡ h
one_given x g h a b = cc

-- the fact by the i-th given
is_given : (gs : List Given) (v i : ℕ) (g : Given) (h : Fact) → slice_get gs i ≡ Some g → IsFactBy gs v h i
    → h ≡ record { value = g.value; level = 0; reason = by.Given i }
is_given gs v i g h at f =
    let same : f.2.given ≡ g = one_given (slice_get gs i) f.2.given g f.2.there at in
    let value : h.value ≡ g.value = sym f.2.value ∙ ap (λ (x : Given). x.value) same in
    λ k. record { value = value k; level = f.1 k; reason = f.0 k }

module _ (gs : List Given) (base : List (Option Fact)) (firsts : HasGivens gs (length gs) base) where
  -- givens that have the values of the facts of their variables agree
  pub agree : Agreed gs (length gs) base → Agree gs
  agree agreed i j g h at there clash =
      let a = firsts.all i g (slice_get_within gs i g at) at in let b = firsts.all j h (slice_get_within gs j h there) there in
      let same : a.0 ≡ b.0 = same_fact (fact_at base g.var) a.0 b.0 a.1 (ap (fact_at base) clash.0 ∙ b.1) in
      clash.1 (sym (agreed i g (slice_get_within gs i g at) at a.0 a.1) ∙ (ap (λ (x : Fact). x.value) same
      ∙ agreed j h (slice_get_within gs j h there) there b.0 b.1))

  first_fact : (v i : ℕ) (g : Given) → IsFirstGiven gs v i g
      → fact_at base v ≡ Some (record { value = g.value; level = 0; reason = by.Given i })
  first_fact v i g f =
      let q = firsts.all i g (slice_get_within gs i g f.there) f.there in
      let at : fact_at base v ≡ Some q.0 = ap (fact_at base) (sym f.variable) ∙ q.1 in
      let k = firsts.by v q.0 at in
      let given = k.3.2 in
      let same : k.0 ≡ i = dite (ℕ_discrete k.0 i) (λ e. e) (λ d. elim (dec_lt k.0 i) [
        | yes l ↦ absurd (f.first k.0 given.given l given.there given.variable)
        | no n ↦ absurd (k.2 i g (omega arith) f.there f.variable)
      ]) in
      at ∙ ap Some (is_given gs v i g q.0 f.there (subst (IsFactBy gs v q.0) same k.3))

  no_fact : (v : ℕ) (x : Option Fact) → fact_at base v ≡ x → NoGiven gs v → fact_at base v ≡ None
  no_fact v None e none = e
  no_fact v (Some h) e none = let f = firsts.by v h e in absurd (none f.0 f.3.2.given f.3.2.there f.3.2.variable)

  pub carried : (vars : ℕ) (cons : List Constraint) (old new : List (Option Fact)) → length base ≡ vars → AreKept cons base old new
      → IsCarried vars cons gs old new
  carried vars cons old new wide kept = record {
    wide = kept.wide ∙ wide;
    given = λ v i g f. kept.based v _ (first_fact v i g f);
    forced = λ v h none. let free = no_fact v (fact_at base v) refl none in (kept.sound v h free, kept.all v h free);
  }

nones : (n v : ℕ) (h : Fact) → fact_at (replicate n None) v ≡ Some h → ⊥
nones zero v h e = some_none None h refl e
nones (suc n) zero h e = some_none None h refl e
nones (suc n) (suc v) h e = nones n v h e

-- a list without facts has the facts of none of the givens
pub no_firsts : (gs : List Given) (n : ℕ) → HasGivens gs 0 (replicate n None)
no_firsts gs n = record {
  all = λ i g b at. absurd (omega arith);
  by = λ v h e. absurd (nones n v h e);
}
