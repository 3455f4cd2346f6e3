-- The facts that an epoch is opened with.
use Rattle.std.proofs.Common.{◌≡◌, ◌≢◌, ℕ, zero, suc, ◌+◌, ◌<◌, List, length, get_or, replicate, slice_get, slice_set, sym, refl, ap, ◌∙◌, subst, arith, Option, Some, None}
use Rattle.std.proofs.lemmas.List.{get_or-set_same, get_or-set_other, length-set, get_or_default}
use Rattle.std.proofs.lemmas.Option.{slice_get-get_or}
use mathlib.Core.Logic.{dite}
use native.Mathlib.Decide.{ℕ_discrete}
use Rattle.ff_tables.specs.declared.givens.Given.{Given}
use Rattle.ff_propagate.specs.declared.facts.Fact.{Fact}
use Rattle.ff_propagate.specs.declared.facts.Reason.TheVariants as reason
use Rattle.ff_propagate.specs.Facts.{fact_at}
use Rattle.ff_propagate.specs.Closing.{GivensFit}
use Rattle.ff_core.specs.States.{AreOpeningTo, IsFirstGiven}

none_at : (n v : ℕ) → fact_at (replicate n None) v ≡ None
none_at zero v = refl
none_at (suc n) zero = refl
none_at (suc n) (suc v) = none_at n v

no_fact : (h : Fact) → None ≡ Some h → ⊥
no_fact h e = cc

some_given : {a b : Given} → Some a ≡ Some b → a ≡ b
some_given e = cc

some_fact : {a b : Fact} → Some a ≡ Some b → a ≡ b
some_fact e = cc

-- a variable that has a fact keeps it
pub opened_kept : (vars : ℕ) (gs : List Given) (i : ℕ) (fs : List (Option Fact)) (d : Given) (h : Fact) → i < length gs
    → AreOpeningTo vars gs i fs → fact_at fs (get_or gs i d).var ≡ Some h → AreOpeningTo vars gs (i + 1) fs
opened_kept vars gs i fs d h l o at = record {
  wide = o.wide;
  given = o.given;
  all = λ k g m is. dite (ℕ_discrete k i)
      (λ e. (h, ap (λ (x : Given). fact_at fs x.var) (some_given (sym is ∙ ap (slice_get gs) e ∙ slice_get-get_or gs i d l)) ∙ at))
      (λ ne. o.all k g (omega (arith, m, ne)) is);
}

-- a variable without one gets the given's
pub opened_more : (vars : ℕ) (gs : List Given) (i : ℕ) (fs : List (Option Fact)) (d : Given) → i < length gs → GivensFit vars gs
    → AreOpeningTo vars gs i fs → fact_at fs (get_or gs i d).var ≡ None
    → AreOpeningTo vars gs (i + 1) (slice_set fs (get_or gs i d).var (Some (record { value = (get_or gs i d).value; level = 0; reason = reason.Given i })))
opened_more vars gs i fs d l fit o unset = record {
  wide = length-set fs g.var (Some h) ∙ o.wide;
  given = λ v k at. dite (ℕ_discrete v g.var)
      (λ e. subst (λ u. IsFirstGiven gs u k) (sym e) (subst (λ x. IsFirstGiven gs g.var x)
      (some_fact (sym (get_or-set_same fs g.var (Some h) None inside) ∙ ap (fact_at new) (sym e) ∙ at)) own))
      (λ ne. o.given v k (sym (get_or-set_other fs g.var v (Some h) None ne) ∙ at));
  all = λ k x m is. dite (ℕ_discrete x.var g.var)
      (λ e. (h, ap (fact_at new) e ∙ get_or-set_same fs g.var (Some h) None inside))
      (λ ne. let r = o.all k x (before k x m is ne) is in (r.0, get_or-set_other fs g.var x.var (Some h) None ne ∙ r.1));
}
  where
    g : Given
    g = get_or gs i d

    h : Fact
    h = record { value = g.value; level = 0; reason = reason.Given i }

    new : List (Option Fact)
    new = slice_set fs g.var (Some h)

    there : slice_get gs i ≡ Some g
    there = slice_get-get_or gs i d l

    inside : g.var < length fs
    inside = let a = fit i g there in let w = o.wide in omega (arith, a, w)

    own : IsFirstGiven gs g.var h
    own = record {
      place = i;
      given = g;
      there = there;
      of_variable = refl;
      first = λ k x m is e. let r = o.all k x m is in no_fact r.0 (sym unset ∙ ap (fact_at fs) (sym e) ∙ r.1);
      is = refl;
    }

    before : (k : ℕ) (x : Given) → k < i + 1 → slice_get gs k ≡ Some x → x.var ≢ g.var → k < i
    before k x m is ne = dite (ℕ_discrete k i)
        (λ e. absurd (ne (ap (λ (y : Given). y.var) (some_given (sym is ∙ ap (slice_get gs) e ∙ there)))))
        (λ q. omega (arith, m, q))

-- the given's fact, as it is read
pub read_at : (vars : ℕ) (gs : List Given) (i : ℕ) (fs : List (Option Fact)) (d : Given) (o : Option Fact) (h : Fact) → i < length gs
    → GivensFit vars gs → AreOpeningTo vars gs i fs → o ≡ get_or fs (get_or gs i d).var o → o ≡ Some h → fact_at fs (get_or gs i d).var ≡ Some h
read_at vars gs i fs d o h l fit open_to read is =
    let a = fit i (get_or gs i d) (slice_get-get_or gs i d l) in let w = open_to.wide in
    get_or_default fs (get_or gs i d).var None o (omega (arith, a, w)) ∙ sym read ∙ is
