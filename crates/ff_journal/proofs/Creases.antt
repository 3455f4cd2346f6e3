-- The first crease on a variable is the least.
use Rattle.std.proofs.Common.{◌≡◌, ℕ, ◌+◌, ◌<◌, ◌≤◌, ◌==◌, ◌⊎◌, Bool, true, false, cond, List, length, get_or, slice_get, sym, refl, ap, ◌∙◌, subst, inl, inr, arith, Some, None}
use Rattle.std.proofs.lemmas.Bool.{eqb-true, eq-eqb, cases_order}
use Rattle.std.proofs.lemmas.Option.{slice_get-get_or, slice_get_within}
use mathlib.Core.Logic.{dite}
use native.Mathlib.Decide.{ℕ_discrete}
use Rattle.ff_tables.specs.declared.givens.Given.{Given}
use Rattle.ff_tables.specs.declared.givens.GivenBy.{GivenBy}
use Rattle.ff_tables.specs.declared.givens.GivenBy.TheVariants.{Crease, Pin}
use Rattle.ff_types.specs.declared.cases.Case.{Case}
use Rattle.ff_journal.specs.Premises.{crease_by, crease_if}
use Rattle.ff_journal.specs.Reasons.{IsCreaseOn, IsLeastCrease, HasNoCrease}

chosen : {X : Type 0} → (b : Bool) (x y z : X) → cond b x y ≡ z → ((b ≡ true) × (x ≡ z)) ⊎ ((b ≡ false) × (y ≡ z))
chosen true x y z h = inl (refl, h)
chosen false x y z h = inr (refl, h)

by_is : (b : GivenBy) (e : ℕ) → crease_by b ≡ Some e → b ≡ Crease e
by_is (Crease d) e h = ap Crease (same h)
  where
    same : Some d ≡ Some e → d ≡ e
    same q = cc
by_is Pin e h = cc

crease_is : (n : ℕ) (g : Given) (e : ℕ) → crease_if n g ≡ Some e → (g.var ≡ n) × (g.by ≡ Crease e)
crease_is n g e h = elim (chosen (g.var == n) (crease_by g.by) None (Some e) h) [
  | inl (t, x) ↦ (eqb-true g.var n t, by_is g.by e x)
  | inr (t, x) ↦ absurd (nothing x)
]
  where
    nothing : None ≡ Some e → ⊥
    nothing q = cc

is_crease : (n : ℕ) (g : Given) (e : ℕ) → g.var ≡ n → g.by ≡ Crease e → crease_if n g ≡ Some e
is_crease n g e v b = ap (λ t. cond t (crease_by g.by) None) (eq-eqb g.var n v) ∙ ap crease_by b

-- none of the first i starts is a crease on the variable
abbrev pub NoneYet : List Given → ℕ → ℕ → Type 0
NoneYet starts n i = (k : ℕ) (g : Given) → k < i → slice_get starts k ≡ Some g → crease_if n g ≡ None

same_given : {a b : Given} → Some a ≡ Some b → a ≡ b
same_given e = cc

clash : (n : ℕ) (g : Given) (e : ℕ) → crease_if n g ≡ Some e → crease_if n g ≡ None → ⊥
clash n g e s t = no (sym t ∙ s)
  where
    no : None ≡ Some e → ⊥
    no q = cc

pub none_more : (starts : List Given) (n i : ℕ) (d : Given) → i < length starts → NoneYet starts n i
    → crease_if n (get_or starts i d) ≡ None → NoneYet starts n (i + 1)
none_more starts n i d l none here k g m is = dite (ℕ_discrete k i)
    (λ e. subst (λ x. crease_if n x ≡ None) (same_given (sym (slice_get-get_or starts i d l) ∙ ap (slice_get starts) (sym e) ∙ is)) here)
    (λ ne. none k g (omega (arith, m, ne)) is)

-- the first crease is the least
pub least_found : (case : Case) (starts : List Given) (n i e : ℕ) (d : Given) → starts ≡ case.starts → i < length starts
    → NoneYet starts n i → crease_if n (get_or starts i d) ≡ Some e → IsLeastCrease case.starts n e
least_found case starts n i e d same l none here = record { crease = crease; least = least }
  where
    there : slice_get case.starts i ≡ Some (get_or starts i d)
    there = subst (λ xs. slice_get xs i ≡ Some (get_or starts i d)) same (slice_get-get_or starts i d l)

    is : ((get_or starts i d).var ≡ n) × ((get_or starts i d).by ≡ Crease e)
    is = crease_is n (get_or starts i d) e here

    crease : IsCreaseOn case.starts n e
    crease = record { place = i; start = get_or starts i d; there = there; of_variable = is.0; by_crease = is.1 }

    earlier : (f : ℕ) (c : IsCreaseOn case.starts n f) → c.place < i → ⊥
    earlier f c m = clash n c.start f (is_crease n c.start f c.of_variable c.by_crease)
        (none c.place c.start m (subst (λ xs. slice_get xs c.place ≡ Some c.start) (sym same) c.there))

    same_number : (a b : ℕ) → Crease a ≡ Crease b → a ≡ b
    same_number a b q = cc

    least : (f : ℕ) → IsCreaseOn case.starts n f → e ≤ f
    least f c = elim (cases_order c.place i) [
      | inl q ↦
          let g : c.start ≡ get_or starts i d = same_given (sym c.there ∙ ap (slice_get case.starts) q ∙ there) in
          let k : f ≡ e = same_number f e (sym c.by_crease ∙ ap (λ (x : Given). x.by) g ∙ is.1) in
          omega (arith, k)
      | inr (inl m) ↦ absurd (earlier f c m)
      | inr (inr m) ↦
          let r : e < f = case.valid.rising i c.place (get_or starts i d) c.start e f m there c.there is.1 c.by_crease in
          omega (arith, r)
    ]

pub none_found : (case : Case) (starts : List Given) (n i : ℕ) → starts ≡ case.starts → length starts ≤ i → NoneYet starts n i
    → HasNoCrease case.starts n
none_found case starts n i same l none e c =
    let there : slice_get starts c.place ≡ Some c.start = subst (λ xs. slice_get xs c.place ≡ Some c.start) (sym same) c.there in
    let m = slice_get_within starts c.place c.start there in
    clash n c.start e (is_crease n c.start e c.of_variable c.by_crease) (none c.place c.start (omega (arith, m, l)) there)
