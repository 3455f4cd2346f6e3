-- A new desk.
use Rattle.std.proofs.Common.{◌≡◌, ℕ, zero, suc, ◌+◌, ◌*◌, ◌^◌, ◌<◌, ◌≤◌, Bool, List, [], ◌∷◌, ◌++◌, length, replicate, slice_get, sym, refl, ap, ◌∙◌, subst, arith, Option, Some, None}
use Rattle.std.proofs.lemmas.List.{append-nil}
use Rattle.ff_tables.specs.declared.givens.Given.{Given}
use Rattle.ff_types.specs.declared.pins.Pin.{Pin}
use Rattle.ff_types.specs.declared.cases.Case.{Case}
use Rattle.ff_propagate.specs.declared.facts.Fact.{Fact}
use Rattle.ff_propagate.specs.Facts.{fact_at}
use Rattle.ff_propagate.specs.Agreeing.{Agree}
use Rattle.ff_journal.specs.declared.entries.Entry.{Entry}
use Rattle.ff_journal.specs.declared.entries.Outcome.{Outcome}
use Rattle.ff_journal.specs.Epochs.{last_begun, pins_after, pins_of, given_of_pin, givens_of}
use Rattle.ff_journal.specs.Publications.{published}
use Rattle.std.specs.List.{filter_map}
use Rattle.ff_told.proofs.Earlier.{none_ordered}
use Rattle.ff_desk.specs.Views.{BaseView, HomeView, DeskView, no_earlier}
use Rattle.ff_desk.specs.Desks.{IsDesk, IsFew}
use Rattle.ff_desk.specs.Opened.{IsBlank, IsFirstBoard}
use Rattle.ff_desk.specs.Prepared.{IsHeld, IsPrepared}
use Rattle.ff_desk.specs.Steps.{IsSameButPresent}
use Rattle.ff_desk.proofs.Publishing.{top_le, none_there, present_of}

no_entry : (i : ℕ) (e : Entry) → slice_get [] i ≡ Some e → ⊥
no_entry i e h = cc

pub blank_is : (b : BaseView) (fs : List (Option Fact)) (marks : List Bool) → IsFew b → fs ≡ replicate b.case.system.vars None
    → IsDesk (record { base = b; journal = []; givens = []; facts = fs; home = None; present = None; pages = None; demanded = marks; earlier = no_earlier })
blank_is b fs marks few empty = record {
  few = few;
  legal = record { each = λ i e h. absurd (no_entry i e h) };
  order = omega arith;
  within = λ v. omega arith;
  kept = (refl, empty, λ e from below agree. omega (arith, below));
  low = top_le fs 0 (λ v f at. absurd (none_there b.case.system.vars v f (subst (λ xs. fact_at xs v ≡ Some f) empty at)));
  read = λ e board last. let c = last.counted in absurd (omega (arith, c));
  present = tt;
  pages = tt;
  demands = λ p d. no_entry d.place d.entry d.there;
  earlier = (none_ordered b.case b.budget, omega arith, omega arith);
}

no_pins : (pairs : List (ℕ × ℕ)) → pins_after pairs [] ≡ []
no_pins [] = refl
no_pins (p ∷ pairs) = no_pins pairs

-- the givens of epoch 0 are the starts
pub first_givens : (case : Case) → givens_of case [] 0 ≡ case.starts
first_givens case = ap (λ (ps : List Pin). case.starts ++ filter_map (given_of_pin case.pairs) ps) (no_pins case.pairs) ∙ append-nil case.starts

pub first_held : (d : DeskView) → IsDesk d → d.journal ≡ [] → IsHeld d.present → IsFirstBoard d.base.case d.present
first_held d is empty (home, e) =
    let p = present_of d.base.case d.journal d.facts d.present home e is.present in
    subst (λ x. IsFirstBoard d.base.case x) (sym e) (p.its ∙ ap (λ (j : List Entry). givens_of d.base.case j (published j)) empty ∙ first_givens d.base.case)

-- the first board, as it was prepared
pub first_prepared : (old new : DeskView) (o : Option Outcome) → IsDesk new → IsBlank old → IsSameButPresent old new → IsPrepared old new o
    → IsFirstBoard old.base.case new.present
first_prepared old new None is blank same held =
    subst (λ (b : BaseView). IsFirstBoard b.case new.present) same.base (first_held new is (same.journal ∙ blank.journal) held)
first_prepared old new (Some o) is blank same (kept, clash, refuted) =
    subst (λ x. IsFirstBoard old.base.case x) (sym (ap (λ (d : DeskView). d.present) kept ∙ blank.present))
    (λ agree. clash (subst Agree (sym (ap (λ (j : List Entry). givens_of old.base.case j (published j)) blank.journal ∙ first_givens old.base.case)) agree))
