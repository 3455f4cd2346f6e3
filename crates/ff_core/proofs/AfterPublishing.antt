-- A core stands after a publication.
use Rattle.std.proofs.Common.{◌≡◌, ℕ, ◌+◌, ◌≤◌, List, [], ◌∷◌, ◌++◌, length, sym, refl, ap, ◌∙◌, subst, arith, Option, Some, None}
use Rattle.std.proofs.lemmas.List.{length-append}
use Rattle.ff_types.specs.declared.cases.Case.{Case}
use Rattle.ff_propagate.specs.declared.facts.Fact.{Fact}
use Rattle.ff_propagate.specs.FactRule.{MeetsFactRule}
use Rattle.ff_journal.specs.declared.entries.Entry.{Entry}
use Rattle.ff_journal.specs.declared.entries.Entry.TheVariants as entry
use Rattle.ff_journal.specs.declared.entries.Outcome.{Outcome}
use Rattle.ff_journal.specs.Epochs.{last_begun, last_of}
use Rattle.ff_journal.specs.Publications.{outcomes, published, IsLast, IsOutcome}
use Rattle.ff_journal.specs.Shown.{AreOfBoard}
use Rattle.ff_core.specs.States.{State, WorksOn, StandsFor, AreOpening}
use Rattle.ff_core.specs.Steps.{WorkNext}
use Rattle.ff_journal.proofs.Snoc.{changes_same, legal_more, givens_kept, outcomes_published, last_more, named_published}
use Rattle.ff_core.proofs.AfterSaying.{next_works}

-- a publication begins no epoch, and leaves the givens of those begun
pub next_kept : (case : Case) (j : List Entry) (e : ℕ) (outcome : Outcome) (n : ℕ) (w : Option (List (Option Fact))) → WorkNext case j n w
    → WorkNext case (j ++ entry.Published e outcome ∷ []) n w
next_kept case j e outcome n None l =
    let s : last_begun (j ++ entry.Published e outcome ∷ []) ≡ last_begun j = ap (λ es. length es) (changes_same j (entry.Published e outcome) refl) in
    omega (arith, l, s)
next_kept case j e outcome n (Some fs) (l, o) =
    let s : last_begun (j ++ entry.Published e outcome ∷ []) ≡ last_begun j = ap (λ es. length es) (changes_same j (entry.Published e outcome) refl) in
    (omega (arith, l, s), subst (λ gs. AreOpening case.system.vars gs fs) (sym (givens_kept case j (entry.Published e outcome) n l)) o)

-- A core stands after the publication of the epoch that it worked on, with its facts as the shown ones, and with the next epoch
-- opened, if it has begun.
pub published_stands : (case : Case) (old : State) (fs : List (Option Fact)) (outcome : Outcome) (w : Option (List (Option Fact)))
    → StandsFor case old → WorksOn case old.journal (Some fs)
    → IsOutcome case old.journal (published old.journal) outcome → AreOfBoard outcome fs
    → WorkNext case old.journal (published old.journal + 1) w
    → StandsFor case (record old { journal = old.journal ++ entry.Published (published old.journal) outcome ∷ []; working = w; shown = Some fs; pages = None })
published_stands case old fs outcome w stands works right board next = record {
  turns = stands.turns;
  legal = legal_more case old.budget j p stands.legal (record { next = refl; begun = works.0; right = right });
  works = next_works case (j ++ p ∷ []) (published j + 1) w (next_kept case j (published j) outcome (published j + 1) w next) (sym last.counted) room;
  shows = (
    published j,
    outcome,
    last,
    record {
      rule = subst (λ gs. MeetsFactRule case.system.vars case.system.constraints gs fs)
          (sym (givens_kept case j p (published j) works.0)) works.1;
      board = board;
      levels = λ m n. absurd (named_published j (published j) outcome m n);
    },
  );
  keeps = tt;
}
  where
    j : List Entry
    j = old.journal

    p : Entry
    p = entry.Published (published j) outcome

    last : IsLast (j ++ p ∷ []) (published j) outcome
    last = record {
      counted = ap (λ os. length os) (outcomes_published j (published j) outcome) ∙ length-append (outcomes j) (outcome ∷ []);
      is = ap (λ os. last_of os) (outcomes_published j (published j) outcome) ∙ last_more (outcomes j) outcome;
    }

    room : published (j ++ p ∷ []) ≤ last_begun (j ++ p ∷ []) + 1
    room =
        let c = last.counted in
        let s : last_begun (j ++ p ∷ []) ≡ last_begun j = ap (λ es. length es) (changes_same j p refl) in
        let l = works.0 in omega (arith, c, s, l)

-- the same, and what it changes, with the number of the epoch
pub appended : (case : Case) (old : State) (fs : List (Option Fact)) (outcome : Outcome) (w : Option (List (Option Fact))) (n : ℕ) (j : List Entry)
    → StandsFor case old → old.working ≡ Some fs → n ≡ published old.journal → IsOutcome case old.journal n outcome → AreOfBoard outcome fs
    → WorkNext case old.journal (n + 1) w → j ≡ old.journal ++ entry.Published n outcome ∷ []
    → StandsFor case (record { journal = j; budget = old.budget; working = w; shown = Some fs; pages = None }) × WorkNext case j (n + 1) w
appended case old fs outcome w n j stands works is right board next added =
    let added_there : j ≡ old.journal ++ entry.Published (published old.journal) outcome ∷ [] = added ∙ ap (λ k. old.journal ++ entry.Published k outcome ∷ []) is in (
      subst (λ x. StandsFor case (record { journal = x; budget = old.budget; working = w; shown = Some fs; pages = None })) (sym added_there)
          (published_stands case old fs outcome w stands (subst (λ x. WorksOn case old.journal x) works stands.works)
          (subst (λ k. IsOutcome case old.journal k outcome) is right) board (subst (λ k. WorkNext case old.journal (k + 1) w) is next)),
      subst (λ x. WorkNext case x (n + 1) w) (sym added) (next_kept case old.journal n outcome (n + 1) w next),
    )
