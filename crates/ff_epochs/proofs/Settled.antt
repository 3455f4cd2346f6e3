-- The pins of an epoch are settled once it has begun.
use Rattle.std.proofs.Common.{◌≡◌, ℕ, ◌+◌, ◌≤◌, List, ◌++◌, length, take, drop, slice_get, Some, refl, sym, ap, ◌∙◌, subst}
use Rattle.std.proofs.lemmas.List.{take-append-drop, take-append-le}
use Rattle.std.proofs.lemmas.List.Elements.{filter-append}
use Rattle.ff_types.specs.declared.cases.Case.{Case}
use Rattle.ff_types.specs.declared.pins.Pin.{Pin}
use Rattle.ff_journal.specs.declared.entries.Entry.{Entry}
use Rattle.ff_journal.specs.declared.entries.Entry.TheVariants as entry
use Rattle.ff_journal.specs.declared.entries.Outcome.{Outcome}
use Rattle.ff_journal.specs.Epochs.{is_change, changes, last_begun, pins_after, pins_of}
use Rattle.ff_journal.specs.Publications.{IsOutcome}
use Rattle.ff_journal.specs.Journals.{IsLegal, IsPublished}
use Rattle.ff_epochs.specs.EpochLaws.{IsPublishedAt}

pins_front : (case : Case) (xs ys : List Entry) (e : ℕ) → e ≤ last_begun xs → pins_of case (xs ++ ys) e ≡ pins_of case xs e
pins_front case xs ys e h = ap (pins_after case.pairs)
    (ap (take e) (filter-append is_change xs ys) ∙ take-append-le e (changes xs) (changes ys) h)

pub pins_settled : (case : Case) (j : List Entry) (i e : ℕ) → e ≤ last_begun (take i j) → pins_of case (take i j) e ≡ pins_of case j e
pins_settled case j i e h = sym (pins_front case (take i j) (drop i j) e h) ∙ ap (λ (x : List Entry). pins_of case x e) (take-append-drop i j)

-- what a legal journal says of a publication
pub published_at : (case : Case) (budget : ℕ) (j : List Entry) → IsLegal case budget j → (i e : ℕ) (o : Outcome) → IsPublishedAt j i e o
    → IsPublished case (take i j) e o
published_at case budget j legal i e o at = legal.each i (entry.Published e o) at
