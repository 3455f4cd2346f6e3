-- Commands that wait for no publication, and questions that name no level.
use Rattle.std.proofs.Common.{◌≡◌, ℕ, zero, suc, ◌+◌, ◌<◌, ◌≤◌, inl, inr, List, [], length, sym, refl, ap, subst, arith, Option, Some, None, Contains}
use Rattle.ff_basics.proofs.Numbers.{at_most_or}
use Rattle.ff_types.specs.declared.cases.Case.{Case}
use Rattle.ff_propagate.specs.declared.facts.Fact.{Fact}
use Rattle.ff_viewer.specs.declared.commands.Command.{Command}
use Rattle.ff_viewer.specs.declared.commands.Command.TheVariants as command
use Rattle.ff_viewer.specs.declared.commands.Question.{Question}
use Rattle.ff_viewer.specs.declared.replies.Reply.{Reply}
use Rattle.ff_journal.specs.declared.entries.Entry.{Entry}
use Rattle.ff_journal.specs.declared.entries.Entry.TheVariants as entry
use Rattle.ff_journal.specs.Epochs.{last_begun}
use Rattle.ff_journal.specs.Publications.{published}
use Rattle.ff_journal.specs.Reasons.{names_in}
use Rattle.ff_journal.specs.Journals.{IsSaid, commands_of}
use Rattle.ff_journal.specs.Shown.{NamesFit}
use Rattle.ff_journal.specs.Waiting.{IsBoardCommand, IsNotPublished}
use Rattle.ff_journal.proofs.Right.{nameless}
use Rattle.ff_told.specs.Paged.{AnswersLast}

-- ---- what is published

pub some_published : (j : List Entry) (said : Command) → ((e : ℕ) → IsNotPublished j said e → ⊥) → 0 < published j
some_published j said h = by (published j) refl
  where
    by : (n : ℕ) → published j ≡ n → 0 < published j
    by zero e = absurd (h 0 (inl (e, refl)))
    by (suc n) e = omega (arith, e)

pub last_published : (j : List Entry) (said : Command) → ((e : ℕ) → IsNotPublished j said e → ⊥) → published j ≤ last_begun j + 1
    → IsBoardCommand said → published j ≡ last_begun j + 1
last_published j said h few b = elim (at_most_or (published j) (last_begun j)) [
  | inl l ↦ absurd (h (last_begun j) (inr (some_published j said h, b, l, refl)))
  | inr l ↦ omega (arith, few, l)
]

-- ---- questions that are asked of pages

nothing_named : (case : Case) (o : Option (List (Option Fact))) (e : Entry) → names_in e ≡ [] → NamesFit case o e
nothing_named case None e none = λ m c. let h : Contains [] m = subst (λ xs. Contains xs m) none c in absurd (omega (arith, h.1))
nothing_named case (Some fs) e none = λ m c. let h : Contains [] m = subst (λ xs. Contains xs m) none c in absurd (omega (arith, h.1))

pub asked_said : (case : Case) (budget : ℕ) (j : List Entry) (viewer : ℕ) (said : Command) (q : Question) (told : Reply) → said ≡ command.Ask q
    → names_in (entry.Said viewer (length (commands_of viewer j)) (command.Ask q) told) ≡ [] → AnswersLast case budget j q told
    → IsSaid case budget j viewer (length (commands_of viewer j)) said told
asked_said case budget j viewer said q told is none (e, last, l, a) = subst (λ x. IsSaid case budget j viewer (length (commands_of viewer j)) x told) (sym is)
    (nameless case budget j e last viewer (command.Ask q) told l none a)

pub asked_names : (case : Case) (o : Option (List (Option Fact))) (j : List Entry) (viewer : ℕ) (said : Command) (q : Question) (told : Reply) → said ≡ command.Ask q
    → names_in (entry.Said viewer (length (commands_of viewer j)) (command.Ask q) told) ≡ []
    → NamesFit case o (entry.Said viewer (length (commands_of viewer j)) said told)
asked_names case o j viewer said q told is none = subst (λ x. NamesFit case o (entry.Said viewer (length (commands_of viewer j)) x told)) (sym is)
    (nothing_named case o (entry.Said viewer (length (commands_of viewer j)) (command.Ask q) told) none)
