-- Entries that name no level are right where their replies are.
use Rattle.std.proofs.Common.{◌≡◌, ℕ, List, [], length, refl, subst, arith, Contains}
use Rattle.ff_types.specs.declared.cases.Case.{Case}
use Rattle.ff_viewer.specs.declared.commands.Command.{Command}
use Rattle.ff_viewer.specs.declared.replies.Reply.{Reply}
use Rattle.ff_journal.specs.declared.entries.Entry.{Entry}
use Rattle.ff_journal.specs.declared.entries.Entry.TheVariants as entry
use Rattle.ff_journal.specs.declared.entries.Outcome.{Outcome}
use Rattle.ff_journal.specs.Publications.{IsLast}
use Rattle.ff_journal.specs.Reasons.{names_in}
use Rattle.ff_journal.specs.Replies.{IsReply}
use Rattle.ff_journal.specs.Journals.{IsSaid, commands_of}

pub nameless : (case : Case) (budget : ℕ) (j : List Entry) (e : ℕ) (last : Outcome) (viewer : ℕ) (said : Command) (told : Reply)
    → IsLast j e last → names_in (entry.Said viewer (length (commands_of viewer j)) said told) ≡ []
    → IsReply case budget j e last viewer said told → IsSaid case budget j viewer (length (commands_of viewer j)) said told
nameless case budget j e last viewer said told l none r = record {
  counted = refl;
  epoch = e;
  last = last;
  published = l;
  replied = r;
  levels = λ a b k n same. let h : Contains [] a = subst (λ xs. Contains xs a) none k in absurd (omega (arith, h.1));
}
