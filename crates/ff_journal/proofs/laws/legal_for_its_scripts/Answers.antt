use Rattle.std.proofs.Common.{[], ◌∙◌, sym}
use Rattle.std.proofs.lemmas.List.{append-nil}
use Rattle.ff_journal.specs.Journals.{commands_of}
use Rattle.ff_journal.proofs.laws.legal_for_its_scripts.Goals as goal

pub returns : goal.returns
returns c case budget scripts j legal shown = (
  record { legal = legal; scripted = λ viewer. ([], sym (append-nil (commands_of viewer j) ∙ shown viewer)) },
  λ all. record { exhausted = shown; all_published = all },
)
