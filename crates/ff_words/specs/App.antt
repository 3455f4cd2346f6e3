-- What `clap` reads of the command.
-- For the proofs of this crate alone.
use Rattle.std.specs.Prelude.{true, List, [], ◌∷◌, Option, Some, None, codes, option_map}
use Rattle.std.specs.Borrow.{Bor}
use Rattle.clap.specs.Walk.{Rule}
use Rattle.clap.specs.Simple.{App, new_app, new_rule, with_rule}
use Rattle.clap.specs.declared.error.kind.ErrorKind.{ErrorKind}
use Rattle.clap.specs.declared.error.kind.ErrorKind.TheVariants as kind
use Rattle.clap.specs.Matches.{first_value}
use Rattle.clap.specs.declared.parser.matches.Found.{Found}
use Rattle.ff_words.specs.declared.jobs.Job.{Job}
use Rattle.ff_words.specs.Form.{Text, job_at}
use Rattle.ff_words.specs.declared.jobs.WordsNo.{WordsNo}
use Rattle.ff_words.specs.declared.jobs.WordsNo.TheVariants as no

-- an option with a long name
abbrev pub long_rule : Text → Rule
long_rule id = record (new_rule id) { long = Some id }

-- the program's name, without help
abbrev pub plain_app : App
plain_app = record (new_app (codes "flatfold")) {
  top = record ((new_app (codes "flatfold")).top) { no_binary_name = true; disable_help_flag = true };
}

-- the two words and the two options
abbrev pub app : App
app = with_rule (with_rule (with_rule (with_rule plain_app (new_rule (codes "mode"))) (new_rule (codes "count"))) (long_rule (codes "budget"))) (long_rule (codes "workers"))

-- the word, where there is one
abbrev pub listed : Option Text → List Text
listed None = []
listed (Some t) = t ∷ []

-- the words that were found at the first place and at the second
abbrev pub words_found : Option Text → Option Text → List Text
words_found None c = []
words_found (Some w) c = w ∷ listed c

-- clap's error as ours
abbrev pub kind_no : ErrorKind → WordsNo
kind_no kind.OutOfMemory = no.NoMemory
kind_no _ = no.Usage

-- the texts behind references
abbrev pub shown : Option (Bor Text) → Option Text
shown = option_map (λ s. s.now)

-- the job of clap's matches
abbrev pub job_in_found : Found → Option Job
job_in_found f = job_at (words_found (first_value f (codes "mode")) (first_value f (codes "count"))) (listed (first_value f (codes "budget"))) (listed (first_value f (codes "workers")))
