-- What `bench` answers: the transcript of a journal that the workbench of the bytes shows, or why they are refused. This project's own.
use Rattle.std.specs.Prelude.{◌≡◌, ℕ, ◌<◌, ◌≤◌, ◌⊎◌, List, length}
use Rattle.ff_types.specs.declared.limits.TheConstants.{MOST_BYTES}
use Rattle.ff_types.specs.declared.refusals.Refusal.{Refusal}
use Rattle.ff_types.specs.declared.refusals.Refusal.TheVariants.{TooLong}
use Rattle.ff_report.specs.Refusals.{refusal_line}
use Rattle.ff_journal.specs.declared.entries.Entry.{Entry}
use Rattle.ff_session.specs.Sessions.{IsSession, RefusesBytes}
use Rattle.ff_transcript.specs.Entries.{transcript}
use Rattle.ff_top.specs.declared.status.Status.{Status}
use Rattle.ff_top.specs.declared.status.Status.TheVariants.{Done, Refused}

-- exactly where a refusal comes: too many bytes, or no workbench that they spell, or a pattern that comes to no case
abbrev pub IsRefusedBench : List ℕ → Refusal → Type 0
IsRefusedBench bytes r = ((MOST_BYTES < length bytes) × (r ≡ TooLong)) ⊎ ((length bytes ≤ MOST_BYTES) × RefusesBytes bytes r)

-- The text is the transcript of a journal of the workbench that the bytes spell. Any such journal will do: it is that of the run.
-- What `IsSession` says of the journal is said of the text: it is legal for the scripts and complete, each board in it is exactly the
-- closure of its epoch's creases and pins, choices of one solution of each part are the stackings that keep them, and an impossible
-- epoch has none and carries an accepted log.
pub record IsTranscript (bytes : List ℕ) (budget : ℕ) (text : List ℕ) : Type 0 where
  pub within : length bytes ≤ MOST_BYTES
  pub journal : List Entry
  pub session : IsSession bytes budget journal
  pub is : text ≡ transcript journal

-- The status and the text, status by status.
abbrev pub AnswersBench : ℕ → List ℕ → Status → List ℕ → Type 0
AnswersBench budget bytes Refused text = (r : Refusal) × IsRefusedBench bytes r × (text ≡ refusal_line r)
AnswersBench budget bytes Done text = IsTranscript bytes budget text
AnswersBench budget bytes status text = ⊥
