-- What the program answers and writes. This project's own.
use Rattle.std.specs.Prelude.{ℕ, ◌≡◌, ◌⊎◌, IfSome, List, [], Option, Some, None}
use Rattle.ff_words.specs.declared.jobs.Job.{Job}
use Rattle.ff_words.specs.declared.jobs.Job.TheVariants.{Solve, Check, Bench, Lines, Make}
use Rattle.ff_words.specs.Form.{job_named}
use Rattle.ff_report.specs.Alike.{AreOneText}
use Rattle.ff_top.specs.Texts.{usage_line}
use Rattle.ff_top.specs.Solving.{AnswersSolve}
use Rattle.ff_top.specs.Checking.{AnswersCheck}
use Rattle.ff_top.specs.Drawing.{AnswersDrawing}
use Rattle.ff_top.specs.Making.{AnswersMake}
use Rattle.ff_top.specs.Benching.{AnswersBench}
use Rattle.ff_top.specs.Transfer.{Tells, Got, GotFront, GotPart}
use Rattle.ff_top.specs.declared.status.Status.{Status}
use Rattle.ff_top.specs.declared.status.Status.TheVariants.{ReadFault, WriteFault, NoMemory, Usage}

-- words that nothing is done for
abbrev pub AnswersUsage : Status → List ℕ → Type 0
AnswersUsage Usage text = text ≡ usage_line
AnswersUsage status text = ⊥

-- The status and a text for a job, or for no job, and an input. What answers a job of a workbench within a budget is given.
abbrev pub AnswersTo : (ℕ → List ℕ → Status → List ℕ → Type 0) → Option Job → List ℕ → Status → List ℕ → Type 0
AnswersTo bench None input status text = AnswersUsage status text
AnswersTo bench (Some (Solve budget)) input status text = AnswersSolve budget input status text
AnswersTo bench (Some Check) input status text = AnswersCheck input status text
AnswersTo bench (Some (Bench budget workers)) input status text = bench budget input status text
AnswersTo bench (Some Lines) input status text = AnswersDrawing input status text
AnswersTo bench (Some (Make count budget)) input status text = AnswersMake count budget status text

-- a workbench that isn't run
abbrev pub NoBench : ℕ → List ℕ → Status → List ℕ → Type 0
NoBench budget input status text = AnswersUsage status text

-- The status and a text of `run_alone` for these words and this input.
abbrev pub IsAnswer : List (List ℕ) → List ℕ → Status → List ℕ → Type 0
IsAnswer words input status text = AnswersTo NoBench (job_named words) input status text

-- The status and a text of `run`.
abbrev pub IsAnswerOfRun : List (List ℕ) → List ℕ → Status → List ℕ → Type 0
IsAnswerOfRun words input status text = AnswersTo AnswersBench (job_named words) input status text

-- Two answers to the words and an input have one status, and their texts are alike but for logs, and the same where no log stands in them.
abbrev pub OneAnswer : Type 0
OneAnswer = (words : List (List ℕ)) (input : List ℕ) (s t : Status) (x y : List ℕ) → IsAnswer words input s x → IsAnswer words input t y
    → (s ≡ t) × AreOneText x y

-- No words and no input are without an answer. It is said by what can't be, since no definition decides which it is.
abbrev pub SomeAnswer : Type 0
SomeAnswer = (words : List (List ℕ)) (input : List ℕ) → ((s : Status) (text : List ℕ) → IsAnswer words input s text → ⊥) → ⊥

-- an answer was prepared: neither a read fault nor want of memory
abbrev pub IsAnswered : Status → Type 0
IsAnswered ReadFault = ⊥
IsAnswered NoMemory = ⊥
IsAnswered status = Unit {0}

-- neither a fault nor want of memory
abbrev pub IsSettled : Status → Type 0
IsSettled ReadFault = ⊥
IsSettled WriteFault = ⊥
IsSettled NoMemory = ⊥
IsSettled status = Unit {0}

-- an answer to the input, of whose text this much is written
pub record HasWritten (answer : List ℕ → Status → List ℕ → Type 0) (input : List ℕ) (written : List ℕ → Type 0) : Type 0 where
  pub status : Status
  pub text : List ℕ
  pub answers : answer input status text
  pub is_written : written text

-- One run: what an answer to an input is, what the source told before it, what the sink told before and after, and its status.
pub record IsRun (answer : List ℕ → Status → List ℕ → Type 0) (left before after : Option (List ℕ)) (status : Status) : Type 0 where
  -- the bytes that the source gives: those that it tells, where it does
  pub input : List ℕ
  pub told : Tells left input
  -- each status but a fault and want of memory is that of an answer, whose text is written whole
  pub settled : IsSettled status → (text : List ℕ) × answer input status text × Got before text after
  -- at a write fault a part of the text of an answer is written, and not all of it
  pub cut : status ≡ WriteFault → HasWritten answer input (λ text. GotPart before text after)
  -- whatever the status, nothing is written, or a front of the text of an answer
  pub front : Got before [] after ⊎ HasWritten answer input (λ text. GotFront before text after)

-- Where no fault was counted, the run ends with an answer, whose text is written, unless memory was refused.
abbrev pub IsComplete : (List ℕ → Status → List ℕ → Type 0) → Option (List ℕ) → Option (List ℕ) → Option (List ℕ) → Type 0 → Status → Type 0
IsComplete answer left before after no_fault status = IfSome left (λ input. no_fault
    → (status ≡ NoMemory) ⊎ ((text : List ℕ) × answer input status text × Got before text after))
