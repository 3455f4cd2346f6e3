-- What `solve` answers: the report of the pattern that the bytes spell, or why they are refused. This project's own.
use Rattle.std.specs.Prelude.{◌≡◌, ℕ, ◌<◌, ◌≤◌, ◌⊎◌, Bool, List, [], length}
use Rattle.ff_types.specs.declared.limits.TheConstants.{MOST_BYTES}
use Rattle.ff_types.specs.declared.patterns.Pattern.{Pattern}
use Rattle.ff_types.specs.declared.faces.Faces.{Faces}
use Rattle.ff_types.specs.declared.faces.Folded.{Folded}
use Rattle.ff_types.specs.declared.cases.Case.{Case}
use Rattle.ff_types.specs.declared.refusals.Refusal.{Refusal}
use Rattle.ff_types.specs.declared.refusals.Refusal.TheVariants.{TooLong}
use Rattle.ff_types.specs.declared.refusals.No.{No}
use Rattle.ff_types.specs.declared.refusals.No.TheVariants as no
use Rattle.ff_types.specs.Sheets.{sheet_of}
use Rattle.ff_read.specs.Read.{IsReadAs, RefusesBytes}
use Rattle.ff_problem.specs.Problems.{IsProblem, RefusesProblem}
use Rattle.ff_propagate.specs.Facts.{value_at}
use Rattle.ff_parts.specs.Lists.{vars_of}
use Rattle.ff_report.specs.Refusals.{refusal_line}
use Rattle.ff_report.specs.declared.lines.Last.{Last}
use Rattle.ff_report.specs.declared.lines.Last.TheVariants as last
use Rattle.ff_solve.specs.Choices.{IsKept, AreStackings}
use Rattle.ff_solve.specs.Reports.{IsReport, IsClashReport, IsBoardReport}
use Rattle.ff_top.specs.declared.status.Status.{Status}
use Rattle.ff_top.specs.declared.status.Status.TheVariants.{Done, Impossible, Unfinished, Refused}

-- the bytes, not too many, spell a pattern that comes to these faces, this folding and this case
pub record ReadsProblem (bytes : List ℕ) (faces : Faces) (folded : Folded) (case : Case) : Type 0 where
  pub within : length bytes ≤ MOST_BYTES
  pub pattern : Pattern
  pub read : IsReadAs bytes pattern
  pub problem : IsProblem pattern faces folded case

-- they spell a pattern that is refused
pub record ReadsRefused (bytes : List ℕ) (r : Refusal) : Type 0 where
  pub pattern : Pattern
  pub read : IsReadAs bytes pattern
  pub refused : RefusesProblem pattern r

-- exactly where a refusal comes: too many bytes, or no pattern that they spell, or one that comes to no case
abbrev pub IsRefused : List ℕ → Refusal → Type 0
IsRefused bytes r = ((MOST_BYTES < length bytes) × (r ≡ TooLong))
    ⊎ ((length bytes ≤ MOST_BYTES) × (RefusesBytes bytes r ⊎ ReadsRefused bytes r))

-- why nothing was read
abbrev pub WhyNoReport : List ℕ → No → Type 0
WhyNoReport bytes (no.Refused r) = IsRefused bytes r
WhyNoReport bytes no.NoMemory = Unit {0}

-- the report of what the bytes come to
pub record IsSolved (bytes : List ℕ) (budget : ℕ) (l : Last) (text : List ℕ) : Type 0 where
  pub faces : Faces
  pub folded : Folded
  pub case : Case
  pub reads : ReadsProblem bytes faces folded case
  pub report : IsReport faces folded case budget l text
  -- where the closure clashes no geometric stacking keeps the creases; there are no pins
  pub clash : IsClashReport faces folded case l text → (above : ℕ → ℕ → Bool)
      → IsKept (sheet_of reads.pattern faces folded) [] above → ⊥
  -- else choices of one solution of each part correspond one-to-one to those that do
  pub choices : (b : IsBoardReport faces folded case budget l text)
      → AreStackings (sheet_of reads.pattern faces folded) [] case (value_at b.facts) (vars_of b.parts)

-- the status of a report by how it ends
abbrev pub status_of : Last → Status
status_of last.Done = Done
status_of last.Impossible = Impossible
status_of last.Unfinished = Unfinished

-- The status and the text, status by status.
abbrev pub AnswersSolve : ℕ → List ℕ → Status → List ℕ → Type 0
AnswersSolve budget bytes Refused text = (r : Refusal) × IsRefused bytes r × (text ≡ refusal_line r)
AnswersSolve budget bytes Done text = IsSolved bytes budget last.Done text
AnswersSolve budget bytes Impossible text = IsSolved bytes budget last.Impossible text
AnswersSolve budget bytes Unfinished text = IsSolved bytes budget last.Unfinished text
AnswersSolve budget bytes status text = ⊥
