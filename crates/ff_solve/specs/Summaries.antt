-- The summary of a case that is made and solved. This project's own.
use Rattle.std.specs.Prelude.{◌≡◌, ℕ, ◌⊎◌, List, length, Some, None}
use Rattle.ff_types.specs.declared.faces.Faces.{Faces}
use Rattle.ff_types.specs.declared.faces.Folded.{Folded}
use Rattle.ff_types.specs.declared.cases.Case.{Case}
use Rattle.ff_propagate.specs.Closure.{Clashes, Gives}
use Rattle.ff_report.specs.declared.lines.Last.{Last}
use Rattle.ff_report.specs.declared.lines.Last.TheVariants.{Impossible}
use Rattle.ff_report.specs.Summaries.{summary_lines}
use Rattle.ff_solve.specs.Reports.{IsBoardReport}

-- The closure of the starts clashes.
pub record IsClashSummary (count : ℕ) (faces : Faces) (folded : Folded) (case : Case) (last : Last) (text : List ℕ) : Type 0 where
  pub clashes : Clashes case.system.constraints (Gives case.starts)
  pub ends : last ≡ Impossible
  pub is : text ≡ summary_lines count faces folded case None 0 Impossible

-- It doesn't: the summary of a report of the board.
pub record IsBoardSummary (count : ℕ) (faces : Faces) (folded : Folded) (case : Case) (budget : ℕ) (last : Last) (text : List ℕ) : Type 0 where
  pub whole : List ℕ
  pub report : IsBoardReport faces folded case budget last whole
  pub is : text ≡ summary_lines count faces folded case (Some report.facts) (length report.parts) last

-- the text is a summary, of a clash or of a board
abbrev pub IsSummary : ℕ → Faces → Folded → Case → ℕ → Last → List ℕ → Type 0
IsSummary count faces folded case budget last text = IsClashSummary count faces folded case last text
    ⊎ IsBoardSummary count faces folded case budget last text
