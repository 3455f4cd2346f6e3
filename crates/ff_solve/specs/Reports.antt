-- The report of a case: of the board that its starts come to, or of their clash. This project's own.
use Rattle.std.specs.Prelude.{◌≡◌, ℕ, ◌⊎◌, List, [], length, Option}
use Rattle.ff_types.specs.declared.faces.Faces.{Faces}
use Rattle.ff_types.specs.declared.faces.Folded.{Folded}
use Rattle.ff_types.specs.declared.cases.Case.{Case}
use Rattle.ff_log.specs.declared.logs.LogLine.{LogLine}
use Rattle.ff_log.specs.Grounds.{IsAcceptedIn}
use Rattle.ff_propagate.specs.declared.facts.Fact.{Fact}
use Rattle.ff_propagate.specs.declared.parts.Part.{Part}
use Rattle.ff_propagate.specs.Facts.{value_at}
use Rattle.ff_propagate.specs.Closure.{Clashes, IsClosure, Gives}
use Rattle.ff_propagate.specs.Parts.{AreParts}
use Rattle.ff_parts.specs.Lists.{vars_of}
use Rattle.ff_parts.specs.Factors.{Factors}
use Rattle.ff_report.specs.declared.parts.PartOutcome.{PartOutcome}
use Rattle.ff_report.specs.declared.lines.Last.{Last}
use Rattle.ff_report.specs.declared.lines.Last.TheVariants.{Impossible}
use Rattle.ff_report.specs.Lines.{last_of, board_text, clash_report}
use Rattle.ff_solve.specs.Outcomes.{AreOutcomes}

-- The closure of the starts clashes, which any log shows that is accepted for the case without pins.
pub record IsClashReport (faces : Faces) (folded : Folded) (case : Case) (last : Last) (text : List ℕ) : Type 0
  where
    pub clashes : Clashes case.system.constraints (Gives case.starts)
    pub ends : last ≡ Impossible
    pub log : List LogLine
    pub accepted : IsAcceptedIn case [] log
    pub is : text ≡ clash_report faces folded case log

-- It doesn't: a line for each pair with its order in the closure, then the parts with what their searches come to.
pub record IsBoardReport (faces : Faces) (folded : Folded) (case : Case) (budget : ℕ) (last : Last)
    (text : List ℕ) : Type 0 where
  pub facts : List (Option Fact)
  pub parts : List Part
  pub outcomes : List PartOutcome
  pub wide : length facts ≡ case.system.vars
  pub closure : IsClosure case.system.constraints (Gives case.starts) (value_at facts)
  pub parts_are : AreParts case.system.vars case.system.constraints (value_at facts) (vars_of parts)
  -- choices of one solution of each part, and the assignments that meet the constraints and hold the starts
  pub factors : Factors case.system.vars case.system.constraints case.starts (value_at facts) (vars_of parts)
  pub outcomes_are : AreOutcomes case (value_at facts) budget parts outcomes
  pub ends : last ≡ last_of outcomes
  pub is : text ≡ board_text faces folded case facts (vars_of parts) outcomes

-- the text is a report, of a clash or of a board
abbrev pub IsReport : Faces → Folded → Case → ℕ → Last → List ℕ → Type 0
IsReport faces folded case budget last text = IsClashReport faces folded case last text
    ⊎ IsBoardReport faces folded case budget last text
