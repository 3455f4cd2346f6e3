-- The lines of a report besides its head and its parts, and the report of a board. This project's own.
use Rattle.std.specs.Prelude.{ℕ, Bool, true, false, List, [], ◌++◌, codes, length, slice_index_or, if◌then◌else◌, Option, Some, None}
use Rattle.std.specs.List.{list_any}
use Rattle.std.specs.Fmt.{decimal}
use Rattle.ff_types.specs.declared.faces.Faces.{Faces}
use Rattle.ff_types.specs.declared.faces.Folded.{Folded}
use Rattle.ff_types.specs.declared.cases.Case.{Case}
use Rattle.ff_propagate.specs.declared.facts.Fact.{Fact}
use Rattle.ff_log.specs.declared.logs.LogLine.{LogLine}
use Rattle.ff_report.specs.declared.parts.PartOutcome.{PartOutcome}
use Rattle.ff_report.specs.declared.parts.PartOutcome.TheVariants as outcome
use Rattle.ff_report.specs.Heads.{lines_of, head}
use Rattle.ff_report.specs.Parts.{part_lines}
use Rattle.ff_report.specs.Logs.{log_lines}
use Rattle.ff_report.specs.declared.lines.Last.{Last}
use Rattle.ff_report.specs.declared.lines.Last.TheVariants.{Done, Impossible, Unfinished}

-- `parts M`
abbrev pub parts_line : ℕ → List ℕ
parts_line count = codes "parts " ++ decimal count ++ codes "\n"

-- where the closure clashes: `clash`, a log, and `impossible`
abbrev pub clash_lines : List LogLine → List ℕ
clash_lines log = codes "clash\n" ++ log_lines log ++ codes "impossible\n"

-- how the report ends
abbrev pub last_line : Last → List ℕ
last_line Done = codes "done\n"
last_line Impossible = codes "impossible\n"
last_line Unfinished = codes "unfinished\n"

-- the part has no solution
abbrev pub is_none : PartOutcome → Bool
is_none (outcome.None log) = true
is_none _ = false

-- the part's search was cut off by the budget
abbrev pub is_unfinished : PartOutcome → Bool
is_unfinished outcome.Unfinished = true
is_unfinished _ = false

-- impossible where some part has no solution, else unfinished where some part isn't finished
abbrev pub last_of : List PartOutcome → Last
last_of outcomes = if list_any is_none outcomes then Impossible else if list_any is_unfinished outcomes then Unfinished else Done

-- the lines of the part k
abbrev pub part_at : List (List ℕ) → List PartOutcome → ℕ → List ℕ
part_at parts outcomes k = part_lines k (slice_index_or parts k []) (slice_index_or outcomes k outcome.Unfinished)

-- the whole report of a board
abbrev pub board_text : Faces → Folded → Case → List (Option Fact) → List (List ℕ) → List PartOutcome → List ℕ
board_text faces folded case facts parts outcomes = head faces folded case (Some facts) ++ parts_line (length parts)
    ++ lines_of (part_at parts outcomes) (length parts) ++ last_line (last_of outcomes)

-- the whole report where the closure clashes
abbrev pub clash_report : Faces → Folded → Case → List LogLine → List ℕ
clash_report faces folded case log = head faces folded case None ++ clash_lines log
