-- A part of a report: its variables and its solutions. This project's own.
use Rattle.std.specs.Prelude.{ℕ, List, [], ◌++◌, length, slice_index_or, codes}
use Rattle.std.specs.Fmt.{decimal}
use Rattle.std.specs.List.{flat_map}
use Rattle.ff_tables.specs.declared.orders.Order.{Order}
use Rattle.ff_tables.specs.declared.orders.Order.TheVariants.{Below, Above}
use Rattle.ff_report.specs.declared.parts.PartOutcome.{PartOutcome}
use Rattle.ff_report.specs.declared.parts.PartOutcome.TheVariants.{Solutions, None, Unfinished}
use Rattle.ff_report.specs.Heads.{lines_of}
use Rattle.ff_report.specs.Refusals.{spaced}
use Rattle.ff_report.specs.Logs.{log_lines}

-- `part K variables` and the numbers of its variables
abbrev pub part_line : ℕ → List ℕ → List ℕ
part_line number vars = codes "part " ++ decimal number ++ codes " variables" ++ flat_map (λ v. spaced (decimal v)) vars ++ codes "\n"

-- the sign of an order
abbrev pub sign : Order → List ℕ
sign Below = codes "-"
sign Above = codes "+"

-- `solution I`, and `-` or `+` for each variable of the part
abbrev pub solution_line : ℕ → List Order → List ℕ
solution_line i values = codes "solution " ++ decimal i ++ codes " " ++ flat_map sign values ++ codes "\n"

-- the line of a solution
abbrev pub solution_of : List (List Order) → ℕ → List ℕ
solution_of solutions i = solution_line i (slice_index_or solutions i [])

-- `solutions S` and S lines, `none` and a log, or `unfinished`
abbrev pub outcome_lines : PartOutcome → List ℕ
outcome_lines (Solutions solutions) = codes "solutions " ++ decimal (length solutions) ++ codes "\n" ++ lines_of (solution_of solutions) (length solutions)
outcome_lines (None log) = codes "none\n" ++ log_lines log.lines
outcome_lines Unfinished = codes "unfinished\n"

-- all lines of a part
abbrev pub part_lines : ℕ → List ℕ → PartOutcome → List ℕ
part_lines number vars outcome = part_line number vars ++ outcome_lines outcome
