-- The summary of a pattern that is made and solved. This project's own.
use Rattle.std.specs.Prelude.{ℕ, zero, suc, ◌+◌, List, ◌++◌, codes, length, Option, Some, None}
use Rattle.std.specs.Fmt.{decimal}
use Rattle.ff_tables.specs.declared.orders.Order.{Order}
use Rattle.ff_types.specs.declared.faces.Faces.{Faces}
use Rattle.ff_types.specs.declared.faces.Folded.{Folded}
use Rattle.ff_types.specs.declared.cases.Case.{Case}
use Rattle.ff_propagate.specs.declared.facts.Fact.{Fact}
use Rattle.ff_propagate.specs.Facts.{value_at}
use Rattle.ff_report.specs.Heads.{counts_line}
use Rattle.ff_report.specs.Lines.{last_line}
use Rattle.ff_report.specs.declared.lines.Last.{Last}

-- 1 where there is a value
abbrev pub decided_one : Option Order → ℕ
decided_one None = 0
decided_one (Some value) = 1

-- how many of the variables below the number have a value
abbrev pub decided_below : (ℕ → Option Order) → ℕ → ℕ
decided_below value zero = 0
decided_below value (suc n) = decided_below value n + decided_one (value n)

-- how many pairs are decided; none where there are no facts, since the closure clashes
abbrev pub decided_by : Option (List (Option Fact)) → ℕ → ℕ
decided_by None pairs = 0
decided_by (Some facts) pairs = decided_below (value_at facts) pairs

-- `make COUNT`
abbrev pub made_line : ℕ → List ℕ
made_line count = codes "make " ++ decimal count ++ codes "\n"

-- `decided X parts M`
abbrev pub decided_line : ℕ → ℕ → List ℕ
decided_line decided parts = codes "decided " ++ decimal decided ++ codes " parts " ++ decimal parts ++ codes "\n"

-- the whole summary: `make COUNT`, the first line of the report, how much is decided, and the last line of the report
abbrev pub summary_lines : ℕ → Faces → Folded → Case → Option (List (Option Fact)) → ℕ → Last → List ℕ
summary_lines count faces folded case facts parts last = made_line count
    ++ counts_line (length faces.rings) folded.scale (length case.pairs) (length case.system.constraints)
    ++ decided_line (decided_by facts (length case.pairs)) parts ++ last_line last
