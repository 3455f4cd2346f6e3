-- The lines of a log in a report. This project's own.
use Rattle.std.specs.Prelude.{ℕ, List, ◌++◌, codes}
use Rattle.std.specs.List.{flat_map}
use Rattle.ff_log.specs.declared.logs.LogLine.{LogLine}
use Rattle.ff_log.specs.Spelling.{spelling}

-- a line of a log, after `log `
abbrev pub log_line : LogLine → List ℕ
log_line l = codes "log " ++ spelling l ++ codes "\n"

-- all lines of a log
abbrev pub log_lines : List LogLine → List ℕ
log_lines lines = flat_map log_line lines
