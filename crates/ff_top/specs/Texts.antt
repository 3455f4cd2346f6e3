-- The lines that the program writes besides those of a report. This project's own.
use Rattle.std.specs.Prelude.{ℕ, List, codes}

-- the line for words that aren't of the form
abbrev pub usage_line : List ℕ
usage_line = codes "usage: flatfold solve|check|bench|lines|make COUNT [--budget N] [--workers N]\n"
