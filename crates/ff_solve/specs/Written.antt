-- What a report is made of, and its text, piece by piece. No struct is named here. This project's own.
use Rattle.std.specs.Prelude.{◌≡◌, ℕ, zero, suc, ◌==◌, ◌<◌, ◌^◌, if◌then◌else◌, List, length}
use Rattle.ff_propagate.specs.declared.parts.Part.{Part}
use Rattle.ff_parts.specs.Lists.{vars_of}
use Rattle.ff_report.specs.declared.parts.PartOutcome.{PartOutcome}
use Rattle.ff_report.specs.Heads.{lines_of}
use Rattle.ff_report.specs.Lines.{part_at}

-- as many outcomes as parts, which can be numbered
pub record AreReported (parts : List Part) (outcomes : List PartOutcome) : Type 0 where
  pub as_many : length outcomes ≡ length parts
  pub few : length parts < 2 ^ 32

-- the lines before the parts, then those of each part, then those that end the report
abbrev pub piece_at : List ℕ → List Part → List PartOutcome → List ℕ → ℕ → List ℕ
piece_at head parts outcomes end zero = head
piece_at head parts outcomes end (suc n) = if n == length parts then end else part_at (vars_of parts) outcomes n

-- all of them
abbrev pub report_text : List ℕ → List Part → List PartOutcome → List ℕ → List ℕ
report_text head parts outcomes end = lines_of (piece_at head parts outcomes end) (suc (suc (length parts)))
