-- What the accordion of so many panels comes to. This project's own.
use Rattle.std.specs.Prelude.{ℕ, List}
use Rattle.ff_types.specs.declared.patterns.Pattern.{Pattern}
use Rattle.ff_types.specs.declared.faces.Faces.{Faces}
use Rattle.ff_types.specs.declared.faces.Folded.{Folded}
use Rattle.ff_types.specs.declared.cases.Case.{Case}
use Rattle.ff_types.specs.declared.refusals.Refusal.{Refusal}
use Rattle.ff_types.specs.declared.refusals.No.{No}
use Rattle.ff_types.specs.declared.refusals.No.TheVariants as no
use Rattle.ff_problem.specs.Problems.{IsProblem, RefusesProblem}
use Rattle.ff_report.specs.declared.lines.Last.{Last}
use Rattle.ff_solve.specs.Summaries.{IsSummary}
use Rattle.ff_make.specs.Laws.{IsMade}

-- the accordion comes to this case
pub record MakesProblem (count : ℕ) (faces : Faces) (folded : Folded) (case : Case) : Type 0 where
  pub pattern : Pattern
  pub made : IsMade count pattern
  pub problem : IsProblem pattern faces folded case

-- the accordion is refused
pub record MakesRefused (count : ℕ) (r : Refusal) : Type 0 where
  pub pattern : Pattern
  pub made : IsMade count pattern
  pub refused : RefusesProblem pattern r

-- why it comes to no case: the refusal, or no memory
abbrev pub WhyNoneMade : ℕ → No → Type 0
WhyNoneMade count (no.Refused r) = MakesRefused count r
WhyNoneMade count no.NoMemory = Unit {0}

-- the summary of what it comes to
pub record IsMadeSolved (count budget : ℕ) (l : Last) (text : List ℕ) : Type 0 where
  pub faces : Faces
  pub folded : Folded
  pub case : Case
  pub makes : MakesProblem count faces folded case
  pub summary : IsSummary count faces folded case budget l text
