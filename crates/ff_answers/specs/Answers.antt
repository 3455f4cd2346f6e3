-- That no pattern that folds is without an answer. This project's own.
use Rattle.std.specs.Prelude.{ℕ, ◌⊎◌, List}
use Rattle.ff_types.specs.declared.patterns.Pattern.{Pattern}
use Rattle.ff_types.specs.declared.faces.Faces.{Faces}
use Rattle.ff_types.specs.declared.faces.Folded.{Folded}
use Rattle.ff_types.specs.declared.cases.Case.{Case}
use Rattle.ff_types.specs.Pairs.{AreSorted}
use Rattle.ff_types.specs.declared.refusals.Refusal.{Refusal}
use Rattle.ff_types.specs.Sheets.{sheet_of}
use Rattle.ff_types.specs.FoldedPatterns.{IsFoldedPattern}
use Rattle.ff_problem.specs.Limits.{RefusesCase}
use Rattle.ff_problem.specs.Problems.{IsProblem, RefusesAsDrawn, RefusesAsFolded, RefusesProblem}
use Rattle.ff_report.specs.declared.lines.Last.{Last}
use Rattle.ff_solve.specs.Reports.{IsReport}

-- it can't be that a pattern is refused neither as it is drawn nor as it is folded, and doesn't fold
abbrev pub PatternsFold : Type 0
PatternsFold = (p : Pattern) → ((r : Refusal) → RefusesAsDrawn p r ⊎ RefusesAsFolded p r → ⊥)
    → ((faces : Faces) (folded : Folded) → IsFoldedPattern p faces folded → ⊥) → ⊥

-- it can't be that a pattern isn't refused and comes to no case
abbrev pub PatternsCome : Type 0
PatternsCome = (p : Pattern) → ((r : Refusal) → RefusesProblem p r → ⊥)
    → ((faces : Faces) (folded : Folded) (case : Case) → IsProblem p faces folded case → ⊥) → ⊥

-- it can't be that a pattern that folds isn't refused and comes to no case
abbrev pub FoldedPatternsCome : Type 0
FoldedPatternsCome = (p : Pattern) (faces : Faces) (folded : Folded) → IsFoldedPattern p faces folded
    → ((r : Refusal) → RefusesCase (sheet_of p faces folded) r → ⊥) → ((case : Case) → IsProblem p faces folded case → ⊥) → ⊥

-- it can't be that a case, whose pairs are in order as those of each case of a sheet, has no report
abbrev pub CasesHaveReports : Type 0
CasesHaveReports = (faces : Faces) (folded : Folded) (case : Case) (budget : ℕ) → AreSorted case.pairs
    → ((last : Last) (text : List ℕ) → IsReport faces folded case budget last text → ⊥) → ⊥
