-- What a crease pattern comes to: its faces, its folding and its case; or why it comes to none. This project's own.
use Rattle.std.specs.Prelude.{◌⊎◌}
use Rattle.ff_types.specs.declared.patterns.Pattern.{Pattern}
use Rattle.ff_types.specs.declared.faces.Faces.{Faces}
use Rattle.ff_types.specs.declared.faces.Folded.{Folded}
use Rattle.ff_types.specs.declared.cases.Case.{Case}
use Rattle.ff_types.specs.declared.refusals.Refusal.{Refusal}
use Rattle.ff_types.specs.declared.refusals.No.{No}
use Rattle.ff_types.specs.declared.refusals.No.TheVariants as no
use Rattle.ff_types.specs.FaceRefusals.{RefusesFaces}
use Rattle.ff_types.specs.FoldedPatterns.{IsFoldedPattern}
use Rattle.ff_types.specs.Sheets.{sheet_of}
use Rattle.ff_types.specs.Cases.{IsCaseOf}
use Rattle.ff_types.specs.Assignments.{IsTrueTo}
use Rattle.ff_planar.specs.Given.{AreGiven}
use Rattle.ff_reflect.specs.Folding.{IsRefused}
use Rattle.ff_problem.specs.Limits.{RefusesCase, IsWithinLimits}

-- The faces and the folding of the pattern, and the case of the folded sheet: an assignment meets its constraints exactly
-- where its pairs are a geometric stacking.
pub record IsProblem (p : Pattern) (faces : Faces) (folded : Folded) (case : Case) : Type 0 where
  pub folds : IsFoldedPattern p faces folded
  pub within : IsWithinLimits (sheet_of p faces folded)
  pub case_is : IsCaseOf (sheet_of p faces folded) case
  pub true_to : IsTrueTo (sheet_of p faces folded) case

-- no drawing, or no faces
abbrev pub RefusesAsDrawn : Pattern → Refusal → Type 0
RefusesAsDrawn p r = RefusesFaces p.points p.edges p.marks r

-- Faces, and no folding: at no scale where flags break or folded faces don't meet, within the limit of coordinates where
-- one is too large.
abbrev pub RefusesAsFolded : Pattern → Refusal → Type 0
RefusesAsFolded p r = (faces : Faces) × AreGiven p.points p.edges p.marks faces × IsRefused p faces r

-- a folding, and too much of something
abbrev pub RefusesAsLayered : Pattern → Refusal → Type 0
RefusesAsLayered p r = (faces : Faces) × (folded : Folded) × IsFoldedPattern p faces folded
    × RefusesCase (sheet_of p faces folded) r

-- the first refusal of a pattern
abbrev pub RefusesProblem : Pattern → Refusal → Type 0
RefusesProblem p r = RefusesAsDrawn p r ⊎ (RefusesAsFolded p r ⊎ RefusesAsLayered p r)

-- why a pattern has no problem: its refusal, or no memory
abbrev pub WhyNoProblem : Pattern → No → Type 0
WhyNoProblem p (no.Refused r) = RefusesProblem p r
WhyNoProblem p no.NoMemory = Unit {0}
