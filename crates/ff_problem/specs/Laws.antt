-- Laws of what a pattern comes to. This project's own.
use Rattle.std.specs.Prelude.{◌≡◌}
use Rattle.ff_types.specs.declared.patterns.Pattern.{Pattern}
use Rattle.ff_types.specs.declared.faces.Faces.{Faces}
use Rattle.ff_types.specs.declared.faces.Folded.{Folded}
use Rattle.ff_types.specs.declared.cases.Case.{Case}
use Rattle.ff_types.specs.declared.refusals.Refusal.{Refusal}
use Rattle.ff_crossings.specs.CaseLaws.{AreAlike}
use Rattle.ff_problem.specs.Problems.{IsProblem, RefusesProblem}

-- the same faces and folding, and cases that differ at most in the places of their cites
pub record AreSameProblems (faces others : Faces) (folded other : Folded) (case second : Case) : Type 0 where
  pub faces_are : faces ≡ others
  pub folded_are : folded ≡ other
  pub alike : AreAlike case second

-- a pattern has one problem, but for places
abbrev pub ProblemIsOne : Type 0
ProblemIsOne = (p : Pattern) (faces others : Faces) (folded other : Folded) (case second : Case) → IsProblem p faces folded case
    → IsProblem p others other second → AreSameProblems faces others folded other case second

-- a pattern that comes to a case isn't refused, and another has one refusal
abbrev pub ProblemsAreNotRefused : Type 0
ProblemsAreNotRefused = (p : Pattern) (faces : Faces) (folded : Folded) (case : Case) (r : Refusal) → IsProblem p faces folded case
    → RefusesProblem p r → ⊥

-- and one refusal
abbrev pub ProblemRefusalIsOne : Type 0
ProblemRefusalIsOne = (p : Pattern) (r s : Refusal) → RefusesProblem p r → RefusesProblem p s → r ≡ s
