-- What an accordion comes to.
use Rattle.std.proofs.Common.{ℕ, ◌≤◌, ◌<◌, ◌^◌, length, Result, Ok, Err, IfOk, IfErr, MatchResult, arith}
use Rattle.ff_tables.specs.declared.memory.NoMemory.{NoMemory}
use Rattle.ff_types.specs.declared.patterns.Pattern.{Pattern}
use Rattle.ff_types.specs.declared.faces.Faces.{Faces}
use Rattle.ff_types.specs.declared.faces.Folded.{Folded}
use Rattle.ff_types.specs.declared.cases.Case.{Case}
use Rattle.ff_types.specs.declared.refusals.No.{No}
use Rattle.ff_types.specs.declared.refusals.No.TheVariants as no
use Rattle.ff_problem.specs.declared.problems.Problem.{Problem}
use Rattle.ff_problem.specs.Problems.{IsProblem, WhyNoProblem}
use Rattle.ff_problem.proofs.FewInCases.{few_constraints, few_starts}
use Rattle.ff_solve.specs.declared.summaries.Summary.{Summary}
use Rattle.ff_solve.specs.Summaries.{IsSummary}
use Rattle.ff_make.specs.Laws.{IsMade}
use Rattle.ff_made.specs.Making.{IsMadeSolved, MakesProblem, WhyNoneMade}

pub made_some : (count : ℕ) (r : Result Pattern NoMemory) → IfOk r (λ p. IsMade count p) → IfOk r (λ p. 1 ≤ length p.points)
made_some count (Ok p) h = omega (arith, h.vertices.as_many)
made_some count (Err e) h = tt

pub made_comes : (count : ℕ) (p : Pattern) → IsMade count p → (r : Result Problem No) → MatchResult r (λ x. IsProblem p x.faces x.folded x.case) (WhyNoProblem p)
    → IfOk r (λ x. MakesProblem count x.faces x.folded x.case)
made_comes count p made (Ok x) h = record { pattern = p; made = made; problem = h }
made_comes count p made (Err n) h = tt

why_none : (count : ℕ) (p : Pattern) → IsMade count p → (n : No) → WhyNoProblem p n → WhyNoneMade count n
why_none count p made (no.Refused r) h = record { pattern = p; made = made; refused = h }
why_none count p made no.NoMemory h = tt

pub made_none : (count : ℕ) (p : Pattern) → IsMade count p → (r : Result Problem No) → MatchResult r (λ x. IsProblem p x.faces x.folded x.case) (WhyNoProblem p)
    → IfErr r (WhyNoneMade count)
made_none count p made (Ok x) h = tt
made_none count p made (Err n) h = why_none count p made n h

pub few_of : (count : ℕ) (faces : Faces) (folded : Folded) (case : Case) → MakesProblem count faces folded case
    → (length case.system.constraints < 2 ^ 32) × (length case.starts < 2 ^ 32)
few_of count faces folded case makes =
    let s = few_starts makes.pattern faces folded case makes.problem in
    let c = few_constraints makes.pattern faces folded case makes.problem in
    (omega (arith, c), omega (arith, s))

pub made_summary : (count budget : ℕ) (faces : Faces) (folded : Folded) (case : Case) → MakesProblem count faces folded case
    → (r : Result Summary NoMemory) → IfOk r (λ x. IsSummary count faces folded case budget x.last x.text) → IfOk r (λ x. IsMadeSolved count budget x.last x.text)
made_summary count budget faces folded case makes (Ok x) h = record { faces = faces; folded = folded; case = case; makes = makes; summary = h }
made_summary count budget faces folded case makes (Err e) h = tt
