-- The answer to `make` is one.
use Rattle.std.proofs.Common.{◌≡◌, ◌∙◌, ℕ, List, Option, Some, None, refl, ap, sym, subst}
use Rattle.ff_types.specs.declared.patterns.Pattern.{Pattern}
use Rattle.ff_types.specs.declared.faces.Faces.{Faces}
use Rattle.ff_types.specs.declared.faces.Folded.{Folded}
use Rattle.ff_types.specs.declared.cases.Case.{Case}
use Rattle.ff_types.specs.declared.refusals.Refusal.{Refusal}
use Rattle.ff_problem.specs.Laws.{AreSameProblems}
use Rattle.ff_problem.specs.Problems.{RefusesProblem}
use Rattle.ff_problem.proofs.OneProblem.{problem_is_one, problem_refusal_is_one, problems_are_not_refused}
use Rattle.ff_problem.proofs.SamePatterns.{problem_there, refused_there}
use Rattle.ff_report.specs.Refusals.{refusal_line}
use Rattle.ff_report.specs.declared.lines.Last.{Last}
use Rattle.ff_solve.specs.Summaries.{IsSummary}
use Rattle.ff_solve.proofs.OneReport.{summary_is_one}
use Rattle.ff_make.specs.Laws.{AccordionIsOne, IsMade}
use Rattle.ff_made.specs.Making.{IsMadeSolved, MakesProblem, MakesRefused}
use Rattle.ff_made.specs.Answers.{AnswersCount, OneSummary}

module _ (accordion_is_one : AccordionIsOne) where
  -- the refusal of an accordion is that of another
  refused_as : (count : ℕ) (p q : Pattern) (r : Refusal) → IsMade count p → IsMade count q → RefusesProblem p r → RefusesProblem q r
  refused_as count p q r a b h = let e = accordion_is_one count p q a b in refused_there p q e.0 e.1 e.2 r h

  one_refusal : (count : ℕ) (q r : Refusal) → MakesRefused count q → MakesRefused count r → q ≡ r
  one_refusal count q r a b = problem_refusal_is_one b.pattern q r (refused_as count a.pattern b.pattern q a.made b.made a.refused) b.refused

  not_refused : (count : ℕ) (r : Refusal) (faces : Faces) (folded : Folded) (case : Case) → MakesRefused count r → MakesProblem count faces folded case → ⊥
  not_refused count r faces folded case a b = problems_are_not_refused b.pattern faces folded case r b.problem (refused_as count a.pattern b.pattern r a.made b.made a.refused)

  same_problem : (count : ℕ) (faces others : Faces) (folded other : Folded) (case second : Case) → MakesProblem count faces folded case → MakesProblem count others other second
      → AreSameProblems faces others folded other case second
  same_problem count faces others folded other case second a b =
      let e = accordion_is_one count a.pattern b.pattern a.made b.made in
      problem_is_one b.pattern faces others folded other case second (problem_there a.pattern b.pattern e.0 e.1 e.2 faces folded case a.problem) b.problem

  solved_once : (count budget : ℕ) (l m : Last) (x y : List ℕ) → IsMadeSolved count budget l x → IsMadeSolved count budget m y → (l ≡ m) × (x ≡ y)
  solved_once count budget l m x y a b = summary_is_one count b.faces b.folded a.case b.case budget l m x y same.alike there b.summary where
    same : AreSameProblems a.faces b.faces a.folded b.folded a.case b.case
    same = same_problem count a.faces b.faces a.folded b.folded a.case b.case a.makes b.makes

    there : IsSummary count b.faces b.folded a.case budget l x
    there = subst (λ (d : Folded). IsSummary count b.faces d a.case budget l x) same.folded_are (subst (λ (fs : Faces). IsSummary count fs a.folded a.case budget l x) same.faces_are a.summary)

  one_answers : (count budget : ℕ) (l m : Option Last) (x y : List ℕ) → AnswersCount count budget l x → AnswersCount count budget m y → (l ≡ m) × (x ≡ y)
  one_answers count budget None None x y (q, a, f) (r, b, g) = (refl, f ∙ ap refusal_line (one_refusal count q r a b) ∙ sym g)
  one_answers count budget None (Some m) x y (q, a, f) b = absurd (not_refused count q b.faces b.folded b.case a b.makes)
  one_answers count budget (Some l) None x y a (r, b, g) = absurd (not_refused count r a.faces a.folded a.case b a.makes)
  one_answers count budget (Some l) (Some m) x y a b = let o = solved_once count budget l m x y a b in (ap Some o.0, o.1)

  pub one_answer : OneSummary
  one_answer count budget l m x y a b = one_answers count budget l m x y a b
