-- A pattern folds or is refused, and comes to a case or is refused.
use Rattle.std.proofs.Common.{◌⊎◌, inl, inr}
use Rattle.ff_types.specs.declared.patterns.Pattern.{Pattern}
use Rattle.ff_types.specs.declared.faces.Faces.{Faces}
use Rattle.ff_types.specs.declared.faces.Folded.{Folded}
use Rattle.ff_types.specs.declared.cases.Case.{Case}
use Rattle.ff_types.specs.declared.refusals.Refusal.{Refusal}
use Rattle.ff_types.specs.FoldedPatterns.{IsFoldedPattern}
use Rattle.ff_planar.specs.Given.{AreGiven}
use Rattle.ff_planar.proofs.SomeFaces.{not_neither}
use Rattle.ff_reflect.specs.Sheets.{paper_of}
use Rattle.ff_reflect.proofs.SomeFoldings.{not_neither as folds_or_not}
use Rattle.ff_reflect.proofs.Assembly.{refused as refused_folding}
use Rattle.ff_problem.specs.Problems.{IsProblem, RefusesAsDrawn, RefusesAsFolded, RefusesProblem}
use Rattle.ff_answers.specs.Answers.{PatternsCome, PatternsFold}
use Rattle.ff_answers.proofs.Coming.{folded_patterns_come}

module _ (p : Pattern) (refused : (r : Refusal) → RefusesAsDrawn p r ⊎ RefusesAsFolded p r → ⊥)
    (folds : (faces : Faces) (folded : Folded) → IsFoldedPattern p faces folded → ⊥) where
  given : (faces : Faces) → AreGiven p.points p.edges p.marks faces → ⊥
  given faces g = folds_or_not (paper_of p faces)
      (λ r h. refused r (inr (faces, g, refused_folding p faces r (record { drawing = g.drawing; faces = g.faces_are }) h)))
      (record { drawing = g.drawing; faces = g.faces_are })
      (λ scale images up f near. folds faces (record { scale = scale; points = images; up = up })
      (record { drawing = g.drawing; faces_are = g.faces_are; few_faces = g.few; folding = f; near = near }))

  of_pattern : ⊥
  of_pattern = not_neither p.points p.edges p.marks p.valid given (λ r h. refused r (inl h))

pub patterns_fold : PatternsFold
patterns_fold p refused folds = of_pattern p refused folds

-- its refusal is one of the pattern
whole_refusal : (p : Pattern) (r : Refusal) → RefusesAsDrawn p r ⊎ RefusesAsFolded p r → RefusesProblem p r
whole_refusal p r (inl h) = inl h
whole_refusal p r (inr h) = inr (inl h)

pub patterns_come : PatternsCome
patterns_come p refused comes = patterns_fold p (λ r h. refused r (whole_refusal p r h)) (λ faces folded h. folded_patterns_come h
    (λ r x. refused r (inr (inr (faces, folded, h, x)))) (λ case problem. comes faces folded case problem))
