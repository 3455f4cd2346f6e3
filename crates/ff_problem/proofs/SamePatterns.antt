-- What a pattern comes to rests on its lists alone.
use Rattle.std.proofs.Common.{◌≡◌, inl, inr, List, Option, ap, subst}
use Rattle.ff_whole.specs.declared.points.Pt.{Pt}
use Rattle.ff_types.specs.declared.patterns.EdgeEnds.{EdgeEnds}
use Rattle.ff_types.specs.declared.patterns.Mark.{Mark}
use Rattle.ff_types.specs.declared.patterns.Pattern.{Pattern}
use Rattle.ff_types.specs.declared.faces.Faces.{Faces}
use Rattle.ff_types.specs.declared.faces.Folded.{Folded}
use Rattle.ff_types.specs.declared.cases.Case.{Case}
use Rattle.ff_types.specs.declared.refusals.Refusal.{Refusal}
use Rattle.ff_types.specs.Drawings.{IsDrawing}
use Rattle.ff_types.specs.Sides.{AreFaces}
use Rattle.ff_types.specs.Foldings.{IsFolding}
use Rattle.ff_types.specs.FaceRefusals.{RefusesFaces}
use Rattle.ff_types.specs.FoldRefusals.{RefusesFolding}
use Rattle.ff_types.specs.FoldedPatterns.{IsFoldedPattern}
use Rattle.ff_types.specs.Sheets.{Sheet, sheet_of}
use Rattle.ff_types.specs.Cases.{IsCaseOf}
use Rattle.ff_types.specs.Assignments.{IsTrueTo}
use Rattle.ff_planar.specs.Given.{AreGiven}
use Rattle.ff_reflect.proofs.Assembly.{refused}
use Rattle.ff_problem.specs.Limits.{IsWithinLimits, RefusesCase}
use Rattle.ff_problem.specs.Problems.{IsProblem, RefusesProblem}

module _ (p q : Pattern) (points : p.points ≡ q.points) (edges : p.edges ≡ q.edges) (marks : p.marks ≡ q.marks) where
  pub sheets : (faces : Faces) (folded : Folded) → sheet_of p faces folded ≡ sheet_of q faces folded
  sheets faces folded = ap (λ (es : List EdgeEnds). record { images = folded.points; rings = faces.rings; up = folded.up; edges = es; sides = faces.sides; marks = faces.marks }) edges

  drawn : IsDrawing p.points p.edges → IsDrawing q.points q.edges
  drawn h = subst (λ (ps : List Pt). IsDrawing ps q.edges) points (subst (λ (es : List EdgeEnds). IsDrawing p.points es) edges h)

  faced : (faces : Faces) → AreFaces p.points p.edges p.marks faces.rings faces.sides faces.marks → AreFaces q.points q.edges q.marks faces.rings faces.sides faces.marks
  faced faces h = subst (λ (ps : List Pt). AreFaces ps q.edges q.marks faces.rings faces.sides faces.marks) points
      (subst (λ (es : List EdgeEnds). AreFaces p.points es q.marks faces.rings faces.sides faces.marks) edges
      (subst (λ (ms : Option (List Mark)). AreFaces p.points p.edges ms faces.rings faces.sides faces.marks) marks h))

  pub folds_there : (faces : Faces) (folded : Folded) → IsFoldedPattern p faces folded → IsFoldedPattern q faces folded
  folds_there faces folded h = record {
    drawing = drawn h.drawing;
    faces_are = faced faces h.faces_are;
    few_faces = h.few_faces;
    folding = subst (λ (ps : List Pt). IsFolding ps faces.rings faces.sides faces.marks folded.scale folded.points folded.up) points h.folding;
    near = h.near;
  }

  pub problem_there : (faces : Faces) (folded : Folded) (case : Case) → IsProblem p faces folded case → IsProblem q faces folded case
  problem_there faces folded case h = record {
    folds = folds_there faces folded h.folds;
    within = subst IsWithinLimits (sheets faces folded) h.within;
    case_is = subst (λ (g : Sheet). IsCaseOf g case) (sheets faces folded) h.case_is;
    true_to = subst (λ (g : Sheet). IsTrueTo g case) (sheets faces folded) h.true_to;
  }

  given_there : (faces : Faces) → AreGiven p.points p.edges p.marks faces → AreGiven q.points q.edges q.marks faces
  given_there faces h = record { drawing = drawn h.drawing; faces_are = faced faces h.faces_are; few = h.few }

  pub refused_there : (r : Refusal) → RefusesProblem p r → RefusesProblem q r
  refused_there r (inl h) = inl (subst (λ (ps : List Pt). RefusesFaces ps q.edges q.marks r) points
      (subst (λ (es : List EdgeEnds). RefusesFaces p.points es q.marks r) edges (subst (λ (ms : Option (List Mark)). RefusesFaces p.points p.edges ms r) marks h)))
  refused_there r (inr (inl (faces, g, h))) = inr (inl (
    faces,
    given_there faces g,
    refused q faces r (record { drawing = drawn g.drawing; faces = faced faces g.faces_are })
        (subst (λ (ps : List Pt). RefusesFolding ps faces.rings q.edges faces.sides faces.marks r) points (subst (λ (es : List EdgeEnds). RefusesFolding p.points faces.rings es faces.sides faces.marks r) edges h.stop)),
  ))
  refused_there r (inr (inr (faces, folded, f, h))) = inr (inr (faces, folded, folds_there faces folded f, subst (λ (g : Sheet). RefusesCase g r) (sheets faces folded) h))
