-- A pattern comes to one case, or has one refusal.
use Rattle.std.proofs.Common.{◌≡◌, ◌⊎◌, inl, inr, ℕ, ℤ, ◌<◌, ◌≤◌, ◌∙◌, Bool, List, length, Option, Some, None, refl, ap, sym, subst, arith}
use Rattle.std.proofs.lemmas.Option.{slice_get_within, get_or_from_slice_get}
use Rattle.ff_whole.specs.declared.points.Pt.{Pt}
use Rattle.ff_types.specs.declared.patterns.Pattern.{Pattern}
use Rattle.ff_types.specs.declared.patterns.EdgeEnds.{EdgeEnds}
use Rattle.ff_types.specs.declared.patterns.Mark.{Mark}
use Rattle.ff_types.specs.declared.patterns.Mark.TheVariants.{B}
use Rattle.ff_types.specs.declared.faces.EdgeSides.{EdgeSides}
use Rattle.ff_types.specs.declared.faces.Faces.{Faces}
use Rattle.ff_types.specs.declared.faces.Folded.{Folded}
use Rattle.ff_types.specs.declared.refusals.Refusal.{Refusal}
use Rattle.ff_types.specs.Patterns.{edge_at}
use Rattle.ff_types.specs.Faces.{ring_at}
use Rattle.ff_types.specs.Rings.{Goes}
use Rattle.ff_types.specs.Drawings.{IsDrawing}
use Rattle.ff_types.specs.Sides.{AreFaces, AreSides, IsFaceOf, IsMarkOf, sides_at}
use Rattle.ff_types.specs.FoldedPatterns.{IsFoldedPattern}
use Rattle.ff_crossings.proofs.Alike.{by_places, cases_are_alike}
use Rattle.ff_types.specs.declared.refusals.No.TheVariants.{Refused}
use Rattle.ff_types.specs.FoldRefusals.{RefusesFolding}
use Rattle.ff_types.specs.Sheets.{Sheet, sheet_of}
use Rattle.ff_types.specs.Cases.{IsCaseOf}
use Rattle.ff_whole.specs.declared.places.Place.{Place}
use Rattle.ff_cells.specs.SlabCells.{WhyNoCells, AreOneEach, StandInCells, entries, HasFewCells}
use Rattle.ff_cells.proofs.Counting.{counted_once}
use Rattle.ff_planar.specs.Given.{AreGiven}
use Rattle.ff_planar.proofs.FacesOnce.{faces_once}
use Rattle.ff_planar.proofs.Stages.{graph_of, one_refusal as one_drawn_refusal}
use Rattle.ff_planar.proofs.GivenNotRefused.{not_refused}
use Rattle.ff_reflect.specs.Sheets.{paper_of}
use Rattle.ff_reflect.specs.Laws.{IsSameFolding}
use Rattle.ff_reflect.proofs.OneFolding.{one_folding}
use Rattle.ff_reflect.proofs.OneRefusal.{one_refusal as one_unfolded_refusal}
use Rattle.ff_reflect.proofs.Refused.{none_near}
use Rattle.ff_reflect.specs.Folding.{IsRefused}
use Rattle.ff_problem.specs.Limits.{RefusesCase, IsWithinLimits}
use Rattle.ff_problem.specs.Problems.{RefusesAsDrawn, RefusesAsFolded}
use Rattle.ff_problem.specs.Laws.{ProblemIsOne, ProblemsAreNotRefused, ProblemRefusalIsOne}

-- ---- the faces beside an edge are determined

one_face : (rings : List (List ℕ)) → ((f g u v : ℕ) → f < length rings → g < length rings → Goes (ring_at rings f) u v → Goes (ring_at rings g) u v → f ≡ g)
    → (u v : ℕ) (o p : Option ℕ) → IsFaceOf rings u v o → IsFaceOf rings u v p → o ≡ p
one_face rings one u v None None a b = refl
one_face rings one u v None (Some g) a b = absurd (a (g, b.0, b.1))
one_face rings one u v (Some f) None a b = absurd (b (f, a.0, a.1))
one_face rings one u v (Some f) (Some g) a b = ap Some (one f g u v a.0 b.0 a.1 b.1)

one_sides : (rings : List (List ℕ)) → ((f g u v : ℕ) → f < length rings → g < length rings → Goes (ring_at rings f) u v → Goes (ring_at rings g) u v → f ≡ g)
    → (e : EdgeEnds) (s t : EdgeSides) → AreSides rings e s → AreSides rings e t → s ≡ t
one_sides rings one e s t a b = of_fields (one_face rings one e.a e.b s.left t.left a.left b.left) (one_face rings one e.b e.a s.right t.right a.right b.right) where
  of_fields : s.left ≡ t.left → s.right ≡ t.right → s ≡ t
  of_fields l r = ap (λ (x : Option ℕ). record { left = x; right = s.right }) l ∙ ap (λ (x : Option ℕ). record { left = t.left; right = x }) r

one_mark : (marks : Option (List Mark)) (e : ℕ) (sides : EdgeSides) (m n : Mark) → IsMarkOf marks e sides m → IsMarkOf marks e sides n → m ≡ n
one_mark None e sides m n a b = a ∙ sym b
one_mark (Some marks) e sides m n a b = a ∙ sym b

module _ (points : List Pt) (edges : List EdgeEnds) (marks : Option (List Mark)) (rings : List (List ℕ)) where
  same_sides : (s t : List EdgeSides) (m n : List Mark) → AreFaces points edges marks rings s m → AreFaces points edges marks rings t n → s ≡ t
  same_sides s t m n a b = by_places s t (a.as_many_sides ∙ sym b.as_many_sides) (λ e x y p q.
      let l = slice_get_within s e x p in
      let k : e < length edges = omega (arith, l, a.as_many_sides) in
      one_sides rings a.rings_are.one (edge_at edges e) x y
      (subst (λ z. AreSides rings (edge_at edges e) z) (get_or_from_slice_get s e x (record { left = None; right = None }) p) (a.sides_are e k))
      (subst (λ z. AreSides rings (edge_at edges e) z) (get_or_from_slice_get t e y (record { left = None; right = None }) q) (b.sides_are e k)))

  same_marks : (s : List EdgeSides) (m n : List Mark) → AreFaces points edges marks rings s m → AreFaces points edges marks rings s n → m ≡ n
  same_marks s m n a b = by_places m n (a.as_many_marks ∙ sym b.as_many_marks) (λ e x y p q.
      let l = slice_get_within m e x p in
      let k : e < length edges = omega (arith, l, a.as_many_marks) in
      one_mark marks e (sides_at s e) x y
      (subst (λ z. IsMarkOf marks e (sides_at s e) z) (get_or_from_slice_get m e x B p) (a.marks_are e k))
      (subst (λ z. IsMarkOf marks e (sides_at s e) z) (get_or_from_slice_get n e y B q) (b.marks_are e k)))

-- a drawing has one list of faces
pub same_faces : (points : List Pt) (edges : List EdgeEnds) (marks : Option (List Mark)) (faces others : Faces) → IsDrawing points edges
    → AreFaces points edges marks faces.rings faces.sides faces.marks → AreFaces points edges marks others.rings others.sides others.marks → faces ≡ others
same_faces points edges marks faces others d a b = of_fields rings sides (same_marks points edges marks others.rings others.sides faces.marks others.marks there2 b) where
  rings : faces.rings ≡ others.rings
  rings = faces_once points edges d marks faces.rings others.rings a.rings_are b.rings_are

  there : AreFaces points edges marks others.rings faces.sides faces.marks
  there = subst (λ rs. AreFaces points edges marks rs faces.sides faces.marks) rings a

  sides : faces.sides ≡ others.sides
  sides = same_sides points edges marks others.rings faces.sides others.sides faces.marks others.marks there b

  there2 : AreFaces points edges marks others.rings others.sides faces.marks
  there2 = subst (λ ss. AreFaces points edges marks others.rings ss faces.marks) sides there

  of_fields : faces.rings ≡ others.rings → faces.sides ≡ others.sides → faces.marks ≡ others.marks → faces ≡ others
  of_fields r s m = ap (λ (x : List (List ℕ)). record { rings = x; sides = faces.sides; marks = faces.marks }) r
      ∙ ap (λ (x : List EdgeSides). record { rings = others.rings; sides = x; marks = faces.marks }) s
      ∙ ap (λ (x : List Mark). record { rings = others.rings; sides = others.sides; marks = x }) m

-- the folding of these faces is one
pub same_folded : (p : Pattern) (faces : Faces) (folded other : Folded) → IsFoldedPattern p faces folded → IsFoldedPattern p faces other → folded ≡ other
same_folded p faces folded other a b = of_fields same.scale same.points same.flags_too where
  same : IsSameFolding folded.scale folded.points folded.up other.scale other.points other.up
  same = one_folding (paper_of p faces) (record { drawing = a.drawing; faces = a.faces_are }) folded.scale folded.points folded.up a.folding other.scale other.points other.up b.folding

  of_fields : folded.scale ≡ other.scale → folded.points ≡ other.points → folded.up ≡ other.up → folded ≡ other
  of_fields d s u = ap (λ (x : ℤ). record { scale = x; points = folded.points; up = folded.up }) d
      ∙ ap (λ (x : List Pt). record { scale = other.scale; points = x; up = folded.up }) s
      ∙ ap (λ (x : List Bool). record { scale = other.scale; points = other.points; up = x }) u

-- a folded pattern is one
module _ (p : Pattern) (faces others : Faces) (folded other : Folded) (a : IsFoldedPattern p faces folded) (b : IsFoldedPattern p others other) where
  pub faces_same : faces ≡ others
  faces_same = same_faces p.points p.edges p.marks faces others a.drawing a.faces_are b.faces_are

  pub folded_same : folded ≡ other
  folded_same = same_folded p others folded other (subst (λ fs. IsFoldedPattern p fs folded) faces_same a) b

pub problem_is_one : ProblemIsOne
problem_is_one p faces others folded other case second a b = record {
  faces_are = faces_same p faces others folded other a.folds b.folds;
  folded_are = folded_same p faces others folded other a.folds b.folds;
  alike = cases_are_alike a.folds case second a.case_is
      (subst (λ fs. IsCaseOf (sheet_of p fs folded) second) (sym (faces_same p faces others folded other a.folds b.folds))
      (subst (λ d. IsCaseOf (sheet_of p others d) second) (sym (folded_same p faces others folded other a.folds b.folds)) b.case_is));
}

-- ---- refusals

-- slab cells and their entries are counted one way only
pub record CountsAgree (g : Sheet) : Type 0 where
  pub no_longer : (places others : List Place) → StandInCells g places → AreOneEach g others → length places ≤ length others
  pub same_entries : (places others : List Place) → AreOneEach g places → AreOneEach g others → entries g places ≡ entries g others

counts : (p : Pattern) (faces : Faces) (folded : Folded) → IsFoldedPattern p faces folded → CountsAgree (sheet_of p faces folded)
counts p faces folded h = record {
  no_longer = λ places others s a. (counted_once h others places a s).0;
  same_entries = λ places others a b. let x = (counted_once h others places b a.stand).1 in let y = (counted_once h places others a b.stand).1 in omega (arith, x, y);
}

-- a sheet within the limits isn't refused, and another has one refusal
module _ (g : Sheet) (counts : CountsAgree g) where
  few_or_refused : {A : Type 0} (r : Refusal) → HasFewCells g → WhyNoCells g (Refused r) → A
  few_or_refused r few (inl (e, (places, stand, many))) = let l = counts.no_longer places few.places stand few.one_each in absurd (omega (arith, l, many, few.few))
  few_or_refused r few (inr (e, (places, each, less, many))) = absurd (omega (arith, counts.same_entries places few.places each few.one_each, many, few.few_entries))

  pub within_or_refused : (r : Refusal) → IsWithinLimits g → RefusesCase g r → ⊥
  within_or_refused r w (inl n) = few_or_refused r w.cells n
  within_or_refused r w (inr (few, inl (e, many))) = w.pairs many
  within_or_refused r w (inr (few, inr (no_pairs, e, many))) = w.constraints many

  one_cells : (r s : Refusal) → WhyNoCells g (Refused r) → WhyNoCells g (Refused s) → r ≡ s
  one_cells r s (inl a) (inl b) = a.0 ∙ sym b.0
  one_cells r s (inr a) (inr b) = a.0 ∙ sym b.0
  one_cells r s (inl (e, (places, stand, many))) (inr (f, (others, each, less, more))) = let l = counts.no_longer places others stand each in absurd (omega (arith, l, many, less))
  one_cells r s (inr (f, (others, each, less, more))) (inl (e, (places, stand, many))) = let l = counts.no_longer places others stand each in absurd (omega (arith, l, many, less))

  pub one_case_refusal : (r s : Refusal) → RefusesCase g r → RefusesCase g s → r ≡ s
  one_case_refusal r s (inl a) (inl b) = one_cells r s a b
  one_case_refusal r s (inl a) (inr b) = few_or_refused r b.0 a
  one_case_refusal r s (inr a) (inl b) = few_or_refused s a.0 b
  one_case_refusal r s (inr (f, inl a)) (inr (h, inl b)) = a.0 ∙ sym b.0
  one_case_refusal r s (inr (f, inl a)) (inr (h, inr b)) = absurd (b.0 a.1)
  one_case_refusal r s (inr (f, inr a)) (inr (h, inl b)) = absurd (a.0 b.1)
  one_case_refusal r s (inr (f, inr a)) (inr (h, inr b)) = a.1 ∙ sym b.1

-- no folding is refused as one, and no faces are
given_of : (p : Pattern) (faces : Faces) (folded : Folded) → IsFoldedPattern p faces folded → AreGiven p.points p.edges p.marks faces
given_of p faces folded a = record { drawing = a.drawing; faces_are = a.faces_are; few = a.few_faces }

drawn_or_folded : {A : Type 0} (p : Pattern) (faces : Faces) (r : Refusal) → AreGiven p.points p.edges p.marks faces → RefusesAsDrawn p r → A
drawn_or_folded p faces r a b = absurd (not_refused p.points p.edges p.marks (graph_of p.points p.edges p.marks p.valid) faces a r b)

unfolded_or_folded : {A : Type 0} (p : Pattern) (faces others : Faces) (folded : Folded) (r : Refusal) → IsFoldedPattern p faces folded → AreGiven p.points p.edges p.marks others
    → IsRefused p others r → A
unfolded_or_folded p faces others folded r a g b =
    let same = same_faces p.points p.edges p.marks faces others a.drawing a.faces_are g.faces_are in
    let there = subst (λ (fs : Faces). IsRefused p fs r) (sym same) b in
    absurd (none_near p faces r there.none folded.scale folded.points folded.up a.folding a.near)

layered_there : (p : Pattern) (faces others : Faces) (folded other : Folded) (r : Refusal) → IsFoldedPattern p faces folded → IsFoldedPattern p others other
    → RefusesCase (sheet_of p others other) r → RefusesCase (sheet_of p faces folded) r
layered_there p faces others folded other r a b c = subst (λ fs. RefusesCase (sheet_of p fs folded) r) (sym (faces_same p faces others folded other a b))
    (subst (λ d. RefusesCase (sheet_of p others d) r) (sym (folded_same p faces others folded other a b)) c)

-- a pattern that folds is refused neither as it is drawn nor as it is folded
pub folded_not_refused : (p : Pattern) (faces : Faces) (folded : Folded) (r : Refusal) → IsFoldedPattern p faces folded → RefusesAsDrawn p r ⊎ RefusesAsFolded p r → ⊥
folded_not_refused p faces folded r a (inl b) = drawn_or_folded p faces r (given_of p faces folded a) b
folded_not_refused p faces folded r a (inr (others, g, b)) = unfolded_or_folded p faces others folded r a g b

pub problems_are_not_refused : ProblemsAreNotRefused
problems_are_not_refused p faces folded case r a (inl b) = folded_not_refused p faces folded r a.folds (inl b)
problems_are_not_refused p faces folded case r a (inr (inl b)) = folded_not_refused p faces folded r a.folds (inr b)
problems_are_not_refused p faces folded case r a (inr (inr (others, other, f, b))) =
    within_or_refused (sheet_of p faces folded) (counts p faces folded a.folds) r a.within (layered_there p faces others folded other r a.folds f b)

pub problem_refusal_is_one : ProblemRefusalIsOne
problem_refusal_is_one p r s (inl a) (inl b) = one_drawn_refusal p.points p.edges p.marks r s a b
problem_refusal_is_one p r s (inl a) (inr (inl (faces, g, b))) = drawn_or_folded p faces r g a
problem_refusal_is_one p r s (inl a) (inr (inr (faces, folded, f, b))) = drawn_or_folded p faces r (given_of p faces folded f) a
problem_refusal_is_one p r s (inr (inl (faces, g, b))) (inl a) = drawn_or_folded p faces s g a
problem_refusal_is_one p r s (inr (inr (faces, folded, f, b))) (inl a) = drawn_or_folded p faces s (given_of p faces folded f) a
problem_refusal_is_one p r s (inr (inl (faces, g, b))) (inr (inl (others, h, c))) =
    let same = same_faces p.points p.edges p.marks faces others g.drawing g.faces_are h.faces_are in
    one_unfolded_refusal (paper_of p others) (record { drawing = h.drawing; faces = h.faces_are }) r s (subst (λ (fs : Faces). RefusesFolding p.points fs.rings p.edges fs.sides fs.marks r) same b.stop) c.stop
problem_refusal_is_one p r s (inr (inl (others, g, b))) (inr (inr (faces, folded, f, c))) = unfolded_or_folded p faces others folded r f g b
problem_refusal_is_one p r s (inr (inr (faces, folded, f, c))) (inr (inl (others, g, b))) = unfolded_or_folded p faces others folded s f g b
problem_refusal_is_one p r s (inr (inr (faces, folded, f, c))) (inr (inr (others, other, h, d))) =
    one_case_refusal (sheet_of p faces folded) (counts p faces folded f) r s c (layered_there p faces others folded other s f h d)
