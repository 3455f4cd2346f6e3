-- The faces that are given are those of the drawing.
use Rattle.std.proofs.Common.{◌≡◌, ◌⊎◌, inl, inr, ℕ, ◌+◌, ◌<◌, ◌≤◌, List, [], ◌∷◌, ◌++◌, length, Option, Some, None, arith, sym, ap, ◌∙◌, subst}
use Rattle.std.proofs.lemmas.List.{get_or_append_left, get_or_push}
use Rattle.ff_basics.proofs.Numbers.{last_or}
use Rattle.ff_whole.specs.declared.points.Pt.{Pt}
use Rattle.ff_types.specs.declared.patterns.EdgeEnds.{EdgeEnds}
use Rattle.ff_types.specs.declared.patterns.Mark.{Mark}
use Rattle.ff_types.specs.declared.patterns.Mark.TheVariants.{B}
use Rattle.ff_types.specs.declared.faces.EdgeSides.{EdgeSides}
use Rattle.ff_types.specs.declared.refusals.No.{No}
use Rattle.ff_types.specs.declared.refusals.No.TheVariants as no
use Rattle.ff_types.specs.Faces.{mark_at, AreRings}
use Rattle.ff_types.specs.Sides.{sides_at, IsFaceOf, IsMarkOf, AreFaces}
use Rattle.ff_planar.specs.Seen.{IsSeenOf}
use Rattle.ff_planar.specs.Given.{IsFound, IsNotFound, WhyNoFaces, AreFilled}
use Rattle.ff_planar.proofs.FacesWalks.{not_outside}
use Rattle.ff_planar.proofs.FacesOnce.{faces_once}

pub mark_more : (marks : Option (List Mark)) (seen : List EdgeSides) (filled : List Mark) (e : ℕ) (new : Mark) → length filled ≡ e → ((k : ℕ) → k < e → IsMarkOf marks k (sides_at seen k) (mark_at filled k))
    → IsMarkOf marks e (sides_at seen e) new → (k : ℕ) → k < e + 1 → IsMarkOf marks k (sides_at seen k) (mark_at (filled ++ new ∷ []) k)
mark_more marks seen filled e new n h s k l = elim (last_or k e l) [
  | inl m ↦ subst (IsMarkOf marks k (sides_at seen k)) (sym (get_or_append_left filled (new ∷ []) B k (omega (arith, m, n)))) (h k m)
  | inr m ↦ subst (IsMarkOf marks k (sides_at seen k)) (sym (get_or_push filled new B k (n ∙ sym m))) (subst (λ j. IsMarkOf marks j (sides_at seen j) new) (sym m) s)
]

module _ (points : List Pt) (edges : List EdgeEnds) (marks : Option (List Mark)) (rings : List (List ℕ)) (seen : List EdgeSides) (f : IsFound points edges marks rings seen) where
  face_of : (u v : ℕ) (side : Option ℕ) → IsSeenOf points edges rings u v side → IsFaceOf rings u v side
  face_of u v (Some g) h = h
  face_of u v None h = λ b. not_outside points edges f.drawing marks rings f.found.rings_are u v b h

  pub faces_from : (filled : List Mark) → AreFilled marks seen filled → AreFaces points edges marks rings seen filled
  faces_from filled a = record {
    rings_are = f.found.rings_are;
    as_many_sides = f.seen_are.as_many;
    sides_are = λ e l. let w = f.seen_are.each e l in record { left = face_of _ _ _ w.left; right = face_of _ _ _ w.right };
    as_many_marks = a.as_many ∙ f.seen_are.as_many;
    marks_are = λ e l. let n = f.seen_are.as_many in a.each e (omega (arith, l, n));
  }

  -- more faces than the limit: no list of faces is within it
  pub too_many : 2048 < length rings → (others : List (List ℕ)) → AreRings points edges marks others → length others ≤ 2048 → ⊥
  too_many l others a m = let n = ap length (faces_once points edges f.drawing marks rings others f.found.rings_are a) in omega (arith, l, m, n)

-- what wasn't found isn't within the limit
pub no_faces : (points : List Pt) (edges : List EdgeEnds) (marks : Option (List Mark)) (n : No) → IsNotFound points edges marks n → WhyNoFaces points edges marks n
no_faces points edges marks (no.Refused r) h = (h.0, λ d rings a m. h.1 d rings a)
no_faces points edges marks no.NoMemory h = h
