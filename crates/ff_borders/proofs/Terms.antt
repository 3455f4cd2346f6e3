-- The terms of a constraint that holds are different pairs of overlapping faces.
use Rattle.std.proofs.Common.{◌≢◌, ℕ, ◌<◌, inl, inr, subst, arith, ◌&&◌, IsTrue, length}
use Rattle.ff_basics.proofs.Tests.{both_of}
use Rattle.ff_whole.specs.declared.places.Place.{Place}
use Rattle.ff_types.specs.declared.patterns.Pattern.{Pattern}
use Rattle.ff_types.specs.declared.patterns.Mark.TheVariants.{B}
use Rattle.ff_types.specs.declared.faces.Faces.{Faces}
use Rattle.ff_types.specs.declared.faces.Folded.{Folded}
use Rattle.ff_types.specs.declared.cites.Cite.{Cite}
use Rattle.ff_types.specs.declared.cites.Cite.TheVariants.{Transitivity, TacoTaco, TacoFace, TacoEdge, FlatFace, FlatEdge}
use Rattle.ff_types.specs.Foldings.{is_folded}
use Rattle.ff_types.specs.Sheets.{Sheet, sheet_of, mark_of}
use Rattle.ff_types.specs.Inside.{Overlap}
use Rattle.ff_types.specs.Borders.{is_between, IsPlainBorder}
use Rattle.ff_types.specs.Cites.{Holds, is_folded_edge, is_flat_edge, lesser, greater}
use Rattle.ff_types.specs.Terms.{terms_of}
use Rattle.ff_types.specs.FoldedPatterns.{IsFoldedPattern}
use Rattle.ff_borders.specs.Terms.{IsOverlapping, TermsOverlap, TermsDiffer, CreaseFacesOverlap}
use Rattle.ff_borders.proofs.TwoSides.{folded_edge, flat_edge, folded_inner, flat_inner, not_both_marks, two_faces}
use Rattle.ff_borders.proofs.Lying.{folded_faces_meet}
use Rattle.ff_borders.proofs.Running.{edges_have_plain}
use Rattle.ff_borders.proofs.PairKeys.{Each, each_at, Distinct, distinct_at}
use Rattle.ff_borders.proofs.CoveringFaces.{left_overlap, right_overlap, lesser_there, greater_there, differ}
use Rattle.ff_borders.proofs.FaceTerms.{face_terms, face_distinct, common_overlap, common_distinct}
use Rattle.ff_borders.proofs.SegmentTerms.{taco_terms, taco_distinct, edge_terms, edge_distinct, flats_terms, flats_distinct}

module _ {pattern : Pattern} {faces : Faces} {folded : Folded}
    (h : IsFoldedPattern pattern faces folded) where
  abbrev g : Sheet
  g = sheet_of pattern faces folded

  less_apart : (e k : ℕ) → e < k → e ≢ k
  less_apart e k l d = omega (arith, l, d)

  marks_apart : (e k : ℕ) → IsTrue (is_folded_edge g e) → IsTrue (is_flat_edge g k) → e ≢ k
  marks_apart e k t u d = not_both_marks (mark_of g k)
      (subst (λ i. IsTrue (is_folded (mark_of g i))) d (folded_edge g e t).1) (flat_edge g k u).1

  folded_mark : (e : ℕ) → IsTrue (is_folded_edge g e) → mark_of g e ≢ B
  folded_mark e t = folded_inner (mark_of g e) (folded_edge g e t).1

  flat_mark : (e : ℕ) → IsTrue (is_flat_edge g e) → mark_of g e ≢ B
  flat_mark e t = flat_inner (mark_of g e) (flat_edge g e t).1

  both_folded : (e k : ℕ) → IsTrue (is_folded_edge g e && is_folded_edge g k)
      → IsTrue (is_folded_edge g e) × IsTrue (is_folded_edge g k)
  both_folded e k t = both_of (is_folded_edge g e) (is_folded_edge g k) t

  both_flat : (e k : ℕ) → IsTrue (is_flat_edge g e && is_flat_edge g k)
      → IsTrue (is_flat_edge g e) × IsTrue (is_flat_edge g k)
  both_flat e k t = both_of (is_flat_edge g e) (is_flat_edge g k) t

  each_overlaps : (c : Cite) → Holds g c → Each (IsOverlapping g) (terms_of g c)
  each_overlaps (Transitivity f j k at) w = common_overlap h f j k w.2 w.0 w.1
  each_overlaps (TacoTaco e k) w = let t =
      both_folded e k w.1 in taco_terms h e k (folded_edge g e t.0).0 (folded_edge g k t.1).0
      (less_apart e k w.0) (folded_mark e t.0) (folded_mark k t.1) w.2 w.3
  each_overlaps (TacoFace e f at) w = face_terms h e f (folded_edge g e w.0).0 (folded_mark e w.0) w.1
  each_overlaps (TacoEdge e k) w =
      edge_terms h e k (folded_edge g e w.0).0 (flat_edge g k w.1).0 (marks_apart e k w.0 w.1)
      (folded_mark e w.0) (flat_mark k w.1) w.2 w.1 w.0
  each_overlaps (FlatFace e f at) w = face_terms h e f (flat_edge g e w.0).0 (flat_mark e w.0) w.1
  each_overlaps (FlatEdge e k) w = let t =
      both_flat e k w.1 in flats_terms h e k (flat_edge g e t.0).0 (flat_edge g k t.1).0 (less_apart e k w.0)
      (flat_mark e t.0) (flat_mark k t.1) w.2 t.1 t.0

  all_distinct : (c : Cite) → Holds g c → Distinct (terms_of g c)
  all_distinct (Transitivity f j k at) w = common_distinct h f j k w.0 w.1
  all_distinct (TacoTaco e k) w = let t =
      both_folded e k w.1 in taco_distinct h e k (folded_edge g e t.0).0 (folded_edge g k t.1).0
      (less_apart e k w.0) (folded_mark e t.0) (folded_mark k t.1) w.2
  all_distinct (TacoFace e f at) w = face_distinct h e f (folded_edge g e w.0).0 (folded_mark e w.0) w.1
  all_distinct (TacoEdge e k) w =
      edge_distinct h e k (folded_edge g e w.0).0 (flat_edge g k w.1).0 (marks_apart e k w.0 w.1)
      (folded_mark e w.0) (flat_mark k w.1) w.2 w.1
  all_distinct (FlatFace e f at) w = face_distinct h e f (flat_edge g e w.0).0 (flat_mark e w.0) w.1
  all_distinct (FlatEdge e k) w = let t =
      both_flat e k w.1 in flats_distinct h e k (flat_edge g e t.0).0 (flat_edge g k t.1).0
      (less_apart e k w.0) (flat_mark e t.0) (flat_mark k t.1) w.2 t.1

  pub terms_overlap : TermsOverlap g
  terms_overlap c w j l = each_at (IsOverlapping g) (terms_of g c) (each_overlaps c w) j l

  pub terms_differ : TermsDiffer g
  terms_differ c w i j l m e = distinct_at (terms_of g c) (all_distinct c w) i j l m e

  pub crease_faces_overlap : CreaseFacesOverlap g
  crease_faces_overlap e t = ((two_faces h e l n).0, by (edges_have_plain h e l)) where
    l : e < length pattern.edges
    l = (folded_edge g e t).0

    n : mark_of g e ≢ B
    n = folded_mark e t

    by : (s : Place) × (IsPlainBorder g e s × IsTrue (is_between g e s))
        → Overlap g (lesser g e) (greater g e)
    by (s, p) = elim (folded_faces_meet h e e s p.0 p.0.on t) [
      | inl q ↦ left_overlap h e s p.0 (lesser g e) (greater g e) (differ h e l n)
          (lesser_there h e s p.0 e l n p.0.on) (greater_there h e s p.0 e l n p.0.on) q.0.0 q.1.0
      | inr q ↦ right_overlap h e s p.0 (lesser g e) (greater g e) (differ h e l n)
          (lesser_there h e s p.0 e l n p.0.on) (greater_there h e s p.0 e l n p.0.on) q.0.0 q.1.0
    ]
