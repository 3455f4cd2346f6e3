-- Faces that lie on one side of an edge at a plain border place overlap, and each overlaps those with the
-- place inside.
use Rattle.std.proofs.Common.{◌≢◌, ℕ, ◌<◌, ◌⊎◌, inl, inr, ◌&&◌, IsTrue, length}
use Rattle.ff_basics.proofs.Tests.{of_both, of_first, of_second}
use Rattle.ff_whole.specs.declared.places.Place.{Place}
use Rattle.ff_types.specs.declared.patterns.Pattern.{Pattern}
use Rattle.ff_types.specs.declared.patterns.Mark.TheVariants.{B}
use Rattle.ff_types.specs.declared.faces.Faces.{Faces}
use Rattle.ff_types.specs.declared.faces.Folded.{Folded}
use Rattle.ff_types.specs.Sheets.{Sheet, sheet_of, mark_of}
use Rattle.ff_types.specs.Inside.{is_inside, Overlap}
use Rattle.ff_types.specs.Borders.{is_on, IsPlainBorder}
use Rattle.ff_types.specs.Covering.{is_on_ring, lies_left, lies_right, covers_left, covers_right}
use Rattle.ff_types.specs.Cites.{lesser, greater}
use Rattle.ff_types.specs.FoldedPatterns.{IsFoldedPattern}
use Rattle.ff_borders.specs.Lying.{IsLeftAlone, IsRightAlone}
use Rattle.ff_borders.proofs.Tests.{on_ring_edge}
use Rattle.ff_borders.proofs.TwoSides.{two_faces, lesser_bounds, greater_bounds}
use Rattle.ff_borders.proofs.SideFaces.{side_faces_overlap}

module _ {pattern : Pattern} {faces : Faces} {folded : Folded}
    (h : IsFoldedPattern pattern faces folded) where
  abbrev g : Sheet
  g = sheet_of pattern faces folded

  module _ (e : ℕ) (s : Place) (plain : IsPlainBorder g e s) where
    covers_by_left : (f : ℕ) → IsTrue (is_on_ring g f s) → IsTrue (lies_left g e f)
        → IsTrue (covers_left g e s f)
    covers_by_left f r t = of_second (is_inside g f s) (is_on_ring g f s && lies_left g e f)
        (of_both (is_on_ring g f s) (lies_left g e f) r t)

    covers_by_right : (f : ℕ) → IsTrue (is_on_ring g f s) → IsTrue (lies_right g e f)
        → IsTrue (covers_right g e s f)
    covers_by_right f r t = of_second (is_inside g f s) (is_on_ring g f s && lies_right g e f)
        (of_both (is_on_ring g f s) (lies_right g e f) r t)

    -- two faces on the left, or on the right, overlap
    pub left_overlap : (f k : ℕ) → f ≢ k → IsTrue (is_on_ring g f s) → IsTrue (is_on_ring g k s)
        → IsTrue (lies_left g e f) → IsTrue (lies_left g e k) → Overlap g f k
    left_overlap f k d r q t u =
        (side_faces_overlap h e f k s plain d).0 (covers_by_left f r t) (covers_by_left k q u)

    pub right_overlap : (f k : ℕ) → f ≢ k → IsTrue (is_on_ring g f s) → IsTrue (is_on_ring g k s)
        → IsTrue (lies_right g e f) → IsTrue (lies_right g e k) → Overlap g f k
    right_overlap f k d r q t u =
        (side_faces_overlap h e f k s plain d).1 (covers_by_right f r t) (covers_by_right k q u)

    -- a face of an edge there overlaps each one with the place inside
    pub inside_overlap : (f k : ℕ) → f ≢ k → IsTrue (is_on_ring g f s)
        → IsLeftAlone g e f ⊎ IsRightAlone g e f → IsTrue (is_inside g k s) → Overlap g f k
    inside_overlap f k d r (inl a) i =
        (side_faces_overlap h e f k s plain d).0 (covers_by_left f r a.0)
        (of_first (is_inside g k s) (is_on_ring g k s && lies_left g e k) i)
    inside_overlap f k d r (inr a) i =
        (side_faces_overlap h e f k s plain d).1 (covers_by_right f r a.0)
        (of_first (is_inside g k s) (is_on_ring g k s && lies_right g e k) i)

    pub lesser_there : (k : ℕ) → k < length pattern.edges → mark_of g k ≢ B → IsTrue (is_on g k s)
        → IsTrue (is_on_ring g (lesser g k) s)
    lesser_there k l n t = on_ring_edge g (lesser g k) k s l t (lesser_bounds h k l n)

    pub greater_there : (k : ℕ) → k < length pattern.edges → mark_of g k ≢ B → IsTrue (is_on g k s)
        → IsTrue (is_on_ring g (greater g k) s)
    greater_there k l n t = on_ring_edge g (greater g k) k s l t (greater_bounds h k l n)

  pub differ : (e : ℕ) → e < length pattern.edges → mark_of g e ≢ B → lesser g e ≢ greater g e
  differ e l n = (two_faces h e l n).1.differ
