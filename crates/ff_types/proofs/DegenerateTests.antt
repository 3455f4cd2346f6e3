-- Sheets at the edge of what is allowed: a straight corner, two edges between the same two faces, a border edge and a
-- crease on one image, numbers that are no face's.
use Rattle.std.proofs.Common.{◌≡◌, ℕ, ◌<◌, ℤ, pos, Bool, true, false, not, ◌&&◌, List, [], ◌∷◌, refl, sym, Some, None, arith, lit<, IsTrue}
use Rattle.std.proofs.lemmas.Int.{ints}
use Rattle.std.proofs.lemmas.Bool.{false≢true}
use Rattle.ff_basics.proofs.Tests.{both_of}
use Rattle.ff_whole.specs.declared.points.Pt.{Pt}
use Rattle.ff_whole.specs.declared.places.Place.{Place}
use Rattle.ff_types.specs.declared.patterns.Mark.TheVariants.{B, M, V}
use Rattle.ff_types.specs.declared.cites.Cite.TheVariants.{Transitivity}
use Rattle.ff_types.specs.Drawings.{IsDrawing}
use Rattle.ff_types.specs.Sides.{AreFaces}
use Rattle.ff_types.specs.Foldings.{IsFolding}
use Rattle.ff_types.specs.Sheets.{Sheet}
use Rattle.ff_types.specs.Inside.{is_inside, Overlap}
use Rattle.ff_types.specs.Borders.{IsPlainBorder, is_between}
use Rattle.ff_types.specs.Covering.{left_faces, right_faces}
use Rattle.ff_types.specs.Crossings.{chords, IsGeometricStacking}
use Rattle.ff_types.specs.Crossings.Side.{Left, Right}
use Rattle.ff_types.specs.Keeping.{KeepsCreases}
use Rattle.ff_types.specs.Cites.{Holds}
use Rattle.ff_types.proofs.Named.{point, ends, sides, unit, strip_uu}
use Rattle.ff_types.proofs.ComputedDrawings.{drawing}
use Rattle.ff_types.proofs.ComputedFaces.{faces_are}
use Rattle.ff_types.proofs.ComputedFoldings.{folding, least_one}
use Rattle.ff_types.proofs.FewFaces.{overlap_second, inside_face}

abbrev at : ℤ → ℤ → ℤ → Place
at x y w = record { x = x; y = y; w = w }

-- ---- a corner of 180 degrees: the vertex 1 in the middle of the lower side

abbrev straight : Sheet
straight = record {
  images = point (pos 0) (pos 0) ∷ point (pos 1) (pos 0) ∷ point (pos 2) (pos 0) ∷ point (pos 2) (pos 1) ∷ point (pos 0) (pos 1) ∷ [];
  rings = (0 ∷ 1 ∷ 2 ∷ 3 ∷ 4 ∷ []) ∷ [];
  up = true ∷ [];
  edges = ends 0 1 ∷ ends 1 2 ∷ ends 2 3 ∷ ends 3 4 ∷ ends 4 0 ∷ [];
  sides = sides (Some 0) None ∷ sides (Some 0) None ∷ sides (Some 0) None ∷ sides (Some 0) None ∷ sides (Some 0) None ∷ [];
  marks = B ∷ B ∷ B ∷ B ∷ B ∷ [];
}

straight_drawing : IsDrawing straight.images straight.edges
straight_drawing = drawing straight.images straight.edges refl

straight_faces : AreFaces straight.images straight.edges (Some straight.marks) straight.rings straight.sides straight.marks
straight_faces = faces_are straight.images straight.edges straight.marks straight.rings straight.sides refl

straight_folding : IsFolding straight.images straight.rings straight.sides straight.marks (pos 1) straight.images straight.up
straight_folding = folding straight.images straight.rings straight.sides straight.marks (pos 1) straight.images straight.up refl (least_one straight.images)

-- beside it the border is plain, at it it isn't
straight_sides : (left_faces straight 0 (at (pos 1) (pos 0) (pos 2)) ≡ 0 ∷ []) × (right_faces straight 0 (at (pos 1) (pos 0) (pos 2)) ≡ []) × (chords straight 0 (at (pos 1) (pos 0) (pos 2)) ≡ [])
straight_sides = (refl, refl, refl)

not_plain : IsPlainBorder straight 0 (at (pos 1) (pos 0) (pos 1)) → ⊥
not_plain p = false≢true p.plain

-- ---- two edges between the same two faces: a crease with a vertex in its middle, one half a valley, one a mountain

abbrev half_points : List Pt
half_points = point (pos 0) (pos 0) ∷ point (pos 2) (pos 0) ∷ point (pos 2) (pos 2) ∷ point (pos 0) (pos 2) ∷ point (pos 1) (pos 1) ∷ []

abbrev halves : Sheet
halves = record {
  images = point (pos 0) (pos 0) ∷ point (pos 2) (pos 0) ∷ point (pos 2) (pos 2) ∷ point (pos 2) (pos 0) ∷ point (pos 1) (pos 1) ∷ [];
  rings = (0 ∷ 1 ∷ 2 ∷ 4 ∷ []) ∷ (0 ∷ 4 ∷ 2 ∷ 3 ∷ []) ∷ [];
  up = true ∷ false ∷ [];
  edges = ends 0 1 ∷ ends 1 2 ∷ ends 2 3 ∷ ends 3 0 ∷ ends 0 4 ∷ ends 2 4 ∷ [];
  sides = sides (Some 0) None ∷ sides (Some 0) None ∷ sides (Some 1) None ∷ sides (Some 1) None ∷ sides (Some 1) (Some 0) ∷ sides (Some 0) (Some 1) ∷ [];
  marks = B ∷ B ∷ B ∷ B ∷ V ∷ M ∷ [];
}

halves_drawing : IsDrawing half_points halves.edges
halves_drawing = drawing half_points halves.edges refl

halves_faces : AreFaces half_points halves.edges (Some halves.marks) halves.rings halves.sides halves.marks
halves_faces = faces_are half_points halves.edges halves.marks halves.rings halves.sides refl

halves_folding : IsFolding half_points halves.rings halves.sides halves.marks (pos 1) halves.images halves.up
halves_folding = folding half_points halves.rings halves.sides halves.marks (pos 1) halves.images halves.up refl (least_one halves.images)

halves_overlap : Overlap halves 0 1
halves_overlap = record { differ = λ e. absurd (omega (arith, e)); common = record { at = at (pos 3) (pos 1) (pos 2); place = omega (arith, ints); inside = refl } }

-- at each half there is one chord
halves_chords : (chords halves 4 (at (pos 1) (pos 1) (pos 2)) ≡ (Right 1, Right 0) ∷ []) × (chords halves 5 (at (pos 3) (pos 3) (pos 2)) ≡ (Left 0, Left 1) ∷ [])
halves_chords = (refl, refl)

-- no stacking keeps both_of halves
halves_none : (above : ℕ → ℕ → Bool) → IsGeometricStacking halves above → KeepsCreases halves above → ⊥
halves_none above s k = back (above 1 0) (above 0 1) (s.stacking.orders.one 1 0 turned) (k 4 (lit< tt)) (k 5 (lit< tt)) where
  turned : Overlap halves 1 0
  turned = record { differ = λ e. absurd (omega (arith, e)); common = record { at = at (pos 3) (pos 1) (pos 2); place = omega (arith, ints); inside = refl } }

  back : (a b : Bool) → a ≡ not b → IsTrue a → IsTrue b → ⊥
  back true true e t u = false≢true (sym e)
  back true false e t u = false≢true u
  back false b e t u = false≢true t

-- ---- a border edge on a crease's image: the last border of three panels lies on the first crease

rim_on_crease : (is_between strip_uu 3 (at (pos 2) (pos 1) (pos 2)) ≡ true) × (is_between strip_uu 8 (at (pos 2) (pos 1) (pos 2)) ≡ true)
rim_on_crease = (refl, refl)

-- all three panels cover one side, and the only chord is the crease's: the third panel may end between the others
rim_sides : (left_faces strip_uu 8 (at (pos 2) (pos 1) (pos 2)) ≡ 0 ∷ 1 ∷ 2 ∷ []) × (right_faces strip_uu 8 (at (pos 2) (pos 1) (pos 2)) ≡ []) × (chords strip_uu 8 (at (pos 2) (pos 1) (pos 2)) ≡ (Left 0, Left 1) ∷ [])
rim_sides = (refl, refl, refl)

-- seen along the border edge the sides are the same, since it runs the same way
rim_seen : (left_faces strip_uu 3 (at (pos 2) (pos 1) (pos 2)) ≡ 0 ∷ 1 ∷ 2 ∷ []) × (right_faces strip_uu 3 (at (pos 2) (pos 1) (pos 2)) ≡ [])
rim_seen = (refl, refl)

-- ---- numbers that are no face's are inside nothing, so no cite names them

no_face : (f : ℕ) (s : Place) → 1 < f → IsTrue (is_inside unit f s) → ⊥
no_face f s h t = omega (arith, h, inside_face unit f s t)

no_transitivity : Holds unit (Transitivity 0 1 2 []) → ⊥
no_transitivity (a, b, c) = no_face 2 c.at (lit< tt) (both_of (is_inside unit 2 c.at) true (both_of (is_inside unit 1 c.at) (is_inside unit 2 c.at && true) (both_of (is_inside unit 0 c.at) (is_inside unit 1 c.at && (is_inside unit 2 c.at && true)) c.inside).1).1).0

no_overlap : Overlap unit 0 7 → ⊥
no_overlap o = absurd (omega (arith, overlap_second unit 0 7 o))
