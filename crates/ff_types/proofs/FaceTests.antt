-- Faces that are, and that aren't.
use Rattle.std.proofs.Common.{◌⊎◌, inl, inr, pos, ◌*ℤ◌, ◌+ℤ◌, [], ◌∷◌, refl, Some, None, arith, lit<}
use Rattle.std.proofs.lemmas.Int.{ints}
use Rattle.std.proofs.lemmas.Bool.{false≢true}
use Rattle.ff_types.specs.Rings.{IsRing}
use Rattle.ff_types.specs.Faces.{AreRings, Belongs}
use Rattle.ff_types.specs.Sides.{AreFaces}
use Rattle.ff_types.proofs.Named.{point, unit, unit_points, diagonal, diagonal_points, slant, slant_points, crease_v, crease_points, strip_fvf, strip_fvf_points, midlines, midlines_points}
use Rattle.ff_whole.specs.Convex.{left_of}
use Rattle.ff_types.proofs.Computing.{below, is_pos, positive}
use Rattle.ff_types.proofs.ComputedFaces.{faces_are}

unit_faces : AreFaces unit_points unit.edges (Some unit.marks) unit.rings unit.sides unit.marks
unit_faces = faces_are unit_points unit.edges unit.marks unit.rings unit.sides refl

diagonal_faces : AreFaces diagonal_points diagonal.edges (Some diagonal.marks) diagonal.rings diagonal.sides diagonal.marks
diagonal_faces = faces_are diagonal_points diagonal.edges diagonal.marks diagonal.rings diagonal.sides refl

slant_faces : AreFaces slant_points slant.edges (Some slant.marks) slant.rings slant.sides slant.marks
slant_faces = faces_are slant_points slant.edges slant.marks slant.rings slant.sides refl

crease_faces : AreFaces crease_points crease_v.edges (Some crease_v.marks) crease_v.rings crease_v.sides crease_v.marks
crease_faces = faces_are crease_points crease_v.edges crease_v.marks crease_v.rings crease_v.sides refl

strip_faces : AreFaces strip_fvf_points strip_fvf.edges (Some strip_fvf.marks) strip_fvf.rings strip_fvf.sides strip_fvf.marks
strip_faces = faces_are strip_fvf_points strip_fvf.edges strip_fvf.marks strip_fvf.rings strip_fvf.sides refl

midlines_faces : AreFaces midlines_points midlines.edges (Some midlines.marks) midlines.rings midlines.sides midlines.marks
midlines_faces = faces_are midlines_points midlines.edges midlines.marks midlines.rings midlines.sides refl

-- ---- lists that are no ring: turned round, cut short, over both triangles of a square with a diagonal

backwards : IsRing unit_points unit.edges (0 ∷ 3 ∷ 2 ∷ 1 ∷ []) → ⊥
backwards r = omega (arith, ints, r.convex.left 0 2 (lit< tt) (lit< tt))

cut : IsRing unit_points unit.edges (0 ∷ 1 ∷ 2 ∷ []) → ⊥
cut r = false≢true (r.joins 2 (lit< tt))

-- the middle of the diagonal is inside
over_both : IsRing diagonal_points diagonal.edges (0 ∷ 1 ∷ 2 ∷ 3 ∷ []) → ⊥
over_both r = r.no_point 4 1 1 (lit< tt) (lit< tt) (λ i h. positive _ (below 4 (λ i. is_pos ((pos 1 *ℤ left_of unit_points i (point (pos 0) (pos 0))) +ℤ (pos 1 *ℤ left_of unit_points i (point (pos 1) (pos 1))))) refl i h))

-- ---- the square without its face has edges with no side in a ring

no_faces : AreRings unit_points unit.edges None [] → ⊥
no_faces r = none (r.fit 0 (lit< tt)) where
  none : Belongs [] 0 1 ⊎ Belongs [] 1 0 → ⊥
  none (inl b) = omega (arith, b.1)
  none (inr b) = omega (arith, b.1)
