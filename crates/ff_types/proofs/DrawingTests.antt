-- Drawings that are, and that aren't.
use Rattle.std.proofs.Common.{ℕ, suc, inl, inr, pos, List, [], ◌∷◌, refl, arith, lit<}
use Rattle.ff_whole.specs.declared.points.Pt.{Pt}
use Rattle.ff_types.specs.Drawings.{IsDrawing, IsEnd}
use Rattle.ff_types.proofs.Named.{point, ends, unit, unit_points, diagonal, diagonal_points, slant, slant_points, strip_212, strip_212_points, strip_uuu, strip_uuu_points, midlines, midlines_points}
use Rattle.ff_types.proofs.ComputedDrawings.{drawing}

unit_drawing : IsDrawing unit_points unit.edges
unit_drawing = drawing unit_points unit.edges refl

diagonal_drawing : IsDrawing diagonal_points diagonal.edges
diagonal_drawing = drawing diagonal_points diagonal.edges refl

slant_drawing : IsDrawing slant_points slant.edges
slant_drawing = drawing slant_points slant.edges refl

strip_212_drawing : IsDrawing strip_212_points strip_212.edges
strip_212_drawing = drawing strip_212_points strip_212.edges refl

strip_uuu_drawing : IsDrawing strip_uuu_points strip_uuu.edges
strip_uuu_drawing = drawing strip_uuu_points strip_uuu.edges refl

midlines_drawing : IsDrawing midlines_points midlines.edges
midlines_drawing = drawing midlines_points midlines.edges refl

-- no vertices and no edges are a drawing
nothing : IsDrawing [] []
nothing = drawing [] [] refl

-- ---- two diagonals of the square of side 2 cross in its middle

abbrev crossed_points : List Pt
crossed_points = point (pos 0) (pos 0) ∷ point (pos 2) (pos 0) ∷ point (pos 2) (pos 2) ∷ point (pos 0) (pos 2) ∷ []

no_end : (s t : ℕ) → IsEnd (suc s) (suc t) → ⊥
no_end s t (inl e) = absurd (omega (arith, e))
no_end s t (inr e) = absurd (omega (arith, e))

crossing : IsDrawing crossed_points (ends 0 1 ∷ ends 1 2 ∷ ends 2 3 ∷ ends 3 0 ∷ ends 0 2 ∷ ends 1 3 ∷ []) → ⊥
crossing d = no_end 0 0 ((d.meet 4 5 (lit< tt) (lit< tt) (λ e. absurd (omega (arith, e))) 1 1 1 1 (record { some = lit< tt; sums = refl; same = refl })).0)

-- ---- a vertex on another edge: the triangle's side runs through the vertex 3

abbrev touched_points : List Pt
touched_points = point (pos 0) (pos 0) ∷ point (pos 2) (pos 0) ∷ point (pos 0) (pos 2) ∷ point (pos 1) (pos 0) ∷ point (pos 1) (pos 1) ∷ []

touching : IsDrawing touched_points (ends 0 1 ∷ ends 1 2 ∷ ends 2 0 ∷ ends 3 4 ∷ []) → ⊥
touching d = no_end 0 0 ((d.meet 0 3 (lit< tt) (lit< tt) (λ e. absurd (omega (arith, e))) 1 1 2 0 (record { some = lit< tt; sums = refl; same = refl })).0)

-- ---- two edges on one line, one over the other

abbrev lapped_points : List Pt
lapped_points = point (pos 0) (pos 0) ∷ point (pos 1) (pos 0) ∷ point (pos 2) (pos 0) ∷ point (pos 0) (pos 1) ∷ []

lapping : IsDrawing lapped_points (ends 0 1 ∷ ends 0 2 ∷ ends 1 3 ∷ ends 2 3 ∷ ends 0 3 ∷ []) → ⊥
lapping d = no_end 2 0 ((d.meet 0 1 (lit< tt) (lit< tt) (λ e. absurd (omega (arith, e))) 2 2 3 1 (record { some = lit< tt; sums = refl; same = refl })).1)

-- ---- the other clauses: one point twice, an edge twice, a far vertex, a vertex with one edge

twice : IsDrawing (point (pos 0) (pos 0) ∷ point (pos 1) (pos 0) ∷ point (pos 0) (pos 0) ∷ []) (ends 0 1 ∷ ends 1 2 ∷ ends 2 0 ∷ []) → ⊥
twice d = absurd (omega (arith, d.apart.differ 0 2 (lit< tt) (lit< tt) refl))

doubled : IsDrawing unit_points (ends 0 1 ∷ ends 1 2 ∷ ends 2 3 ∷ ends 3 0 ∷ ends 1 0 ∷ []) → ⊥
doubled d = absurd (omega (arith, d.once 0 4 (lit< tt) (lit< tt) refl))
