-- Foldings that are, at scale 1 and at scale 5, and that aren't.
use Rattle.std.proofs.Common.{◌≡◌, ℕ, zero, suc, ◌<◌, ℤ, pos, negsuc, ◌*ℤ◌, ◌+ℤ◌, true, false, List, [], ◌∷◌, refl, sym, ◌∙◌, ap, arith, lit<}
use Rattle.std.proofs.lemmas.Int.{ints}
use Rattle.std.proofs.lemmas.Bool.{false≢true}
use Rattle.ff_whole.specs.declared.points.Pt.{Pt}
use Rattle.ff_whole.proofs.Laws.{*ℤ-distrib_left}
use Rattle.ff_whole.specs.Convex.{point_at}
use Rattle.ff_types.specs.Foldings.{IsFolding, Divides, DividesAll}
use Rattle.ff_types.proofs.Named.{point, unit, unit_points, diagonal, diagonal_points, slant, slant_points, crease_v, crease_points, strip_212, strip_212_points, strip_fvf, strip_fvf_points, midlines, midlines_points}
use Rattle.ff_types.proofs.ComputedFoldings.{folding, least_one, one_has_no_factor}

unit_folding : IsFolding unit_points unit.rings unit.sides unit.marks (pos 1) unit.images unit.up
unit_folding = folding unit_points unit.rings unit.sides unit.marks (pos 1) unit.images unit.up refl (least_one unit.images)

diagonal_folding : IsFolding diagonal_points diagonal.rings diagonal.sides diagonal.marks (pos 1) diagonal.images diagonal.up
diagonal_folding = folding diagonal_points diagonal.rings diagonal.sides diagonal.marks (pos 1) diagonal.images diagonal.up refl (least_one diagonal.images)

crease_folding : IsFolding crease_points crease_v.rings crease_v.sides crease_v.marks (pos 1) crease_v.images crease_v.up
crease_folding = folding crease_points crease_v.rings crease_v.sides crease_v.marks (pos 1) crease_v.images crease_v.up refl (least_one crease_v.images)

strip_folding : IsFolding strip_212_points strip_212.rings strip_212.sides strip_212.marks (pos 1) strip_212.images strip_212.up
strip_folding = folding strip_212_points strip_212.rings strip_212.sides strip_212.marks (pos 1) strip_212.images strip_212.up refl (least_one strip_212.images)

-- flat edges turn nothing over
strip_fvf_folding : IsFolding strip_fvf_points strip_fvf.rings strip_fvf.sides strip_fvf.marks (pos 1) strip_fvf.images strip_fvf.up
strip_fvf_folding = folding strip_fvf_points strip_fvf.rings strip_fvf.sides strip_fvf.marks (pos 1) strip_fvf.images strip_fvf.up refl (least_one strip_fvf.images)

midlines_folding : IsFolding midlines_points midlines.rings midlines.sides midlines.marks (pos 1) midlines.images midlines.up
midlines_folding = folding midlines_points midlines.rings midlines.sides midlines.marks (pos 1) midlines.images midlines.up refl (least_one midlines.images)

-- the slant at scale 5: what divides 5 and -4 divides 1
slant_folding : IsFolding slant_points slant.rings slant.sides slant.marks (pos 5) slant.images slant.up
slant_folding = folding slant_points slant.rings slant.sides slant.marks (pos 5) slant.images slant.up refl least where
  least : (d : ℕ) → 1 < d → DividesAll d (pos 5) slant.images → ⊥
  least d h a = one_has_no_factor d (k +ℤ m) h (ap (λ (z : ℤ). z +ℤ negsuc 3) k_is ∙ (ap (λ (z : ℤ). (pos d *ℤ k) +ℤ z) m_is ∙ sym (*ℤ-distrib_left (pos d) k m))) where
    k : ℤ
    k = a.scale_too.0

    k_is : pos 5 ≡ pos d *ℤ k
    k_is = a.scale_too.1

    m : ℤ
    m = (a.xs 2 (lit< tt)).0

    m_is : negsuc 3 ≡ pos d *ℤ m
    m_is = (a.xs 2 (lit< tt)).1

-- ---- foldings that aren't

-- the valley's sheet as it lay
flat : IsFolding crease_points crease_v.rings crease_v.sides crease_v.marks (pos 1) crease_points (true ∷ true ∷ []) → ⊥
flat q = false≢true (sym (q.flags 4 1 0 (lit< tt) refl refl))

-- it at scale 2: 2 divides all
abbrev doubled_images : List Pt
doubled_images = point (pos 0) (pos 0) ∷ point (pos 2) (pos 0) ∷ point (pos 2) (pos 2) ∷ point (pos 2) (pos 0) ∷ []

two_divides : (v : ℕ) → v < 4 → Divides 2 (point_at doubled_images v).x × Divides 2 (point_at doubled_images v).y
two_divides zero h = ((pos 0, refl), (pos 0, refl))
two_divides (suc zero) h = ((pos 1, refl), (pos 0, refl))
two_divides (suc (suc zero)) h = ((pos 1, refl), (pos 1, refl))
two_divides (suc (suc (suc zero))) h = ((pos 1, refl), (pos 0, refl))
two_divides (suc (suc (suc (suc v)))) h = absurd (omega (arith, h))

doubled : IsFolding crease_points crease_v.rings crease_v.sides crease_v.marks (pos 2) doubled_images (true ∷ false ∷ []) → ⊥
doubled q = q.least 2 (lit< tt) (record { scale_too = (pos 1, refl); xs = λ v h. (two_divides v h).0; ys = λ v h. (two_divides v h).1 })

-- the valley reflected the wrong way: face 1 lies where it lay, turned over by its flag alone
unreflected : IsFolding crease_points crease_v.rings crease_v.sides crease_v.marks (pos 1) crease_points (true ∷ false ∷ []) → ⊥
unreflected q = let h : pos 1 ≡ negsuc 0 = (q.shapes 1 (lit< tt) 0 1 2 (lit< tt) (lit< tt) (lit< tt)).crosses in absurd (omega (arith, ints))

-- a scale that grows and leaves the earlier points as they were: the slant with face 0 at scale 1
unscaled : IsFolding slant_points slant.rings slant.sides slant.marks (pos 5) (point (pos 0) (pos 0) ∷ point (pos 1) (pos 0) ∷ point (negsuc 3) (pos 12) ∷ point (pos 12) (pos 24) ∷ point (pos 3) (pos 4) ∷ point (pos 0) (pos 4) ∷ []) slant.up → ⊥
unscaled q = let h : pos 1 ≡ pos 5 = ap (λ (p : Pt). p.x) (q.first_stays 1 (lit< tt)) in absurd (omega (arith, ints))
