-- Parallel edges: slants and what leads along or across a line, as products of directions.
use Rattle.std.proofs.Common.{◌≡◌, ℕ, refl, sym, ◌∙◌, ap, arith, ℤ, pos, ◌<ℤ◌, Bool, true, false, List, []}
use lib.IntN.{neg_ℤ}
use Rattle.std.proofs.lemmas.List.{get_or_default}
use Rattle.std.specs.List.{Contains}
use Rattle.ff_whole.specs.declared.points.Pt.{Pt}
use Rattle.ff_whole.specs.declared.lines.Line.{Line}
use Rattle.ff_whole.specs.Points.{minus, dot, cross}
use Rattle.ff_whole.specs.Places.{through, height, slant}
use Rattle.ff_whole.proofs.Formulas.{point_e, point_env, line_e, line_env, minus_e, dot_e, cross_e, through_e, height_e, slant_e}
use Rattle.ff_whole.proofs.Ring.{num, ◌⊕◌, ◌⊗◌, opp, solve}
use Rattle.ff_whole.proofs.Signs.{linear}
use Rattle.ff_whole.proofs.ThreeTerms.{cross-flip, parallel-both}
use Rattle.ff_whole.proofs.Alongs.{way, leads, aside}
use Rattle.ff_types.specs.Foldings.{signed}
use Rattle.ff_types.proofs.CreaseOverlap.{Listed}
use Rattle.ff_borders.proofs.Steps.{side_line}

-- ---- members of a ring

pub listed_from : (list : List ℕ) (v : ℕ) → Contains list v → Listed list v
listed_from list v m = record { at = m.0; inside = m.1; there = get_or_default list m.0 0 v m.1 ∙ m.2 }

pub from_listing : (list : List ℕ) (v : ℕ) → Listed list v → Contains list v
from_listing list v m = (m.at, m.inside, sym (get_or_default list m.at 0 v m.inside) ∙ m.there)

-- ---- directions

pub slant-cross : (p q u v : Pt) → slant (through p q) (through u v) ≡ cross (minus q p) (minus v u)
slant-cross p q u v = let p' = point_e 0 in let q' = point_e 2 in let u' = point_e 4 in let v' = point_e 6 in
    solve (point_env p (point_env q (point_env u (point_env v []))))
    (slant_e (through_e p' q') (through_e u' v')) (cross_e (minus_e q' p') (minus_e v' u')) refl

-- the height of a direction is how far it leads
pub height-direction : (l : Line) (d : Pt) → height l (way d) ≡ leads l d
height-direction l d = let l' = line_e 0 in let d' = point_e 3 in
    solve (line_env l (point_env d [])) (height_e l' (record { x = d'.x; y = d'.y; w = num (pos 0) }))
    (l'.a ⊗ d'.x ⊕ l'.b ⊗ d'.y) refl

leads-through : (u v d : Pt) → leads (through u v) d ≡ cross (minus v u) d
leads-through u v d = let u' = point_e 0 in let v' = point_e 2 in let d' = point_e 4 in let l' =
    through_e u' v' in
    solve (point_env u (point_env v (point_env d []))) (l'.a ⊗ d'.x ⊕ l'.b ⊗ d'.y)
    (cross_e (minus_e v' u') d') refl

leads-over : (u v d : Pt) → leads (through u v) (aside d) ≡ dot (minus v u) d
leads-over u v d = let u' = point_e 0 in let v' = point_e 2 in let d' = point_e 4 in let l' =
    through_e u' v' in
    solve (point_env u (point_env v (point_env d []))) (l'.a ⊗ opp d'.y ⊕ l'.b ⊗ d'.x)
    (dot_e (minus_e v' u') d') refl

pub cross-back : (u v d : Pt) → cross (minus u v) d ≡ neg_ℤ (cross (minus v u) d)
cross-back u v d = let u' = point_e 0 in let v' = point_e 2 in let d' = point_e 4 in
    solve (point_env u (point_env v (point_env d []))) (cross_e (minus_e u' v') d')
    (opp (cross_e (minus_e v' u') d')) refl

pub dot-back : (u v d : Pt) → dot (minus u v) d ≡ neg_ℤ (dot (minus v u) d)
dot-back u v d = let u' = point_e 0 in let v' = point_e 2 in let d' = point_e 4 in
    solve (point_env u (point_env v (point_env d []))) (dot_e (minus_e u' v') d')
    (opp (dot_e (minus_e v' u') d')) refl

-- along a step's line, and to its inner side
pub leads-side : (b : Bool) (u v d : Pt) → leads (side_line b u v) d ≡ signed b (cross (minus v u) d)
leads-side true u v d = leads-through u v d
leads-side false u v d = leads-through v u d ∙ cross-back u v d

pub leads-inner : (b : Bool) (u v d : Pt) → leads (side_line b u v) (aside d) ≡ signed b (dot (minus v u) d)
leads-inner true u v d = leads-over u v d
leads-inner false u v d = leads-over v u d ∙ dot-back u v d

pub signed-zero : (b : Bool) (z : ℤ) → z ≡ pos 0 → signed b z ≡ pos 0
signed-zero true z e = e
signed-zero false z e = ap neg_ℤ e

-- what two edges are parallel to, where that isn't a point
pub both_parallel : (e f k : Pt) → pos 0 <ℤ dot e e → cross f e ≡ pos 0 → cross k e ≡ pos 0
    → cross f k ≡ pos 0
both_parallel e f k long x y = let a = cross-flip f e in let b =
    cross-flip k e in parallel-both e f k long (omega (arith, linear)) (omega (arith, linear))
