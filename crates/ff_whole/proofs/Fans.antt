-- A place left of each edge of a closed ring, convex or not, is in a triangle of its vertices.
use Rattle.std.proofs.Common.{ℕ, suc, ◌<◌, arith, pos, ◌<ℤ◌, ◌≤ℤ◌}
use lib.IntN.{*ℤ_comm}
use Rattle.ff_whole.proofs.Signs.{linear, pos_from_mul}
use Rattle.ff_whole.proofs.Turns.{height-back}
use Rattle.ff_whole.proofs.Triangles.{heights-sum, left-triangle, sign_turns}
use Rattle.ff_whole.specs.Points.{turn}
use Rattle.ff_whole.specs.Places.{place_of, through, height}
use Rattle.ff_whole.specs.declared.points.Pt.{Pt}
use Rattle.ff_whole.specs.declared.lines.Line.{Line}
use Rattle.ff_whole.specs.declared.places.Place.{Place}

-- the vertices are v 0, .., v (suc n), and m is left of each edge, the last one back to v 0 included
pub record IsInside (v : ℕ → Pt) (n : ℕ) (m : Place) : Type 0 where
  pub positive : pos 0 <ℤ m.w
  pub edges : (i : ℕ) → i < suc n → pos 0 <ℤ height (through (v i) (v (suc i))) m
  pub closing : pos 0 <ℤ height (through (v (suc n)) (v 0)) m

-- a triangle with a place in it
pub record InTriangle (p q r : Pt) (m : Place) : Type 0 where
  pub left : pos 0 <ℤ turn p q r
  pub first : pos 0 <ℤ height (through p q) m
  pub second : pos 0 <ℤ height (through q r) m
  pub third : pos 0 ≤ℤ height (through r p) m

in_triangle : (p q r : Pt) (m : Place) → pos 0 <ℤ m.w → pos 0 <ℤ height (through p q) m
    → pos 0 <ℤ height (through q r) m → pos 0 ≤ℤ height (through r p) m → InTriangle p q r m
in_triangle p q r m w a b c =
    let e = heights-sum p q r m in
    let k = *ℤ_comm (turn p q r) m.w in
    record { left = pos_from_mul m.w (turn p q r) w (omega (arith, linear)); first = a; second = b; third = c }

-- the triangle is one of v 0 and two neighbours
pub fan : (v : ℕ → Pt) (n : ℕ) (m : Place) → IsInside v n m
    → (i : ℕ) × (i < n) × InTriangle (v 0) (v (suc i)) (v (suc (suc i))) m
fan v n m h =
    let closing = h.closing in
    let back = height-back (v 0) (v (suc n)) m in
    let r = sign_turns (λ i. height (through (v 0) (v (suc i))) m) n (h.edges 0 (omega arith)) (omega (arith, linear)) in
    let lt = r.1 in
    let low = r.3 in
    let turned = height-back (v 0) (v (suc (suc r.0))) m in
    (r.0, lt, in_triangle (v 0) (v (suc r.0)) (v (suc (suc r.0))) m h.positive r.2 (h.edges (suc r.0) (omega arith)) (omega (arith, linear)))

-- and left of each line that all vertices are left of
pub left-ring : (v : ℕ → Pt) (n : ℕ) (m : Place) → IsInside v n m → (l : Line)
    → ((i : ℕ) → i < suc (suc n) → pos 0 <ℤ height l (place_of (v i))) → pos 0 <ℤ height l m
left-ring v n m h l all =
    let r = fan v n m h in
    let lt = r.1 in
    let t = r.2 in
    left-triangle l (v 0) (v (suc r.0)) (v (suc (suc r.0))) m t.left t.second t.third t.first
    (all 0 (omega arith)) (all (suc r.0) (omega arith)) (all (suc (suc r.0)) (omega arith))
