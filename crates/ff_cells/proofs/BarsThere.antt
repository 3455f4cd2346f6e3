-- Each folded pattern has bars.
use Rattle.std.proofs.Common.{ℕ, zero, suc, ◌≡◌, inl, inr, ◌+◌, ◌<◌, ◌≤◌, List, [], ◌∷◌, ◌++◌, length, arith, refl, subst, ℤ, ◌<ℤ◌, ◌≤ℤ◌, Bool, true, false}
use Rattle.std.proofs.lemmas.Int.{by_lt_z}
use Rattle.ff_whole.proofs.Signs.{linear}
use Rattle.ff_whole.proofs.Bounds.{below-add, below-sub, below-mul, below-more}
use Rattle.ff_whole.proofs.ClosedLists.{next-below}
use Rattle.ff_whole.specs.Points.{IsNear, origin}
use Rattle.ff_whole.specs.Places.{through}
use Rattle.ff_whole.specs.Convex.{next, point_at}
use Rattle.ff_whole.specs.declared.points.Pt.{Pt}
use Rattle.ff_types.specs.declared.patterns.Pattern.{Pattern}
use Rattle.ff_types.specs.declared.faces.Faces.{Faces as FacesRow}
use Rattle.ff_types.specs.declared.faces.Folded.{Folded}
use Rattle.ff_types.specs.Rings.{corner}
use Rattle.ff_types.specs.Faces.{ring_at}
use Rattle.ff_types.specs.Foldings.{is_up}
use Rattle.ff_types.specs.FoldedPatterns.{IsFoldedPattern}
use Rattle.ff_types.proofs.FoldedEdges.{ring_below, images_near}
use Rattle.ff_cells.specs.declared.bars.Bar.{Bar}
use Rattle.ff_cells.specs.IsBar.{IsBar}
use Rattle.ff_cells.specs.Steps.{step_at, AddsBar, AddsSteps, AreRingBars, AreBars}
use Rattle.ff_cells.proofs.Stepping.{adds_none, adds_one, rings_none, rings_one}

is_bar : (p q : Pt) → IsNear p → IsNear q → p.x <ℤ q.x → IsBar p q (through p q)
is_bar p q np nq h = record {
  lo_in = np;
  hi_in = nq;
  rising = record {
    a_below = below-more (below-sub np.y_below nq.y_below) tt;
    b_below = below-more (below-sub nq.x_below np.x_below) tt;
    c_below = below-more (below-add (below-mul (below-sub np.y_below nq.y_below) np.x_below)
        (below-mul (below-sub nq.x_below np.x_below) np.y_below)) tt;
    rises = omega (arith, linear);
  };
  goes = h;
  through = refl;
}

add_bar : (p q : Pt) → IsNear p → IsNear q → (face : ℕ) (old : List Bar) → (new : List Bar)
    × AddsBar (p, q) face old new
add_bar p q np nq face old = by_lt_z p.x q.x
    (λ l. (let b : Bar = record {
      lo = p;
      hi = q;
      line = through p q;
      face = face;
      lower = true;
      ok = is_bar p q np nq l;
    } in
    (old ++ b ∷ [], inr (b, refl, record { face_is = refl; ends = inl (refl, refl, refl) }))))
    (λ ge. by_lt_z q.x p.x
    (λ l. (let b : Bar = record {
      lo = q;
      hi = p;
      line = through q p;
      face = face;
      lower = false;
      ok = is_bar q p nq np l;
    } in
    (old ++ b ∷ [], inr (b, refl, record { face_is = refl; ends = inr (refl, refl, refl) }))))
    (λ le. (old, inl (same p.x q.x ge le, refl))))
  where
    same : (a b : ℤ) → b ≤ℤ a → a ≤ℤ b → a ≡ b
    same a b h k = omega (arith, linear)

module _ (points : List Pt) (ring : List ℕ) (up : Bool) (face : ℕ)
    (near : (i : ℕ) → i < length ring → IsNear (point_at points (corner ring i))) where
  step_near : (up : Bool) (i : ℕ) → i < length ring → IsNear (step_at points ring up i).0
      × IsNear (step_at points ring up i).1
  step_near true i l = (near i l, near (next (length ring) i) (next-below (length ring) i l))
  step_near false i l = (near (next (length ring) i) (next-below (length ring) i l), near i l)

  ring_bars : (n : ℕ) → n ≤ length ring → (old : List Bar) → (new : List Bar)
      × AddsSteps points ring up face n old new
  ring_bars zero h old = (old, adds_none points ring up face old)
  ring_bars (suc n) h old =
      let m = ring_bars n (omega (arith, h)) old in
      let k = step_near up n (omega (arith, h)) in
      let a = add_bar (step_at points ring up n).0 (step_at points ring up n).1 k.0 k.1 face m.0 in
      let e : n + 1 ≡ suc n = omega arith in (
        a.0,
        subst (λ j. AddsSteps points ring up face j old a.0) e
            (adds_one points ring up face n old m.0 a.0 m.1 a.1),
      )

module _ {pattern : Pattern} {faces : FacesRow} {folded : Folded} (h : IsFoldedPattern pattern faces folded)
  where
    ring_near : (f : ℕ) → f < length faces.rings → (i : ℕ) → i < length (ring_at faces.rings f)
        → IsNear (point_at folded.points (corner (ring_at faces.rings f) i))
    ring_near f l i m = images_near h (corner (ring_at faces.rings f) i) origin (ring_below h f l i 0 m)

    bars_to : (n : ℕ) → n ≤ length faces.rings → (bars : List Bar)
        × AreRingBars folded.points faces.rings folded.up n bars
    bars_to zero l = ([], rings_none folded.points faces.rings folded.up [] refl)
    bars_to (suc n) l =
        let m = bars_to n (omega (arith, l)) in
        let r = ring_bars folded.points (ring_at faces.rings n) (is_up folded.up n) n
        (ring_near n (omega (arith, l))) (length (ring_at faces.rings n)) (omega arith) m.0 in
        let e : n + 1 ≡ suc n = omega arith in (
          r.0,
          subst (λ j. AreRingBars folded.points faces.rings folded.up j r.0) e
              (rings_one folded.points faces.rings folded.up n m.0 r.0 m.1 r.1),
        )

    pub bars_there : (bars : List Bar) × AreBars folded.points faces.rings folded.up bars
    bars_there = bars_to (length faces.rings) (omega arith)
