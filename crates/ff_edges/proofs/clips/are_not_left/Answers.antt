use Rattle.std.proofs.Common.{◌↔◌, IsTrue, Bool, pos, ◌≤ℤ◌, arith}
use Rattle.ff_whole.specs.declared.points.Pt.{Pt}
use Rattle.ff_whole.specs.Points.{turn}
use Rattle.ff_whole.specs.Places.{place_of, through, height}
use Rattle.ff_whole.proofs.Signs.{linear}
use Rattle.ff_whole.proofs.Turns.{height-through, turn-swap}
use Rattle.ff_edges.proofs.Eithers.{both_tell, first_fails}
use Rattle.ff_edges.proofs.clips.are_not_left.Goals as goal

not_left : (x : Bool) (u v p : Pt) → IsTrue x ↔ (pos 0 ≤ℤ turn v u p) → IsTrue x ↔ (height (through u v) (place_of p) ≤ℤ pos 0)
not_left x u v p h =
    let e = height-through u v p in
    let f = turn-swap u v p in
    (λ t. let k = h.0 t in omega (arith, linear), λ k. h.1 (omega (arith, linear)))

pub returns-then-is_on_or_left : goal.returns-then-is_on_or_left
returns-then-is_on_or_left c =
    let first = c.is_on_or_left.result in
    let second = c.is_on_or_left-then-is_on_or_left.result in
    both_tell first second _ _ (not_left first c.args.u c.args.v c.args.p c.is_on_or_left.ensures) (not_left second c.args.u c.args.v c.args.q c.is_on_or_left-then-is_on_or_left.ensures) c.if-is_on_or_left.true

pub returns-else-is_on_or_left : goal.returns-else-is_on_or_left
returns-else-is_on_or_left c = first_fails c.is_on_or_left.result _ _ (not_left c.is_on_or_left.result c.args.u c.args.v c.args.p c.is_on_or_left.ensures) c.if-is_on_or_left.false
