use Rattle.std.proofs.Common.{◌≡◌, ◌+◌, ◌-◌, ◌<◌, ap, subst, length, slice_index, arith}
use Rattle.ff_trans.proofs.Marks.{marked_less, above_more, place_above}
use Rattle.ff_trans.proofs.marking.mark_above.Goals as goal

pub loop-n-preserved : goal.loop-n-preserved
loop-n-preserved c =
    let faces = c.args.faces.now in let n = c.loop-n.n in
    let less = c.loop-n-test.true in
    let above = c.if-face-h.false in
    let to : length faces - 1 - n ≡ length faces - (n + 1) = omega arith in
    record {
      marked = marked_less faces (length faces - (n + 1)) (length faces - n) (length faces) c.args.cell (slice_index faces (length faces - 1 - n)) c.args.row.now c.loop-n.row c.mark_face.new.row
          (omega (arith, less)) (omega arith) (ap (slice_index faces) to) c.loop-n.invariant.marked c.mark_face.ensures;
      above = above_more faces c.args.h (length faces - (n + 1)) (length faces - n) (omega (arith, less))
          (subst (λ i. c.args.h < slice_index faces i) to (omega (arith, above))) c.loop-n.invariant.above;
      within = omega (arith, less);
    }

pub returns-then-face-h : goal.returns-then-face-h
returns-then-face-h c =
    let faces = c.args.faces.now in let n = c.loop-n.n in
    let less = c.loop-n-test.true in
    let low = c.if-face-h.true in (
      length faces - n,
      place_above faces c.requires.rising c.args.h (length faces - 1 - n) (length faces - n) (omega (arith, less)) (omega (arith, low)) (omega (arith, less)) c.loop-n.invariant.above,
      c.loop-n.invariant.marked,
    )
