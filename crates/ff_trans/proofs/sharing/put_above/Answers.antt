use Rattle.std.proofs.Common.{◌≡◌, ◌+◌, ◌-◌, ◌<◌, sym, ap, subst, length, slice_index, arith}
use Rattle.ff_basics.specs.NumberedLists.{lists_in}
use Rattle.ff_basics.proofs.NumberedLists.{length_in}
use Rattle.ff_trans.proofs.Marks.{above_more, place_above}
use Rattle.ff_trans.proofs.Shares.{put_less}
use Rattle.ff_trans.proofs.sharing.put_above.Goals as goal

pub loop-n-preserved : goal.loop-n-preserved
loop-n-preserved c =
    let faces = c.args.faces.now in let n = c.loop-n.n in
    let less = c.loop-n-test.true in
    let above = c.if-face-f.false in
    let to : length faces - 1 - n ≡ length faces - (n + 1) = omega arith in
    let below = subst (λ w. slice_index faces (length faces - 1 - n) < w) (sym (length_in c.args.lists.now)) (c.requires.below (length faces - 1 - n) 0 (omega (arith, less))) in
    record {
      put = put_less faces (length faces - (n + 1)) (length faces - n) c.args.cell (slice_index faces (length faces - 1 - n)) (lists_in c.args.lists.now) (lists_in c.loop-n.lists) (lists_in c.put.new.lists)
          c.requires.rising (omega (arith, less)) (omega (arith, less)) (ap (slice_index faces) to) below c.loop-n.invariant.put c.in_ok-put.ensures;
      above = above_more faces c.args.f (length faces - (n + 1)) (length faces - n) (omega (arith, less))
          (subst (λ i. c.args.f < slice_index faces i) to (omega (arith, above))) c.loop-n.invariant.above;
      within = omega (arith, less);
    }

pub returns-then-face-f : goal.returns-then-face-f
returns-then-face-f c =
    let faces = c.args.faces.now in let n = c.loop-n.n in
    let less = c.loop-n-test.true in
    let low = c.if-face-f.true in (
      length faces - n,
      place_above faces c.requires.rising c.args.f (length faces - 1 - n) (length faces - n) (omega (arith, less)) (omega (arith, low)) (omega (arith, less)) c.loop-n.invariant.above,
      c.loop-n.invariant.put,
    )
