use Rattle.std.proofs.Common.{◌≡◌, ◌<◌, arith}
use Rattle.ff_desk.proofs.Marking.{marked_all}
use Rattle.ff_desk.proofs.demands.mark_all.Goals as goal

pub returns : goal.returns
returns c = let e = c.loop-p-test.false in let w = c.loop-p.invariant.0 in
    marked_all c.args.marks.now c.loop-p.marks w (λ p l. c.loop-p.invariant.1 p (omega (arith, e, l, w)))
