use Rattle.std.proofs.Common.{arith, ◌≡◌, length, subst, sym}
use Rattle.ff_lines.specs.Heads.{AreHeads}
use Rattle.ff_lines.proofs.Cursors.{all_past}
use Rattle.ff_lines.proofs.HeadLists.{no_heads}
use Rattle.ff_lines.proofs.cutting.heads_of.Goals as goal

pub loop-i-init : goal.loop-i-init
loop-i-init c = (subst (AreHeads c.args.lines.now 0 c.args.points.now c.args.a) (sym c.in_ok-heads.ensures) (no_heads c.args.lines.now c.args.points.now c.args.a), c.requires.cursors)

pub returns-clause-heads : goal.returns-clause-heads
returns-clause-heads c =
    let e : c.loop-i.i ≡ length c.args.lines.now = omega (arith, c.loop-i-test.false, c.loop-i.auto.i-end) in
    subst (λ n. AreHeads c.args.lines.now n c.args.points.now c.args.a c.loop-i.heads.items) e c.loop-i.invariant.0

pub returns-clause-cursors : goal.returns-clause-cursors
returns-clause-cursors c = all_past c.args.lines.now c.loop-i.i c.args.points.now c.args.a c.loop-i.cursors.items (omega (arith, c.loop-i-test.false)) c.loop-i.invariant.1
