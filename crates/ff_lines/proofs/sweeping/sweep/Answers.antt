use Rattle.std.proofs.Common.{◌≡◌, ◌+◌, length, arith, subst}
use Rattle.ff_lines.specs.Gathered.{AreGathered}
use Rattle.ff_lines.proofs.Gathers.{begun}
use Rattle.ff_lines.proofs.sweeping.sweep.Goals as goal

pub loop-i-init : goal.loop-i-init
loop-i-init c = begun c.args.lines.now c.args.points.now.items c.requires.ends

pub returns : goal.returns
returns c =
    let e : c.loop-i.i ≡ length c.args.lines.now = omega (arith, c.loop-i-test.false, c.loop-i.auto.i-end) in
    subst (λ n. AreGathered c.args.lines.now n (n + 1) c.loop-i.points.items c.loop-i.full) e c.loop-i.invariant
