use Rattle.std.proofs.Common.{◌≡◌, ◌+◌, length, arith, subst}
use Rattle.ff_lines.specs.Gathered.{AreGathered}
use Rattle.ff_lines.proofs.Gathers.{begun}
use Rattle.ff_lines.proofs.gathering.vertices_by_pairs.Goals as goal

pub loop-i-init : goal.loop-i-init
loop-i-init c = begun c.args.lines.now c.in_ok-points.points.items c.in_ok-points.ensures

pub finished-requires : goal.finished-requires
finished-requires c =
    let e : c.loop-i.i ≡ length c.args.lines.now = omega (arith, c.loop-i-test.false, c.loop-i.auto.i-end) in
    record { gathered = subst (λ n. AreGathered c.args.lines.now n (n + 1) c.loop-i.points.items c.loop-i.full) e c.loop-i.invariant }
