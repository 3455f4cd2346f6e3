use Rattle.std.proofs.Common.{arith, ◌≡◌, length, subst}
use Rattle.std.proofs.lemmas.Option.{slice_get-get_or}
use Rattle.ff_lines.specs.Gathered.{AreEndsOf}
use Rattle.ff_lines.proofs.Gathers.{more_ends, no_ends}
use Rattle.ff_lines.proofs.gathering.ends_of.Goals as goal

pub loop-i-init : goal.loop-i-init
loop-i-init c = rw c.new-points.ensures.items (no_ends c.args.lines.now)

pub loop-i-preserved : goal.loop-i-preserved
loop-i-preserved c = rw (c.in_ok-push-2.ensures.items, c.in_ok-push.ensures.items)
    (more_ends c.args.lines.now c.loop-i.i _ c.loop-i.points.items (slice_get-get_or c.args.lines.now c.loop-i.i _ c.loop-i-test.true) c.loop-i.invariant)

pub returns : goal.returns
returns c =
    let e : c.loop-i.i ≡ length c.args.lines.now = omega (arith, c.loop-i-test.false, c.loop-i.auto.i-end) in
    subst (λ n. AreEndsOf c.args.lines.now n c.loop-i.points.items) e c.loop-i.invariant
