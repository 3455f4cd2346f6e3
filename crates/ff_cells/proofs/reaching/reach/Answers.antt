use Rattle.std.proofs.Common.{◌≤ℤ◌, refl, arith}
use mir.Syntax.{w64}
use mir.Val.{to_z, of_z}
use Rattle.std.proofs.lemmas.Int.{ints}
use Rattle.ff_whole.proofs.Bounds.{read}
use Rattle.ff_cells.proofs.Reached.{reached_more}
use Rattle.ff_cells.proofs.reaching.reach.Goals as goal

pub bars-preserved : goal.bars-preserved
bars-preserved c =
    let bar = c.index-bars-active.result in
    let a = to_z w64 (of_z w64 c.args.a) in
    let low : bar.lo.x ≤ℤ a = omega (arith, ints, rw (read w64 bar.ok.lo_in.x_below tt).is at c.if-a-bar.false) in
    reached_more c.args.bars.now a (to_z w64 (of_z w64 c.args.c)) c.bars.active _ bar
    c.bars.invariant c.bars-test.true c.index-bars-active.is low refl c.in_ok-push_lasting.ensures
