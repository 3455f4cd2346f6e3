use Rattle.std.proofs.Common.{arith, refl, subst}
use Rattle.std.proofs.lemmas.Option.{slice_get_read, slice_get_within}
use Rattle.ff_basics.proofs.Tests.{not_false}
use Rattle.ff_basics.proofs.Options.{same_value}
use Rattle.ff_orders.specs.Noted.{DeadAt, IsDeadBy}
use Rattle.ff_orders.proofs.Loops.{none_further}
use Rattle.ff_orders.proofs.verifying.first_dead.Goals as goal

pub loop-c-preserved : goal.loop-c-preserved
loop-c-preserved c = none_further (DeadAt c.args.said.now c.args.constraints.now) c.loop-c.c c.loop-c.invariant
    (λ dead. not_false _ c.if-is_dead.false (c.is_dead.ensures.1 (subst (IsDeadBy c.args.said.now)
    (same_value dead.there (slice_get_read c.args.constraints.now _ _ _ refl c.loop-c-test.true c.index-constraints-c.is)) dead.dead)))

pub returns : goal.returns
returns c = λ n dead. c.loop-c.invariant n (let w = slice_get_within c.args.constraints.now n dead.con dead.there in omega (arith, w, c.loop-c-test.false)) dead
