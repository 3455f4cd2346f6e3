use Rattle.std.proofs.Common.{arith, subst, inl, inr}
use Rattle.ff_basics.proofs.Numbers.{last_or}
use Rattle.ff_basics.proofs.Tests.{not_false}
use Rattle.ff_lines.specs.Heads.{IsOnAt}
use Rattle.ff_lines.proofs.cutting.first_on.Goals as goal

pub loop-b-init : goal.loop-b-init
loop-b-init c = λ x h. absurd (omega (arith, h))

pub returns-then-is_on : goal.returns-then-is_on
returns-then-is_on c = record { from = omega arith; on = λ i. c.is_on.ensures.0 c.if-is_on.true; none = λ x f g i. c.loop-b.invariant x g }

pub loop-b-preserved : goal.loop-b-preserved
loop-b-preserved c = λ x h on. elim (last_or x c.loop-b.b h) [
  | inl m ↦ c.loop-b.invariant x m on
  | inr e ↦ not_false _ c.if-is_on.false (c.is_on.ensures.1 (subst (IsOnAt c.args.l c.args.points.now) e on))
]

pub returns : goal.returns
returns c = record { from = omega arith; on = λ i. absurd (omega (arith, i)); none = λ x f g i. c.loop-b.invariant x (omega (arith, i, c.loop-b-test.false)) }
