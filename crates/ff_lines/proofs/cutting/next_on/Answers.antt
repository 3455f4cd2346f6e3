use Rattle.std.proofs.Common.{arith, subst, inl, inr}
use Rattle.ff_basics.proofs.Numbers.{last_or}
use Rattle.ff_basics.proofs.Tests.{not_false}
use Rattle.ff_lines.specs.Heads.{IsOnAt}
use Rattle.ff_lines.proofs.cutting.next_on.Goals as goal

pub loop-b-init : goal.loop-b-init
loop-b-init c = λ x g h. absurd (omega (arith, g, h))

pub returns-then-is_on : goal.returns-then-is_on
returns-then-is_on c = record {
  order = (let o = c.loop-b.auto.b in omega (arith, o));
  within = c.loop-b-test.true;
  a_on = c.requires.on;
  b_on = c.is_on.ensures.0 c.if-is_on.true;
  none = c.loop-b.invariant;
}

pub loop-b-preserved : goal.loop-b-preserved
loop-b-preserved c = λ x g h on. elim (last_or x c.loop-b.b h) [
  | inl m ↦ c.loop-b.invariant x g m on
  | inr e ↦ not_false _ c.if-is_on.false (c.is_on.ensures.1 (subst (IsOnAt c.args.l c.args.points.now) e on))
]

pub returns : goal.returns
returns c = λ x g h. c.loop-b.invariant x g (omega (arith, h, c.loop-b-test.false))
