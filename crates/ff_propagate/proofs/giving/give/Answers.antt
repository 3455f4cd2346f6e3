use Rattle.std.proofs.Common.{◌∙◌}
use Rattle.std.proofs.lemmas.Option.{slice_get-get_or}
use Rattle.ff_propagate.proofs.GivenSteps.{agreed_on, first_clash}
use Rattle.ff_propagate.proofs.giving.give.Goals as goal

pub returns-in-Some-clause-gave : goal.returns-in-Some-clause-gave
returns-in-Some-clause-gave c = first_clash c.args.givens.now c.loop-i.i c.in-Some.first c.loop-i.facts _
    c.loop-i.invariant.1 c.loop-i.invariant.2 (slice_get-get_or _ _ _ c.loop-i-test.true) c.in-Some.ensures.gave

pub loop-i-preserved : goal.loop-i-preserved
loop-i-preserved c = (
  c.give_one.ensures.wide ∙ c.loop-i.invariant.0,
  c.give_one.ensures.gives,
  agreed_on c.args.givens.now c.loop-i.i c.loop-i.facts c.give_one.new.facts _ c.give_one.ensures.more
      c.loop-i.invariant.1 c.loop-i.invariant.2 (slice_get-get_or _ _ _ c.loop-i-test.true)
      c.in_default.ensures.gave,
)
