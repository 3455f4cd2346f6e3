use Rattle.std.proofs.Common.{◌≡◌, ◌+◌, ◌∙◌, length, ap, refl, Some, subst, slice_get, length-append}
use Rattle.std.proofs.lemmas.Option.{slice_get_read}
use Rattle.ff_propagate.specs.declared.parts.Part.{Part}
use Rattle.ff_propagate.specs.Facts.{value_at}
use Rattle.ff_solve.specs.Outcomes.{IsOutcome}
use Rattle.ff_solve.proofs.Lists.{each_more, one_there}
use Rattle.ff_solve.proofs.outcomes.outcomes_of.Goals as goal

pub outcome_of-requires-clause-part : goal.outcome_of-requires-clause-part
outcome_of-requires-clause-part c = c.requires.parts c.loop-k.k c.index-parts-k.result (slice_get_read c.args.parts.now _ _ _ refl c.loop-k-test.true c.index-parts-k.is)

pub outcome_of-requires-clause-touching : goal.outcome_of-requires-clause-touching
outcome_of-requires-clause-touching c = c.requires.touching c.loop-k.k c.index-parts-k.result (slice_get_read c.args.parts.now _ _ _ refl c.loop-k-test.true c.index-parts-k.is)

pub loop-k-preserved : goal.loop-k-preserved
loop-k-preserved c = record {
  as_many = ap length c.in_ok-push.ensures.items ∙ length-append _ _ ∙ ap (λ n. n + 1) c.loop-k.invariant.as_many;
  each = λ k part outcome there found. each_more
      (λ n o. (q : Part) → slice_get c.args.parts.now n ≡ Some q → IsOutcome c.args.case.now (value_at c.args.facts.now) c.args.budget q.vars o)
      c.loop-k.outcomes.items c.push.new.self.items c.in_ok-outcome_of.field-0 c.loop-k.k c.in_ok-push.ensures.items c.loop-k.invariant.as_many
      (λ n o f q t. c.loop-k.invariant.each n q o t f)
      (λ q t. subst (λ (x : Part). IsOutcome c.args.case.now (value_at c.args.facts.now) c.args.budget x.vars c.in_ok-outcome_of.field-0)
      (one_there c.args.parts.now c.loop-k.k c.index-parts-k.result q (slice_get_read c.args.parts.now _ _ _ refl c.loop-k-test.true c.index-parts-k.is) t) c.in_ok-outcome_of.ensures)
      k outcome found part there;
}
