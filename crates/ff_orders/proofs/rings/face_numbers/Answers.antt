use Rattle.std.proofs.Common.{MatchResult, Some, ap, subst, sym, ◌∙◌}
use Rattle.ff_orders.specs.Given.{AreNumbersBy, WhyNoNumbersBy}
use Rattle.ff_orders.proofs.rings.face_numbers.Goals as goal

pub returns-in-Some : goal.returns-in-Some
returns-in-Some c = subst (λ given. MatchResult c.numbers_of.result (λ numbers. AreNumbersBy c.args.rings.now given numbers) (WhyNoNumbersBy c.args.rings.now given))
    (ap Some c.as_slice.ensures ∙ sym c.in-Some.is) c.numbers_of.ensures
