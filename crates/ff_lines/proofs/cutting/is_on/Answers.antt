use Rattle.std.proofs.lemmas.Bool.{false≢true}
use Rattle.ff_basics.proofs.Tests.{not_false}
use Rattle.ff_lines.proofs.Ordered.{on_of_test, test_of_on}
use Rattle.ff_lines.proofs.cutting.is_on.Goals as goal

pub returns-then-is_before : goal.returns-then-is_before
returns-then-is_before c = (
  (λ t. absurd (false≢true t)),
  (λ on. absurd ((test_of_on c.args.l c.requires.line c.args.v c.earlier-lo.result c.later-hi.result c.earlier-lo.ensures c.later-hi.ensures on).1 (c.is_before.ensures.0 c.if-is_before.true))),
)

pub returns-then-is_before-2 : goal.returns-then-is_before-2
returns-then-is_before-2 c = (
  (λ t. absurd (false≢true t)),
  (λ on. absurd ((test_of_on c.args.l c.requires.line c.args.v c.earlier-lo.result c.later-hi.result c.earlier-lo.ensures c.later-hi.ensures on).2 (c.is_before-2.ensures.0 c.if-is_before-2.true))),
)

pub returns : goal.returns
returns c = (
  (λ t. on_of_test c.args.l c.requires.line c.args.v c.earlier-lo.result c.later-hi.result c.earlier-lo.ensures c.later-hi.ensures (c.is_level.ensures.0 t)
      (λ m. not_false _ c.if-is_before.false (c.is_before.ensures.1 m)) (λ m. not_false _ c.if-is_before-2.false (c.is_before-2.ensures.1 m))),
  (λ on. c.is_level.ensures.1 (test_of_on c.args.l c.requires.line c.args.v c.earlier-lo.result c.later-hi.result c.earlier-lo.ensures c.later-hi.ensures on).0),
)
