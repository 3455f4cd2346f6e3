use Rattle.std.proofs.lemmas.Bool.{false≢true}
use Rattle.ff_drawn.proofs.Forks.{forked_first, forked_last}
use Rattle.ff_drawn.proofs.segments.are_forked.Goals as goal

pub returns-then-has_end : goal.returns-then-has_end
returns-then-has_end c = λ t. forked_first c.args.points.now c.args.e c.args.k (c.has_end.ensures.0 c.if-has_end.true) (c.is_off.ensures.0 t)

pub returns-then-has_end-2 : goal.returns-then-has_end-2
returns-then-has_end-2 c = λ t. forked_last c.args.points.now c.args.e c.args.k (c.has_end-2.ensures.0 c.if-has_end-2.true) (c.is_off-then-has_end-2.ensures.0 t)

pub returns : goal.returns
returns c = λ t. absurd (false≢true t)
