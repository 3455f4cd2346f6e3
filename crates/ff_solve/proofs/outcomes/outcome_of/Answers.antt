use Rattle.std.proofs.Common.{ap, ◌-◌}
use Rattle.ff_solve.proofs.Searching.{gone_on, smaller, ended_whole, ended_within, spent}
use Rattle.ff_solve.proofs.outcomes.outcome_of.Goals as goal

pub search-smaller : goal.search-smaller
search-smaller c = smaller _ _ _ _ _ _ _ _ _ c.search.invariant c.advance.ensures.stands c.advance.ensures.same (ap (λ n. c.args.budget - n) c.used.ensures) c.in_ok-values.ensures.advances c.in-Found.values c.in-Found.is

pub search-preserved : goal.search-preserved
search-preserved c = gone_on _ _ _ _ _ _ _ _ _ c.search.invariant c.advance.ensures.stands c.advance.ensures.same (ap (λ n. c.args.budget - n) c.used.ensures) c.in_ok-values.ensures.advances c.in-Found.values c.in-Found.is _ c.in_ok-push-in-Found.ensures.items

pub finished-requires-clause-ends : goal.finished-requires-clause-ends
finished-requires-clause-ends c = ended_within _ _ _ _ _ _ _ _ _ c.search.invariant c.advance.ensures.stands c.advance.ensures.same (ap (λ n. c.args.budget - n) c.used.ensures) c.in_ok-values.ensures.advances c.in-Finished.is

pub finished-requires-clause-all : goal.finished-requires-clause-all
finished-requires-clause-all c = ended_whole _ _ _ _ _ _ _ _ _ c.search.invariant c.advance.ensures.stands c.advance.ensures.same (ap (λ n. c.args.budget - n) c.used.ensures) c.in_ok-values.ensures.advances c.in-Finished.is

pub returns-in-Spent : goal.returns-in-Spent
returns-in-Spent c = spent _ _ _ _ _ _ _ _ _ c.search.invariant c.advance.ensures.stands c.advance.ensures.same (ap (λ n. c.args.budget - n) c.used.ensures) c.in_ok-values.ensures.advances c.in-Spent.is
