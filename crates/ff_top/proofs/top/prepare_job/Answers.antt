use Rattle.std.proofs.Common.{◌∙◌, None, Some, ap, subst}
use Rattle.ff_top.specs.Answer.{NoBench}
use Rattle.ff_top.specs.Counts.{HasCount}
use Rattle.ff_top.proofs.Runs.{for_job, for_idle}
use Rattle.ff_top.proofs.top.prepare_job.Goals as goal

pub returns-in-Solve-clause-answer : goal.returns-in-Solve-clause-answer
returns-in-Solve-clause-answer g c = for_job NoBench _ _ _ _ (c.in-Some.is ∙ ap Some c.in-Solve.is) c.prepare_solve.ensures.answer

pub returns-in_default-clause-answer : goal.returns-in_default-clause-answer
returns-in_default-clause-answer g c = for_idle NoBench _ _ None _ _ c.in_default.is (λ input. c.in_ok-usage.ensures)

pub returns-in-Check-clause-answer : goal.returns-in-Check-clause-answer
returns-in-Check-clause-answer g c = for_job NoBench _ _ _ _ (c.in-Some.is ∙ ap Some c.in-Check.is) c.prepare_check.ensures.answer

pub returns-in-Lines-clause-answer : goal.returns-in-Lines-clause-answer
returns-in-Lines-clause-answer g c = for_job NoBench _ _ _ _ (c.in-Some.is ∙ ap Some c.in-Lines.is) c.prepare_lines.ensures.answer

pub returns-in_ok-usage-in-Bench-clause-answer : goal.returns-in_ok-usage-in-Bench-clause-answer
returns-in_ok-usage-in-Bench-clause-answer g c = for_idle NoBench _ _ _ _ _ (c.in-Some.is ∙ ap Some c.in-Bench.is) (λ input. c.in_ok-usage-in-Bench.ensures)

pub make-requires : goal.make-requires
make-requires g c = subst HasCount (c.in-Some.is ∙ ap Some c.in-Make.is) c.requires

pub returns-in_ok-make-in-Make-clause-answer : goal.returns-in_ok-make-in-Make-clause-answer
returns-in_ok-make-in-Make-clause-answer g c = for_idle NoBench _ _ _ _ _ (c.in-Some.is ∙ ap Some c.in-Make.is) (λ input. c.in_ok-make-in-Make.ensures)
