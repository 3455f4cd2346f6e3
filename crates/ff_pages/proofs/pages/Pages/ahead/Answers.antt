use Rattle.std.proofs.Common.{◌≡◌, ℕ, ◌-◌, ◌*◌, length, subst}
use Rattle.std.specs.Prelude.{min}
use Rattle.ff_pages.specs.Paging.{visited_of}
use Rattle.ff_pages.proofs.Finding.{spent_within}
use Rattle.ff_pages.proofs.Closing.{more_within, ran_to}
use Rattle.ff_pages.proofs.pages.Pages.ahead.Goals as goal

pub overflow_sub-left : goal.overflow_sub-left
overflow_sub-left c = spent_within c.args.case.now.system.vars c.args.case.now.system.constraints c.args.self.now c.requires.stands c.spent.result (c.spent.ensures c.args.case.now.system.vars c.args.case.now.system.constraints c.requires.stands)

pub run_for-requires-clause-more : goal.run_for-requires-clause-more
run_for-requires-clause-more c = more_within (length c.args.self.now.part.vars * visited_of c.args.self.now) c.args.turns c.args.self.now.budget c.min-more.result
    c.requires.stands.is_in.paid (subst (λ (n : ℕ). c.min-more.result ≡ min c.args.turns (c.args.self.now.budget - n)) (c.spent.ensures c.args.case.now.system.vars c.args.case.now.system.constraints c.requires.stands) c.min-more.ensures)

pub returns-clause-ran : goal.returns-clause-ran
returns-clause-ran c = ran_to c.args.case.now.system.constraints c.run_for.new.self (length c.args.self.now.part.vars * visited_of c.args.self.now) c.args.turns c.args.self.now.budget c.min-more.result
    c.requires.stands.is_in.paid (subst (λ (n : ℕ). c.min-more.result ≡ min c.args.turns (c.args.self.now.budget - n)) (c.spent.ensures c.args.case.now.system.vars c.args.case.now.system.constraints c.requires.stands) c.min-more.ensures) c.in_ok-run_for.ensures.ran
