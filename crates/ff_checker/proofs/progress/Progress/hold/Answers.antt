use Rattle.ff_checker.specs.LogStates.{AllFitting}
use Rattle.std.proofs.Common.{subst, sym, reverse, ap₂}
use Rattle.ff_checker.proofs.BranchLists.{held_opened, held_branches}
use Rattle.ff_checker.proofs.progress.Progress.hold.Goals as goal

pub returns-clause-progress : goal.returns-clause-progress
returns-clause-progress c = record {
  fitting = subst (λ k. AllFitting k c.args.self.now.declared.items) (sym c.in_ok-add.ensures.side) c.requires.progress.fitting;
  held = c.in_ok-add.ensures.held;
  opened = held_opened c.args.self.now.held.side c.add.new.self.side c.args.self.now.held.list.items c.add.new.self.list.items c.args.claim
      (reverse c.args.self.now.branches.items) c.in_ok-add.ensures.side c.in_ok-add.ensures.added c.requires.progress.opened;
}

pub returns-clause-state : goal.returns-clause-state
returns-clause-state c = ap₂ (λ held branches. record { declared = c.args.self.now.declared.items; held = held; branches = branches; ended = c.args.self.now.ended })
    c.in_ok-add.ensures.added
    (held_branches c.args.self.now.held.side c.args.self.now.held.list.items c.add.new.self.list.items c.args.claim
    (reverse c.args.self.now.branches.items) c.in_ok-add.ensures.added c.requires.progress.opened)
