use Rattle.ff_checker.specs.LogStates.{AllFitting}
use Rattle.std.proofs.Common.{subst, sym, ap₂, ◌∙◌}
use Rattle.ff_checker.proofs.BranchLists.{open_opened, open_branches}
use Rattle.ff_checker.proofs.progress.Progress.open.Goals as goal

pub returns-clause-progress : goal.returns-clause-progress
returns-clause-progress c = record {
  fitting = subst (λ k. AllFitting k c.args.self.now.declared.items) (sym c.in_ok-add.ensures.side) c.requires.progress.fitting;
  held = c.in_ok-add.ensures.held;
  opened = open_opened c.args.self.now.held.side c.add.new.self.side c.args.self.now.held.list.items c.add.new.self.list.items c.args.claim
      c.args.self.now.branches.items c.push.new.self.items c.len.result c.requires.within c.in_ok-add.ensures.side c.in_ok-add.ensures.added (c.len.ensures ∙ c.args.self.now.held.list.ok.0) c.in_ok-push.ensures.ok c.requires.progress.opened;
}

pub returns-clause-state : goal.returns-clause-state
returns-clause-state c = ap₂ (λ held branches. record { declared = c.args.self.now.declared.items; held = held; branches = branches; ended = c.args.self.now.ended })
    c.in_ok-add.ensures.added
    (open_branches c.args.self.now.held.side c.args.self.now.held.list.items c.add.new.self.list.items c.args.claim
    c.args.self.now.branches.items c.push.new.self.items c.len.result c.in_ok-add.ensures.added (c.len.ensures ∙ c.args.self.now.held.list.ok.0) c.in_ok-push.ensures.ok c.requires.progress.opened)
