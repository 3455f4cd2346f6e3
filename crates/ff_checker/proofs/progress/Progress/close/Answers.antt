use Rattle.std.proofs.Common.{refl, ap, ◌∙◌, subst, sym}
use Rattle.ff_log.specs.Logs.{with_claim}
use Rattle.ff_checker.specs.LogStates.{state_of, AllFitting}
use Rattle.ff_checker.proofs.BranchLists.{closed_opened, closed_state}
use Rattle.ff_checker.proofs.progress.Progress.close.Goals as goal

pub returns-in_ok-add-in-Some-clause-progress : goal.returns-in_ok-add-in-Some-clause-progress
returns-in_ok-add-in-Some-clause-progress c = record {
  fitting = subst (λ k. AllFitting k c.args.self.now.declared.items) (sym (c.in_ok-add-in-Some.ensures.side ∙ c.undo.ensures.side)) c.requires.fitting;
  held = c.in_ok-add-in-Some.ensures.held;
  opened = closed_opened c.args.self.now.held.side c.args.self.now.held.list.items c.undo.new.self.list.items c.add.new.self.list.items
      c.pop.new.self.items c.args.self.now.branches.items c.in-Some.branch c.in-Some.ensures.items c.requires.opened c.undo.ensures.left
      (c.in_ok-add-in-Some.ensures.added ∙ ap (with_claim c.undo.new.self.list.items) c.reversed.ensures) c.add.new.self.side (c.in_ok-add-in-Some.ensures.side ∙ c.undo.ensures.side);
}

pub returns-in_ok-add-in-Some-clause-state : goal.returns-in_ok-add-in-Some-clause-state
returns-in_ok-add-in-Some-clause-state c =
    closed_state c.args.self.now.held.side c.args.self.now.held.list.items c.undo.new.self.list.items c.add.new.self.list.items
    c.pop.new.self.items c.args.self.now.branches.items c.in-Some.branch c.in-Some.ensures.items c.requires.opened c.undo.ensures.left
    (c.in_ok-add-in-Some.ensures.added ∙ ap (with_claim c.undo.new.self.list.items) c.reversed.ensures) (state_of c.args.self.now) refl refl
