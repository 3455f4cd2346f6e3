use Rattle.std.proofs.Common.{Some, arith, inr, refl}
use Rattle.ff_solver.proofs.Branching.{last_mark, middle, taken, taken_path, taken_ready, taken_left}
use Rattle.ff_solver.proofs.path.Path.backtrack.Goals as goal

pub step-var-requires : goal.step-var-requires
step-var-requires c = (last_mark c.args.system.now.vars c.args.system.now.constraints c.args.self.now c.in-Some.mark c.pop.new.self.items
    c.requires.path c.in-Some.ensures.items).within

pub undo-requires-clause-steps : goal.undo-requires-clause-steps
undo-requires-clause-steps c =
    let m = last_mark c.args.system.now.vars c.args.system.now.constraints c.args.self.now c.in-Some.mark c.pop.new.self.items
    c.requires.path c.in-Some.ensures.items in
    omega (arith, m.within)

pub assume-requires-clause-var : goal.assume-requires-clause-var
assume-requires-clause-var c = (middle c.args.system.now.vars c.args.system.now.constraints c.args.self.now c.in-Some.mark
    c.step-var.result.var c.undo.new.self
    (record { trail = c.undo.new.self; branches = c.pop.new.self; next = c.args.self.now.next }) c.requires.path
    (taken c.args.system.now.vars c.args.self.now c.in-Some.mark c.step-var.result c.undo.new.self
    (record { trail = c.undo.new.self; branches = c.pop.new.self; next = c.args.self.now.next })
    c.in-Some.ensures.items c.in-Some.ensures.capacity c.step-var.ensures c.undo.ensures.trail c.undo.ensures.steps c.undo.ensures.same)).var_within

pub assume-requires-clause-open : goal.assume-requires-clause-open
assume-requires-clause-open c = (middle c.args.system.now.vars c.args.system.now.constraints c.args.self.now c.in-Some.mark
    c.step-var.result.var c.undo.new.self
    (record { trail = c.undo.new.self; branches = c.pop.new.self; next = c.args.self.now.next }) c.requires.path
    (taken c.args.system.now.vars c.args.self.now c.in-Some.mark c.step-var.result c.undo.new.self
    (record { trail = c.undo.new.self; branches = c.pop.new.self; next = c.args.self.now.next })
    c.in-Some.ensures.items c.in-Some.ensures.capacity c.step-var.ensures c.undo.ensures.trail c.undo.ensures.steps c.undo.ensures.same)).none

pub returns-in-Some-clause-path : goal.returns-in-Some-clause-path
returns-in-Some-clause-path c = taken_path c.args.system.now.vars c.args.system.now.constraints c.args.self.now c.in-Some.mark
    c.step-var.result.var c.undo.new.self
    (record { trail = c.assume.new.self; branches = c.pop.new.self; next = Some c.in-Some.mark }) c.requires.path
    (record {
      back = (taken c.args.system.now.vars c.args.self.now c.in-Some.mark c.step-var.result c.undo.new.self
          (record { trail = c.assume.new.self; branches = c.pop.new.self; next = Some c.in-Some.mark })
          c.in-Some.ensures.items c.in-Some.ensures.capacity c.step-var.ensures c.undo.ensures.trail c.undo.ensures.steps c.undo.ensures.same);
      set = record {
        trail = c.assume.ensures.trail;
        stepped = c.assume.ensures.stepped;
        within = c.assume.ensures.within;
        same = c.assume.ensures.same;
      };
      next = refl;
    })

pub returns-in-Some-clause-ready : goal.returns-in-Some-clause-ready
returns-in-Some-clause-ready c = taken_ready c.args.system.now.vars c.args.system.now.constraints c.args.self.now c.in-Some.mark
    c.step-var.result.var c.undo.new.self
    (record { trail = c.assume.new.self; branches = c.pop.new.self; next = Some c.in-Some.mark }) c.requires.path
    (record {
      back = (taken c.args.system.now.vars c.args.self.now c.in-Some.mark c.step-var.result c.undo.new.self
          (record { trail = c.assume.new.self; branches = c.pop.new.self; next = Some c.in-Some.mark })
          c.in-Some.ensures.items c.in-Some.ensures.capacity c.step-var.ensures c.undo.ensures.trail c.undo.ensures.steps c.undo.ensures.same);
      set = record {
        trail = c.assume.ensures.trail;
        stepped = c.assume.ensures.stepped;
        within = c.assume.ensures.within;
        same = c.assume.ensures.same;
      };
      next = refl;
    })

pub returns-in-Some-clause-left : goal.returns-in-Some-clause-left
returns-in-Some-clause-left c = taken_left c.args.system.now.vars c.args.system.now.constraints c.args.self.now c.in-Some.mark
    c.step-var.result.var c.undo.new.self
    (record { trail = c.assume.new.self; branches = c.pop.new.self; next = Some c.in-Some.mark }) c.requires.path
    (record {
      back = (taken c.args.system.now.vars c.args.self.now c.in-Some.mark c.step-var.result c.undo.new.self
          (record { trail = c.assume.new.self; branches = c.pop.new.self; next = Some c.in-Some.mark })
          c.in-Some.ensures.items c.in-Some.ensures.capacity c.step-var.ensures c.undo.ensures.trail c.undo.ensures.steps c.undo.ensures.same);
      set = record {
        trail = c.assume.ensures.trail;
        stepped = c.assume.ensures.stepped;
        within = c.assume.ensures.within;
        same = c.assume.ensures.same;
      };
      next = refl;
    })

pub returns-in-Some-clause-back : goal.returns-in-Some-clause-back
returns-in-Some-clause-back c = inr (
  c.in-Some.mark,
  c.step-var.result.var,
  c.undo.new.self,
  (record {
    back = (taken c.args.system.now.vars c.args.self.now c.in-Some.mark c.step-var.result c.undo.new.self
        (record { trail = c.assume.new.self; branches = c.pop.new.self; next = Some c.in-Some.mark })
        c.in-Some.ensures.items c.in-Some.ensures.capacity c.step-var.ensures c.undo.ensures.trail c.undo.ensures.steps c.undo.ensures.same);
    set = record {
      trail = c.assume.ensures.trail;
      stepped = c.assume.ensures.stepped;
      within = c.assume.ensures.within;
      same = c.assume.ensures.same;
    };
    next = refl;
  }),
)
