use Rattle.std.proofs.Common.{◌≡◌, ◌++◌, ◌∷◌, [], ℕ, Some, arith, length, ap, ◌∙◌}
use Rattle.ff_solver.proofs.Branching.{branched_path, branched_left, branched_ready, branches_long, longer}
use Rattle.ff_solver.proofs.path.Path.branch.Goals as goal

pub overflow_cast-mark : goal.overflow_cast-mark
overflow_cast-mark c =
    let long = longer c.args.self.now.trail c.args.var _ c.assume.new.self c.assume.ensures.stepped in
    omega (arith, long, c.assume.ensures.within, c.len-steps.ensures, c.requires.path.trail.few)

pub push_reserved-requires : goal.push_reserved-requires
push_reserved-requires c =
    let a = branches_long c.args.system.now.vars c.args.system.now.constraints c.args.self.now c.requires.path
    in
    let long = longer c.args.self.now.trail c.args.var _ c.assume.new.self c.assume.ensures.stepped in
    omega (arith, a, long, c.assume.ensures.within, c.requires.path.room)

pub returns-clause-path : goal.returns-clause-path
returns-clause-path c =
    let long : c.len-steps.result ≡ length c.args.self.now.trail.steps.items = omega (arith, c.len-steps.ensures) in
    branched_path c.args.system.now.vars c.args.system.now.constraints c.args.self.now c.args.var _
    c.requires.path c.requires.silent
    (record {
      set = record {
        trail = c.assume.ensures.trail;
        stepped = c.assume.ensures.stepped;
        within = c.assume.ensures.within;
        same = c.assume.ensures.same;
      };
      branches = c.push_reserved.ensures.items ∙ ap (λ (n : ℕ). c.args.self.now.branches.items ++ n ∷ []) long;
      room = c.push_reserved.ensures.capacity;
      next = ap (λ (n : ℕ). Some n) long;
    })

pub returns-clause-ready : goal.returns-clause-ready
returns-clause-ready c =
    let long : c.len-steps.result ≡ length c.args.self.now.trail.steps.items = omega (arith, c.len-steps.ensures) in
    branched_ready c.args.system.now.vars c.args.system.now.constraints c.args.self.now c.args.var
    (record { trail = c.assume.new.self; branches = c.push_reserved.new.self; next = Some c.len-steps.result })
    c.requires.silent
    (record {
      set = record {
        trail = c.assume.ensures.trail;
        stepped = c.assume.ensures.stepped;
        within = c.assume.ensures.within;
        same = c.assume.ensures.same;
      };
      branches = c.push_reserved.ensures.items ∙ ap (λ (n : ℕ). c.args.self.now.branches.items ++ n ∷ []) long;
      room = c.push_reserved.ensures.capacity;
      next = ap (λ (n : ℕ). Some n) long;
    })

pub returns-clause-left : goal.returns-clause-left
returns-clause-left c =
    let long : c.len-steps.result ≡ length c.args.self.now.trail.steps.items = omega (arith, c.len-steps.ensures) in
    branched_left c.args.system.now.vars c.args.system.now.constraints c.args.self.now c.args.var _
    c.requires.path c.requires.open
    (record {
      set = record {
        trail = c.assume.ensures.trail;
        stepped = c.assume.ensures.stepped;
        within = c.assume.ensures.within;
        same = c.assume.ensures.same;
      };
      branches = c.push_reserved.ensures.items ∙ ap (λ (n : ℕ). c.args.self.now.branches.items ++ n ∷ []) long;
      room = c.push_reserved.ensures.capacity;
      next = ap (λ (n : ℕ). Some n) long;
    })
    c.requires.var

pub returns-clause-branched : goal.returns-clause-branched
returns-clause-branched c =
    let long : c.len-steps.result ≡ length c.args.self.now.trail.steps.items = omega (arith, c.len-steps.ensures) in
    record {
      set = record {
        trail = c.assume.ensures.trail;
        stepped = c.assume.ensures.stepped;
        within = c.assume.ensures.within;
        same = c.assume.ensures.same;
      };
      branches = c.push_reserved.ensures.items ∙ ap (λ (n : ℕ). c.args.self.now.branches.items ++ n ∷ []) long;
      room = c.push_reserved.ensures.capacity;
      next = ap (λ (n : ℕ). Some n) long;
    }
