use Rattle.std.proofs.Common.{◌∙◌, sym}
use Rattle.ff_refute.proofs.Trimmed.{set_enough, less_enough}
use Rattle.ff_refute.proofs.Rested.{set_lean}
use Rattle.ff_refute.proofs.trimming.Kept.set.Goals as goal

pub returns-then-not-contains-clause-enough : goal.returns-then-not-contains-clause-enough
returns-then-not-contains-clause-enough c board held l f enough = less_enough c.args.system.now.vars c.args.system.now.constraints board held
    c.args.self c.args.var c.args.value (sym c.contains.ensures ∙ c.if-not-contains.true) enough

pub returns-clause-enough : goal.returns-clause-enough
returns-clause-enough c board held l f enough = set_enough c.args.system.now.vars c.args.system.now.constraints board held
    c.args.self (record { steps = c.push_front.new.self; uses = c.use_by.new.uses }) c.args.var c.args.value c.args.by
    c.in_ok-push_front.ensures.items c.in_ok-use_by.ensures.has c.in_ok-use_by.ensures.covers l f enough

pub returns-clause-lean : goal.returns-clause-lean
returns-clause-lean c lean = set_lean c.args.system.now.constraints
    c.args.self (record { steps = c.push_front.new.self; uses = c.use_by.new.uses }) c.args.var c.args.value c.args.by
    c.in_ok-push_front.ensures.items (sym c.contains.ensures ∙ c.if-not-contains.false) c.in_ok-use_by.ensures.only lean
