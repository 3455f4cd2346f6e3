use Rattle.std.proofs.Common.{◌∙◌, sym, ap, ◌∷◌}
use Rattle.ff_solver.specs.declared.steps.Step.TheVariants as step
use Rattle.ff_tables.specs.declared.orders.Order.TheVariants.{Below, Above}
use Rattle.ff_refute.proofs.Trimmed.{less_enough, fork_enough, has_first, has_second}
use Rattle.ff_refute.proofs.Rested.{fork_lean}
use Rattle.ff_refute.proofs.trimming.Kept.fork.Goals as goal

pub returns-then-not-contains-clause-enough : goal.returns-then-not-contains-clause-enough
returns-then-not-contains-clause-enough c vars cons value held l a b = less_enough vars cons value held c.args.below c.args.var Below
    (sym c.contains.ensures ∙ c.if-not-contains.true) a

pub returns-then-not-contains-2-clause-enough : goal.returns-then-not-contains-2-clause-enough
returns-then-not-contains-2-clause-enough c vars cons value held l a b = less_enough vars cons value held c.args.above c.args.var Above
    (sym c.contains-2.ensures ∙ c.if-not-contains-2.true) b

pub returns-clause-enough : goal.returns-clause-enough
returns-clause-enough c vars cons value held l a b = fork_enough vars cons value held c.args.below c.args.above
    (record { steps = c.push_front.new.self; uses = c.in_ok-uses.uses }) c.args.var
    (c.in_ok-push_front.ensures.items ∙ ap (λ xs. step.Try c.args.var ∷ xs) c.in_ok-steps.ensures)
    (has_first c.args.below.uses c.args.above.uses c.in_ok-uses.uses c.in_ok-uses.ensures)
    (has_second c.args.below.uses c.args.above.uses c.in_ok-uses.uses c.in_ok-uses.ensures) l a b

pub returns-clause-lean : goal.returns-clause-lean
returns-clause-lean c cons a b = fork_lean cons c.args.below c.args.above
    (record { steps = c.push_front.new.self; uses = c.in_ok-uses.uses }) c.args.var
    (c.in_ok-push_front.ensures.items ∙ ap (λ xs. step.Try c.args.var ∷ xs) c.in_ok-steps.ensures)
    (sym c.contains.ensures ∙ c.if-not-contains.false) (sym c.contains-2.ensures ∙ c.if-not-contains-2.false)
    c.in_ok-uses.ensures a b
