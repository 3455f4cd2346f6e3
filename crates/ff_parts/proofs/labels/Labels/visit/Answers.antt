use Rattle.std.proofs.Common.{◌<◌, List, length, slice_index, subst}
use Rattle.ff_tables.specs.declared.terms.Constraint.{Constraint}
use Rattle.ff_propagate.specs.Facts.{value_at}
use Rattle.ff_parts.proofs.Following.{visit_on, con_read}
use Rattle.ff_parts.proofs.labels.Labels.visit.Goals as goal

pub loop-k-preserved : goal.loop-k-preserved
loop-k-preserved c =
    let cons = c.args.system.now.constraints in
    let n = slice_index c.of-list.result.now c.loop-k.k in
    let at = con_read cons _ n c.index-constraints-list.result c.as_slice-constraints.ensures
    (subst (λ (cs : List Constraint). n < length cs) c.as_slice-constraints.ensures
    (c.of-list.ensures.below c.loop-k.k c.loop-k-test.true)) c.index-constraints-list.is in
    visit_on c.args.system.now.vars cons (value_at c.args.facts.now) c.args.part c.args.head
    c.index-var.result.now c.of-list.result.now c.loop-k.k c.args.self.now c.loop-k.self
    c.follow.new.self c.index-constraints-list.result c.loop-k.invariant c.requires.head at
    c.follow.ensures.spreading c.follow.ensures.spreads c.follow.ensures.labelled
