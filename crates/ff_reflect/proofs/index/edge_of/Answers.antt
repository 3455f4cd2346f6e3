use Rattle.std.proofs.Common.{◌∙◌, sym, subst, ◌<◌}
use Rattle.ff_reflect.proofs.Indexed.{IsAhead, all_ahead, found, not_found, fewer_ahead, room}
use Rattle.ff_reflect.proofs.index.edge_of.Goals as goal

pub loop-at-init : goal.loop-at-init
loop-at-init c = let s = c.chain_of.ensures in all_ahead c.args.edges.now c.args.index.now c.args.u c.args.v c.chain_of.result c.index-at.result.now c.requires.index s.value s.size c.index-at.ensures

pub returns-then-does_join : goal.returns-then-does_join
returns-then-does_join c = found c.args.edges.now c.args.u c.args.v c.in-Some.e c.requires.once (subst (IsAhead c.args.edges.now c.args.u c.args.v) c.in-Some.is c.loop-at.invariant) (sym c.does_join.ensures ∙ c.if-does_join.true)

pub loop-at-preserved : goal.loop-at-preserved
loop-at-preserved c = (fewer_ahead c.args.edges.now c.args.index.now c.args.u c.args.v c.in-Some.e c.index-at-in-Some.result.now c.requires.index
    (subst (IsAhead c.args.edges.now c.args.u c.args.v) c.in-Some.is c.loop-at.invariant) (sym c.does_join.ensures ∙ c.if-does_join.false) c.index-at-in-Some.ensures).0

pub loop-at-smaller : goal.loop-at-smaller
loop-at-smaller c = subst (λ o. room c.index-at-in-Some.result.now < room o) (sym c.in-Some.is) (fewer_ahead c.args.edges.now c.args.index.now c.args.u c.args.v c.in-Some.e c.index-at-in-Some.result.now c.requires.index
    (subst (IsAhead c.args.edges.now c.args.u c.args.v) c.in-Some.is c.loop-at.invariant) (sym c.does_join.ensures ∙ c.if-does_join.false) c.index-at-in-Some.ensures).1

pub returns : goal.returns
returns c = not_found c.args.edges.now c.args.u c.args.v (subst (IsAhead c.args.edges.now c.args.u c.args.v) c.in_default.is c.loop-at.invariant)
