use Rattle.std.proofs.Common.{sym, subst, arith}
use Rattle.std.proofs.lemmas.Result.{IfOk-weaker}
use Rattle.ff_drawn.specs.Extents.{IsBeyond, Reaches, AreRound, NoneCross}
use Rattle.ff_drawn.proofs.Halves.{round_part, none_in_parts}
use Rattle.ff_drawn.proofs.crossings.+any_within.Goals as goal

pub any_within-requires : goal.any_within-requires
any_within-requires t c =
    let r = c.requires in
    let half = c.lower_half-first.ensures in
    let points = c.args.points.now in
    let edges = c.args.edges.now in
    let part = round_part points edges (λ e. IsBeyond c.is_wide-is_upright.result c.middle_of-at.result e → ⊥) c.args.list.now c.in_ok-lower.lower.items r.extents c.in_ok-lower.ensures in
    let round = subst (AreRound points edges) (sym c.as_mut_slice.ensures.value) part in
    (omega (arith, half.fewer, c.decreases), (r.graph, (r.apart, (round, (half.low, half.high)))))

pub any_within-requires-2 : goal.any_within-requires-2
any_within-requires-2 t c =
    let r = c.requires in
    let half = c.upper_half-last.ensures in
    let points = c.args.points.now in
    let edges = c.args.edges.now in
    let part = round_part points edges (Reaches c.is_wide-is_upright.result c.middle_of-at.result) c.args.list.now c.in_ok-upper.upper.items r.extents c.in_ok-upper.ensures in
    let round = subst (AreRound points edges) (sym c.as_mut_slice-2.ensures.value) part in
    (omega (arith, half.fewer, c.decreases), (r.graph, (r.apart, (round, (half.low, half.high)))))

pub returns : goal.returns
returns t c =
    let points = c.args.points.now in
    let edges = c.args.edges.now in
    let lower = subst (NoneCross points edges) c.as_mut_slice.ensures.value (c.in_ok-any_within.ensures c.if-branch.false) in
    IfOk-weaker c.any_within-2.result _ _ (λ any h e. none_in_parts points edges c.is_wide-is_upright.result c.middle_of-at.result c.args.list.now c.in_ok-lower.lower.items c.in_ok-upper.upper.items c.requires.extents c.in_ok-lower.ensures c.in_ok-upper.ensures
    lower (subst (NoneCross points edges) c.as_mut_slice-2.ensures.value (h e))) c.any_within-2.ensures
