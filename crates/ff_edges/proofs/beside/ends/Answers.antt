use Rattle.std.proofs.Common.{sym, subst, ◌≢◌}
use Rattle.ff_whole.specs.Convex.{point_at}
use Rattle.ff_types.specs.Patterns.{edge_at}
use Rattle.ff_types.proofs.FoldedEdges.{ends_apart}
use Rattle.ff_edges.proofs.beside.ends.Goals as goal

pub returns-clause-apart : goal.returns-clause-apart
returns-clause-apart c =
    let e = c.args.e in
    subst (λ ps. point_at ps (edge_at c.as_slice-2.result.now e).a ≢ point_at ps (edge_at c.as_slice-2.result.now e).b) (sym c.as_slice-points.ensures)
    (subst (λ es. point_at c.args.folded.now.points (edge_at es e).a ≢ point_at c.args.folded.now.points (edge_at es e).b) (sym c.as_slice-2.ensures) (ends_apart c.requires.folded e c.requires.edge))
