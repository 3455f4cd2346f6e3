use Rattle.std.proofs.Common.{◌≤◌, sym, subst, length}
use Rattle.ff_types.specs.Sheets.{sheet_of}
use Rattle.ff_edges.specs.SharedSegments.{AreEdgePairs}
use Rattle.ff_edges.proofs.PairLists.{pairs_are}
use Rattle.ff_edges.proofs.along.edge_pairs.Goals as goal

pub returns-clause-made : goal.returns-clause-made
returns-clause-made c =
    let g = sheet_of c.args.pattern.now c.args.faces.now c.args.folded.now in
    subst (AreEdgePairs g) (sym c.of.ensures) (pairs_are g c.loop-e.e c.loop-e.list.items (subst (λ es. length es ≤ c.loop-e.e) c.as_slice-2.ensures c.loop-e-test.false) c.loop-e.invariant.listed)
