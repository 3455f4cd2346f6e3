use Rattle.std.proofs.Common.{◌≤◌, List, length, sym, subst, arith}
use Rattle.std.specs.List.{All}
use Rattle.ff_whole.specs.declared.points.Pt.{Pt}
use Rattle.ff_whole.specs.Points.{IsNear}
use Rattle.ff_types.specs.declared.limits.TheConstants.{MOST_EDGES}
use Rattle.ff_lines.specs.declared.items.LineItem.{LineItem}
use Rattle.ff_lines.specs.Drawings.{AreEdges, AreVertices}
use Rattle.ff_lines.proofs.Patterns.{all_near, is_pattern}
use Rattle.ff_lines.proofs.drawing.draw.Goals as goal

pub edges_of-requires-clause-near : goal.edges_of-requires-clause-near
edges_of-requires-clause-near c = subst (All IsNear) (sym c.as_slice-3.ensures.value)
    (all_near c.args.lines.now c.requires.proper c.in_ok-points.points.items (subst (λ (ls : List LineItem). AreVertices ls c.in_ok-points.points.items) c.as_slice.ensures c.in_ok-points.ensures.1))

pub invariant_of-result : goal.invariant_of-result
invariant_of-result c =
    let lines = c.args.lines.now in
    let points = c.in_ok-points.points.items in
    let edges = c.in_ok-drawn.drawn.edges.items in
    let marks = c.in_ok-drawn.drawn.marks.items in
    let few : length edges ≤ MOST_EDGES = (let n = c.if-len-gt-MOST_EDGES.false in let m = c.len.ensures in omega (arith, n, m)) in
    record {
      valid = rw (c.of.ensures, c.of-2.ensures, c.of-3.ensures)
          (is_pattern lines c.requires.proper points edges marks
          (subst (λ (ls : List LineItem). AreVertices ls points) c.as_slice.ensures c.in_ok-points.ensures.1)
          (subst (λ (ls : List LineItem). AreEdges ls points edges marks) c.as_slice-2.ensures (subst (λ (ps : List Pt). AreEdges c.as_slice-2.result.now ps edges marks) c.as_slice-3.ensures.value c.in_ok-drawn.ensures))
          c.in_ok-points.ensures.2 few);
    }
