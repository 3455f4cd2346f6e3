use Rattle.std.proofs.Common.{◌+◌, ◌*◌, ℕ, sym, subst}
use Rattle.ff_make.specs.Accordions.{AreVertices, AreEdges, AreMarks}
use Rattle.ff_make.proofs.Strips.{is_pattern}
use Rattle.ff_make.proofs.accordions.make.Goals as goal

pub invariant_of-result : goal.invariant_of-result
invariant_of-result c = let n = c.args.count in record {
  valid = is_pattern n c.of-points.result c.of-edges.result c.of.result c.requires.some c.requires.few
      (subst (AreVertices n (2 * n + 2)) (sym c.of-points.ensures) c.in_ok-vertices.ensures)
      (subst (AreEdges n (3 * n + 1)) (sym c.of-edges.ensures) c.in_ok-edges.ensures)
      (subst (AreMarks n (3 * n + 1)) (sym c.of.ensures) c.in_ok-marks.ensures);
}
