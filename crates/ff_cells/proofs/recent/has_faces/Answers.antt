use Rattle.std.proofs.Common.{sym, ap, ◌∙◌}
use Rattle.std.specs.Cmp.Lexicographic.{same_text}
use Rattle.ff_cells.specs.declared.cell.Cell.{Cell}
use Rattle.ff_cells.proofs.Merging.{has_at}
use Rattle.ff_cells.proofs.recent.has_faces.Goals as goal

pub returns-then-place-cells : goal.returns-then-place-cells
returns-then-place-cells c = λ t. has_at c.args.cells.now c.args.place c.index-cells-place.result c.args.faces.now
    c.if-place-cells.true (sym c.index-cells-place.is)
    (ap (λ (z : Cell). z.faces) c.index-cells-place.is ∙ sym c.as_slice.ensures
    ∙ same_text c.as_slice.result.now c.args.faces.now (sym t ∙ c.eq.ensures))
