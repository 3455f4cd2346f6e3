use Rattle.ff_cells.proofs.Fractions.{height_same}
use Rattle.ff_cells.proofs.heights.cmp_at.Goals as goal

pub returns-then-is_one_line : goal.returns-then-is_one_line
returns-then-is_one_line c =
    height_same c.args.k c.args.l c.args.at (c.is_one_line.ensures c.if-is_one_line.true)
