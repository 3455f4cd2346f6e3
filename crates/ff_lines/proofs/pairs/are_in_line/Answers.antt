use Rattle.ff_lines.proofs.Apart.{in_line}
use Rattle.ff_lines.proofs.pairs.are_in_line.Goals as goal

pub returns-then-is_level : goal.returns-then-is_level
returns-then-is_level c = λ t. in_line c.args.k c.args.l (c.is_level.ensures.0 c.if-is_level.true) (c.is_level-then-is_level.ensures.0 t)
