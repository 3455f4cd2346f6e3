use Rattle.ff_lines.proofs.Apart.{swap_whole}
use Rattle.ff_lines.proofs.pairs.are_square.Goals as goal

pub returns-else-is_crossed : goal.returns-else-is_crossed
returns-else-is_crossed c = λ t. swap_whole c.args.k c.args.l (c.is_crossed-else-is_crossed.ensures t)
