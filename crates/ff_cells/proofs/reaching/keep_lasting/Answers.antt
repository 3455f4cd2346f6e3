use Rattle.std.proofs.Common.{rules}
use Rattle.std.proofs.lemmas.Fn.{filter_same}
use Rattle.ff_cells.specs.Reached.{lasts}
use Rattle.ff_cells.proofs.reaching.keep_lasting.Goals as goal

pub returns : goal.returns
returns c = filter_same _ (lasts c.args.c) _ (λ x b f k. (search rules, search rules)) _ _ c.retain.ensures.filtered
