use Rattle.std.proofs.Common.{◌∙◌, ap, sym, slice_get}
use Rattle.ff_near.proofs.OnePart.{each_part}
use Rattle.ff_near.proofs.answering.near.Goals as goal

pub searched-requires-clause-parts : goal.searched-requires-clause-parts
searched-requires-clause-parts c = λ k part e. each_part _ _ _ c.args.parts.now c.requires.parts k part (ap (λ l. slice_get l k) (sym c.as_slice.ensures) ∙ e)

pub best_of-requires-clause-wide : goal.best_of-requires-clause-wide
best_of-requires-clause-wide c = c.requires.board.1.0.wide
