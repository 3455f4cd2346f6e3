use Rattle.std.proofs.Common.{◌∙◌, map, ap, sym}
use Rattle.ff_propagate.specs.Facts.{seen}
use Rattle.ff_viewer.specs.declared.replies.Reply.TheVariants.{Stack}
use Rattle.ff_told.specs.Paged.{parts_of}
use Rattle.ff_told.proofs.Refuted.{board_long}
use Rattle.ff_told.proofs.Filled.{stack_is}
use Rattle.ff_told.proofs.stacking.stacked.Goals as goal

pub returns : goal.returns
returns c = ap (λ xs. Stack xs) (c.of.ensures ∙ stack_is (map seen c.args.facts.now) (parts_of c.args.pages.now) c.args.solutions.now c.in_ok-values.values.items
    (c.in_ok-values.ensures.long ∙ sym (board_long c.args.facts.now)) c.in_ok-values.ensures.filled)
