use Rattle.std.proofs.Common.{refl, rules}
use Rattle.ff_viewer.specs.declared.commands.Command.TheVariants as command
use Rattle.ff_journal.proofs.Right.{nameless}
use Rattle.ff_journal.proofs.pinning.reply_to_unpin.Goals as goal

pub returns : goal.returns
returns c budget = let l = c.requires.published in
    nameless c.args.case.now budget c.args.journal.now l.0 l.1 c.args.viewer (command.Unpin c.args.f c.args.g) c.unpin_told.result l.2 refl (search rules)
