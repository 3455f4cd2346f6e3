use Rattle.std.proofs.Common.{length, sym, subst}
use Rattle.ff_journal.specs.declared.entries.Entry.TheVariants.{Said}
use Rattle.ff_journal.specs.Journals.{IsSaid, commands_of}
use Rattle.ff_journal.proofs.Snoc.{legal_more}
use Rattle.ff_journal.proofs.LastPublished.{is_last}
use Rattle.ff_journal.proofs.answering.reply.Goals as goal

pub reply_to_pin-requires-clause-published : goal.reply_to_pin-requires-clause-published
reply_to_pin-requires-clause-published c = is_last c.args.journal.now c.requires.published

pub reply_to_unpin-requires-clause-published : goal.reply_to_unpin-requires-clause-published
reply_to_unpin-requires-clause-published c = is_last c.args.journal.now c.requires.published

pub returns-in-Pin-clause-said : goal.returns-in-Pin-clause-said
returns-in-Pin-clause-said c budget = subst (λ q. IsSaid c.args.case.now budget c.args.journal.now c.args.viewer (length (commands_of c.args.viewer c.args.journal.now)) q c.reply_to_pin.result)
    (sym c.in-Pin.is) (c.reply_to_pin.ensures budget)

pub returns-in-Pin-clause-legal : goal.returns-in-Pin-clause-legal
returns-in-Pin-clause-legal c budget legal = legal_more c.args.case.now budget c.args.journal.now
    (Said c.args.viewer (length (commands_of c.args.viewer c.args.journal.now)) c.args.command.now c.reply_to_pin.result) legal
    (subst (λ q. IsSaid c.args.case.now budget c.args.journal.now c.args.viewer (length (commands_of c.args.viewer c.args.journal.now)) q c.reply_to_pin.result)
    (sym c.in-Pin.is) (c.reply_to_pin.ensures budget))

pub returns-in-Unpin-clause-said : goal.returns-in-Unpin-clause-said
returns-in-Unpin-clause-said c budget = subst (λ q. IsSaid c.args.case.now budget c.args.journal.now c.args.viewer (length (commands_of c.args.viewer c.args.journal.now)) q c.reply_to_unpin.result)
    (sym c.in-Unpin.is) (c.reply_to_unpin.ensures budget)

pub returns-in-Unpin-clause-legal : goal.returns-in-Unpin-clause-legal
returns-in-Unpin-clause-legal c budget legal = legal_more c.args.case.now budget c.args.journal.now
    (Said c.args.viewer (length (commands_of c.args.viewer c.args.journal.now)) c.args.command.now c.reply_to_unpin.result) legal
    (subst (λ q. IsSaid c.args.case.now budget c.args.journal.now c.args.viewer (length (commands_of c.args.viewer c.args.journal.now)) q c.reply_to_unpin.result)
    (sym c.in-Unpin.is) (c.reply_to_unpin.ensures budget))

pub returns-in_ok-told-in-Ask-clause-said : goal.returns-in_ok-told-in-Ask-clause-said
returns-in_ok-told-in-Ask-clause-said c budget = subst (λ q. IsSaid c.args.case.now budget c.args.journal.now c.args.viewer (length (commands_of c.args.viewer c.args.journal.now)) q c.in_ok-told-in-Ask.told)
    (sym c.in-Ask.is) (c.in_ok-told-in-Ask.ensures.said budget)

pub returns-in_ok-told-in-Ask-clause-legal : goal.returns-in_ok-told-in-Ask-clause-legal
returns-in_ok-told-in-Ask-clause-legal c budget legal = legal_more c.args.case.now budget c.args.journal.now
    (Said c.args.viewer (length (commands_of c.args.viewer c.args.journal.now)) c.args.command.now c.in_ok-told-in-Ask.told) legal
    (subst (λ q. IsSaid c.args.case.now budget c.args.journal.now c.args.viewer (length (commands_of c.args.viewer c.args.journal.now)) q c.in_ok-told-in-Ask.told)
    (sym c.in-Ask.is) (c.in_ok-told-in-Ask.ensures.said budget))
