use Rattle.std.proofs.Common.{◌++◌, ap, ◌∙◌, sym}
use Rattle.std.proofs.lemmas.List.{append-nil}
use Rattle.std.proofs.lemmas.Option.{get_or_from_slice_get}
use Rattle.ff_journal.specs.Epochs.{changes, in_force_after}
use Rattle.ff_journal.specs.Reading.{givens_on}
use Rattle.ff_journal.proofs.EpochGivens.{untouched_at}
use Rattle.ff_journal.proofs.givens.add_touched.Goals as goal

pub returns-then-not-flags-var : goal.returns-then-not-flags-var
returns-then-not-flags-var c = sym (append-nil c.args.list.now) ∙ ap (λ os. c.args.list.now ++ givens_on c.args.var os)
    (sym (untouched_at c.args.case.now.pairs c.args.journal.now c.args.flags.now c.args.var c.requires.touched c.requires.var c.if-not-flags-var.true))

pub returns : goal.returns
returns c = c.in_ok-add_givens.ensures ∙ ap (λ p. c.args.list.now ++ givens_on c.args.var (in_force_after (changes c.args.journal.now) p))
    (sym (get_or_from_slice_get c.args.case.now.pairs c.args.var c.faces-pair.result (0, 0) c.faces-pair.ensures.value))
