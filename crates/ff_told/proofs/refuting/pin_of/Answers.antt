use Rattle.std.proofs.Common.{ℕ, ap, sym}
use Rattle.std.proofs.lemmas.Option.{get_or_from_slice_get}
use Rattle.ff_journal.specs.Epochs.{pin_of}
use Rattle.ff_told.proofs.refuting.pin_of.Goals as goal

pub returns : goal.returns
returns c = ap (λ (p : ℕ × ℕ). pin_of p c.args.given.value)
    (sym (get_or_from_slice_get c.args.case.now.pairs c.args.given.var c.faces-f.result (0, 0) c.faces-f.ensures.value))
