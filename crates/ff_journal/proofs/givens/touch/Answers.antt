use Rattle.std.proofs.Common.{sym, ◌∙◌}
use Rattle.ff_journal.proofs.Touches.{one_listed}
use Rattle.ff_journal.proofs.givens.touch.Goals as goal

pub returns-in-Some-number : goal.returns-in-Some-number
returns-in-Some-number c = one_listed c.args.case.now.pairs c.args.entry.now c.in-Some.f c.in-Some.g c.in-Some-number.n c.args.flags.now.items
    c.requires.pairs.sorted c.requires.wide (sym c.faces_named.ensures ∙ c.in-Some.is) c.in-Some-number.ensures.place
