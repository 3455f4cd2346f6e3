use Rattle.std.proofs.Common.{sym, ◌∙◌}
use Rattle.std.proofs.lemmas.Option.{slice_get-get_or}
use Rattle.ff_orders.proofs.Noting.{lesser_noted, greater_noted}
use Rattle.ff_orders.proofs.said.note.Goals as goal

pub returns-then-upper-lower : goal.returns-then-upper-lower
returns-then-upper-lower c = lesser_noted c.args.up.now c.args.pairs.now c.requires.pairs.sorted c.args.items.now c.args.i _ (slice_get-get_or c.args.items.now c.args.i _ c.requires.within) c.args.said.now c.requires.noted
    c.in-Some.upper c.in-Some.lower (sym c.said_by.ensures ∙ c.in-Some.is) _ c.number.ensures.place c.in-Some-number.n c.in-Some-number.is c.if-upper-lower.true

pub returns-else-upper-lower : goal.returns-else-upper-lower
returns-else-upper-lower c = greater_noted c.args.up.now c.args.pairs.now c.requires.pairs.sorted c.args.items.now c.args.i _ (slice_get-get_or c.args.items.now c.args.i _ c.requires.within) c.args.said.now c.requires.noted
    c.in-Some.upper c.in-Some.lower (sym c.said_by.ensures ∙ c.in-Some.is) _ c.number.ensures.place c.in-Some-number.n c.in-Some-number.is c.if-upper-lower.false
