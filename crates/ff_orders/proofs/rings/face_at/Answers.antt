use Rattle.std.proofs.Common.{refl, sym, ◌∙◌, ap, Some}
use Rattle.std.proofs.lemmas.Option.{slice_get_read}
use Rattle.ff_orders.proofs.GivenFaces.{item_of, no_item}
use Rattle.ff_orders.proofs.rings.face_at.Goals as goal

pub returns-in-Some : goal.returns-in-Some
returns-in-Some c = item_of c.args.rings.now c.args.given.now c.args.i c.face_of.result c.as_slice.result.now
    (slice_get_read c.args.given.now _ c.args.i _ refl c.requires c.index-given-i.is ∙ ap Some (c.in-Some.is ∙ ap Some (sym c.as_slice.ensures))) c.face_of.ensures

pub returns-in-None : goal.returns-in-None
returns-in-None c = no_item c.args.rings.now c.args.given.now c.args.i (slice_get_read c.args.given.now _ c.args.i _ refl c.requires c.index-given-i.is ∙ ap Some c.in-None.is)
