use Rattle.std.proofs.Common.{◌≡◌, ◌+◌, ◌++◌, ◌∷◌, [], ℕ, List, sym, subst}
use Rattle.ff_carry.specs.Placing.{ArePlaced}
use Rattle.ff_carry.proofs.Orders.{placed_some, placed_none}
use Rattle.ff_carry.proofs.placing.place.Goals as goal

pub returns-in-None : goal.returns-in-None
returns-in-None c = placed_none c.args.old.now c.args.var c.args.list.now.items (sym c.in-None.ensures) c.requires.placed

pub returns-in_ok-push-in-Some : goal.returns-in_ok-push-in-Some
returns-in_ok-push-in-Some c = subst (ArePlaced c.args.old.now (c.args.var + 1)) (sym c.in_ok-push-in-Some.ensures.items)
    (placed_some c.args.old.now c.args.var c.args.list.now.items c.in-Some.fact (sym c.in-Some.ensures) c.requires.placed)
