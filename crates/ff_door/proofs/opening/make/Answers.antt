use Rattle.std.proofs.Common.{sym, ap, ◌∙◌, subst, arith, List, [], ◌∷◌, ◌++◌, Option, Some}
use Rattle.atomic_table.specs.Table.{opening}
use Rattle.ff_door.specs.Rule.{IsDoor, first}
use Rattle.ff_door.specs.declared.waiter.Plan.{Plan}
use Rattle.ff_door.proofs.Gathering.{starts}
use Rattle.ff_door.proofs.opening.make.Goals as goal

pub new-requires : goal.new-requires
new-requires g c = let key : Plan g.row.T.Denot = record { first = c.of.result; seats = c.args.seats } in
    subst (λ (l : List (Option g.row.T.Denot)). IsDoor g.T.Kept.listed g.T.Kept.names g.T.Kept.base key (opening (0 ∷ 0 ∷ []) l (first g.T.Kept.listed g.T.Kept.names g.T.Kept.base key))) (sym (c.in_ok-push.ensures.items ∙ ap (λ (l : List (Option g.row.T.Denot)). l ++ Some c.args.value ∷ []) c.new-slots.ensures.items))
    (starts g.T.Kept.listed g.T.Kept.names g.T.Kept.base key c.args.value (sym c.of.ensures) c.requires.some (omega (arith, c.ranges.seats)) c.requires.silent)
