use Rattle.ff_whole.proofs.Bounds.{read, trip}
use mir.Syntax.{w64, w128}
use Rattle.ff_reflect.proofs.Puts.{low_whole, low_read}
use Rattle.ff_reflect.proofs.image.lowest.Goals as goal

pub returns : goal.returns
returns c =
    let i = c.requires in
    low_whole c.args.image _ _ _ c.in-Some.x c.in-Some-whole.y i (read w128 i.x_below tt).is (read w128 i.y_below tt).is (trip w128 (read w64 i.n_below tt) tt).is c.in-Some.ensures c.in-Some-whole.ensures

pub returns-2 : goal.returns-2
returns-2 c =
    let i = c.requires in
    low_read c.args.image _ _ _ c.reduced.result (read w128 i.x_below tt).is (read w128 i.y_below tt).is (trip w128 (read w64 i.n_below tt) tt).is c.reduced.ensures
