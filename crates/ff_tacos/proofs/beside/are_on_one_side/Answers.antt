use Rattle.std.proofs.Common.{sym, ◌∙◌, ap, ◌||◌, [], ◌∷◌}
use Rattle.ff_types.specs.Sheets.{sheet_of}
use Rattle.ff_tacos.specs.Making.{are_all_left}
use Rattle.ff_tacos.proofs.OneSide.{side_is}
use Rattle.ff_tacos.proofs.beside.are_on_one_side.Goals as goal

pub returns-else-both_left : goal.returns-else-both_left
returns-else-both_left c =
    let g = sheet_of c.args.pattern.now c.args.faces.now c.args.folded.now in
    let p = c.ends.result.0 in let q = c.ends.result.1 in
    let two = c.args.pair.0 ∷ c.args.pair.1 ∷ [] in
    c.both_left-else-both_left.ensures
    ∙ ap (λ b. b || are_all_left g q p two) (sym (sym c.both_left.ensures ∙ c.if-both_left.false))
    ∙ side_is g c.args.e p q two c.ends.ensures.tail c.ends.ensures.head
