use Rattle.std.proofs.Common.{◌<◌, length, arith, sym, ◌∙◌}
use Rattle.std.proofs.lemmas.Bool.{eqb-false}
use Rattle.ff_pairs.proofs.Widths.{below_last}
use Rattle.ff_pairs.proofs.overlaps.past_last.Goals as goal

pub returns-else-is_empty-clause-faces : goal.returns-else-is_empty-clause-faces
returns-else-is_empty-clause-faces c =
    let xs = c.args.faces.now in
    let some : 0 < length xs = (let e = eqb-false (length xs) 0 (sym c.is_empty.ensures ∙ c.if-is_empty.false) in grind (arith, e)) in
    below_last xs c.requires.rising some _ (omega arith)
