use Rattle.std.proofs.Common.{◌≡◌, ◌-◌, ◌<◌, length, sym, ap, subst, ◌∙◌, arith, Some, slice_get}
use Rattle.std.specs.List.Sorted.{IsStrictlyIncreasing}
use Rattle.std.proofs.lemmas.Option.{slice_get-get_or}
use Rattle.ff_cells.specs.declared.cell.Cell.{Cell}
use Rattle.ff_pairs.specs.Tables.{IsOrdered}
use Rattle.ff_pairs.proofs.marking.faces_before.Goals as goal

pub returns-else-k-eq0-clause-rising : goal.returns-else-k-eq0-clause-rising
returns-else-k-eq0-clause-rising c =
    let within : c.args.k - 1 < length c.args.cells.now = omega (arith, c.if-k-eq0.false, c.requires.within) in
    subst IsStrictlyIncreasing (sym c.as_slice.ensures) (c.requires.faces (c.args.k - 1) c.index-cells-k.result within).rising

pub returns-else-k-eq0-clause-pairs : goal.returns-else-k-eq0-clause-pairs
returns-else-k-eq0-clause-pairs c f h o =
    let cells = c.args.cells.now in let k = c.args.k in
    let cell = c.index-cells-k.result in
    let before : k - 1 < k = omega (arith, c.if-k-eq0.false) in
    let within : k - 1 < length cells = omega (arith, c.if-k-eq0.false, c.requires.within) in
    let at : slice_get cells (k - 1) ≡ Some cell = slice_get-get_or cells (k - 1) cell within ∙ ap Some (sym c.index-cells-k.is) in
    let same = c.as_slice.ensures ∙ ap (λ (z : Cell). z.faces) (sym c.index-cells-k.is) in
    (k - 1, cell, before, at, subst (λ xs. IsOrdered xs (length xs) f h) same o)
