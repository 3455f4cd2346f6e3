use Rattle.std.proofs.Common.{◌≡◌, ◌+◌, ◌<◌, arith, sym, ap, subst, ◌∙◌, Some, slice_get}
use Rattle.std.specs.List.{All}
use Rattle.std.specs.List.Sorted.{IsStrictlyIncreasing}
use Rattle.std.proofs.lemmas.Option.{slice_get-get_or}
use Rattle.ff_types.specs.declared.limits.TheConstants.{MOST_FACES as most_faces}
use Rattle.ff_cells.specs.declared.cell.Cell.{Cell}
use Rattle.ff_pairs.proofs.Widths.{IsWidth, wider, one_more, all_below}
use Rattle.ff_pairs.proofs.overlaps.width.Goals as goal
use Rattle.ff_pairs.proofs.overlaps.width.Goals.{then-width-past, else-width-past}

pub past_last-past-requires-clause-rising : goal.past_last-past-requires-clause-rising
past_last-past-requires-clause-rising c = subst IsStrictlyIncreasing (sym c.as_slice.ensures) (c.requires c.loop-k.k c.index-cells-k.result c.loop-k-test.true).rising

pub past_last-past-requires-clause-few : goal.past_last-past-requires-clause-few
past_last-past-requires-clause-few c = subst (λ xs. All (λ f. f < most_faces) xs) (sym c.as_slice.ensures) (c.requires c.loop-k.k c.index-cells-k.result c.loop-k-test.true).few

pub loop-k-preserved : goal.loop-k-preserved
loop-k-preserved c =
    let cells = c.args.cells.now in let k = c.loop-k.k in
    let cell = c.index-cells-k.result in
    let inv = c.loop-k.invariant in
    let at : slice_get cells k ≡ Some cell = slice_get-get_or cells k cell c.loop-k-test.true ∙ ap Some (sym c.index-cells-k.is) in
    let same : c.as_slice.result.now ≡ cell.faces = c.as_slice.ensures ∙ ap (λ (z : Cell). z.faces) (sym c.index-cells-k.is) in
    let this : All (λ f. f < c.past_last-past.result) cell.faces = subst (λ xs. All (λ f. f < c.past_last-past.result) xs) same c.past_last-past.ensures.faces in
    elim c.if-width-past.branch [
      | then-width-past w ↦
          (let lt = w.if-width-past.true in
          subst (λ v. IsWidth cells (k + 1) v) (sym w.width-is) (record { few = c.past_last-past.ensures.few; faces = one_more cells k c.loop-k.width c.past_last-past.result cell at (omega (arith, lt)) this inv.faces }))
      | else-width-past w ↦
          (let le = w.if-width-past.false in
          subst (λ v. IsWidth cells (k + 1) v) (sym w.width-is) (record { few = inv.few; faces = one_more cells k c.loop-k.width c.loop-k.width cell at (omega arith) (wider c.past_last-past.result c.loop-k.width cell.faces le this) inv.faces }))
    ]

pub returns-clause-faces : goal.returns-clause-faces
returns-clause-faces c = all_below c.args.cells.now c.loop-k.k c.loop-k.width c.loop-k-test.false c.loop-k.invariant.faces
