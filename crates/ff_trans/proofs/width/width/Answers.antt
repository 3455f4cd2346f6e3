use Rattle.std.proofs.Common.{◌≡◌, inl, inr, ◌<◌, arith, sym, ap, subst, ◌∙◌, get_or, Some, slice_get}
use Rattle.std.specs.List.{All}
use Rattle.std.proofs.lemmas.Option.{slice_get-get_or, same_Some}
use Rattle.ff_basics.proofs.Numbers.{last_or}
use Rattle.ff_types.specs.declared.limits.TheConstants.{MOST_FACES as most_faces}
use Rattle.ff_cells.specs.declared.cell.Cell.{Cell}
use Rattle.ff_trans.proofs.width.width.Goals as goal

pub past-width-requires-clause-few : goal.past-width-requires-clause-few
past-width-requires-clause-few c = subst (λ xs. All (λ f. f < most_faces) xs) (sym c.as_slice.ensures) (c.requires c.loop-k.k c.index-cells-k.result c.loop-k-test.true).few

pub loop-k-preserved : goal.loop-k-preserved
loop-k-preserved c =
    let cells = c.args.cells.now in let k = c.loop-k.k in
    let cell = c.index-cells-k.result in
    let inv = c.loop-k.invariant in
    let at : slice_get cells k ≡ Some cell = slice_get-get_or cells k cell c.loop-k-test.true ∙ ap Some (sym c.index-cells-k.is) in
    let same : c.as_slice.result.now ≡ cell.faces = c.as_slice.ensures ∙ ap (λ (z : Cell). z.faces) (sym c.index-cells-k.is) in
    let this : All (λ f. f < c.past-width.result) cell.faces = subst (λ xs. All (λ f. f < c.past-width.result) xs) same c.past-width.ensures.faces in
    record {
      few = c.past-width.ensures.few;
      faces = λ i d l e. elim (last_or i k l) [
        | inl m ↦ (λ j dd b. (let a = inv.faces i d m e j dd b in let le = c.past-width.ensures.least in omega (arith, a, le)))
        | inr m ↦ subst (λ (z : Cell). All (λ f. f < c.past-width.result) z.faces) (same_Some cell d (sym at ∙ ap (slice_get cells) (sym m) ∙ e)) this
      ];
    }

pub returns-clause-faces : goal.returns-clause-faces
returns-clause-faces c = λ i d l. let far = c.loop-k-test.false in
    c.loop-k.invariant.faces i (get_or c.args.cells.now i d) (omega (arith, l, far)) (slice_get-get_or c.args.cells.now i d l)
