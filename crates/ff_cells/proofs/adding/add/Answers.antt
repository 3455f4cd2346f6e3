use Rattle.std.proofs.Common.{◌+◌, ◌∙◌, [], ◌∷◌, ◌++◌, length, refl, sym, ap, subst, arith, Result, Ok, Err, OnOk, is_some}
use Rattle.ff_cells.specs.declared.cell.Cell.{Cell}
use Rattle.ff_types.specs.declared.limits.TheConstants.{MOST_ENTRIES}
use Rattle.ff_cells.specs.Emits.{IsGapCell}
use Rattle.ff_cells.specs.Merged.{has_set, AreNumbered}
use Rattle.ff_cells.specs.Tally.{capped}
use Rattle.ff_cells.proofs.GapCells.{gap_cell}
use Rattle.ff_cells.proofs.Merging.{tally_next, with_known, with_new}
use Rattle.ff_cells.proofs.adding.add.Goals as goal

on_both : {A E : Type 0} (r : Result A E) {P Q R : Type 0} → OnOk r P → OnOk r Q → (P → Q → R) → OnOk r R
on_both (Ok v) p q f = f p q
on_both (Err e) p q f = tt

pub returns-then-found-gt-MOST_ENTRIES : goal.returns-then-found-gt-MOST_ENTRIES
returns-then-found-gt-MOST_ENTRIES c =
    let k = c.args.low.now in let l = c.args.high.now in
    let left = c.args.left.now in let right = c.args.right.now in
    let many = c.if-found-gt-MOST_ENTRIES.true in
    let made = gap_cell c.args.faces.now.items left.place right.place c.args.top.now.place k.line l.line k.ok.rising l.ok.rising
    left.ok right.ok c.requires in (
      made.0,
      made.1,
      λ all t. tally_next c.args.found.now _ all made.0 c.capped_sum-found.ensures
          (λ n e. c.capped_sum-found-2.ensures n e
          ∙ ap (λ m. capped MOST_ENTRIES (n + m)) (c.len.ensures ∙ c.args.faces.now.ok.0 ∙ ap length (sym made.1.faces_are)))
          (λ n. n) (λ few n. absurd (omega (arith, many, few))) t,
    )

pub returns-in-Some : goal.returns-in-Some
returns-in-Some c =
    let k = c.args.low.now in let l = c.args.high.now in
    let left = c.args.left.now in let right = c.args.right.now in
    let old = c.args.found.now in
    let looked = c.looked_up.ensures in
    let made = gap_cell c.args.faces.now.items left.place right.place c.args.top.now.place k.line l.line k.ok.rising l.ok.rising
    left.ok right.ok c.requires in (
      made.0,
      made.1,
      λ all t. tally_next old c.looked_up.new.found all made.0
          (λ n e. looked.count ∙ c.capped_sum-found.ensures n e)
          (λ n e. looked.entries ∙ c.capped_sum-found-2.ensures n e
          ∙ ap (λ m. capped MOST_ENTRIES (n + m)) (c.len.ensures ∙ c.args.faces.now.ok.0 ∙ ap length (sym made.1.faces_are)))
          (λ n. subst (λ cs. AreNumbered cs.items c.looked_up.new.found.places) (sym looked.cells)
          (subst (λ ps. AreNumbered old.cells.items ps) (sym looked.places) n))
          (λ few n. ap (λ cs. cs.items) looked.cells
          ∙ sym (with_known old.cells.items made.0 (ap (has_set old.cells.items) made.1.faces_are
          ∙ sym (looked.known n) ∙ ap is_some c.in-Some.is))) t,
    )

pub returns-in-None : goal.returns-in-None
returns-in-None c =
    let k = c.args.low.now in let l = c.args.high.now in
    let left = c.args.left.now in let right = c.args.right.now in
    let old = c.args.found.now in
    let looked = c.looked_up.ensures in
    let at = c.corners.result in
    let cell : Cell = record { faces = c.args.faces.now.items; at = at.first ∷ at.second ∷ at.third ∷ [] } in
    let made : IsGapCell c.args.faces.now.items left.place right.place k.line l.line cell = record {
      faces_are = refl;
      low_left = at.first;
      low_right = at.second;
      top = at.third;
      at_is = refl;
      corners = c.corners.ensures;
    } in
    on_both c.keep.result c.keep.ensures.kept c.keep.ensures.numbered (λ kept numbered. (
      cell,
      made,
      λ all t. tally_next old c.keep.new.found all cell
          (λ n e. c.keep.ensures.count ∙ looked.count ∙ c.capped_sum-found.ensures n e)
          (λ n e. c.keep.ensures.entries ∙ looked.entries ∙ c.capped_sum-found-2.ensures n e
          ∙ ap (λ m. capped MOST_ENTRIES (n + m)) (c.len.ensures ∙ c.args.faces.now.ok.0))
          (λ n. numbered (subst (λ cs. AreNumbered cs.items c.looked_up.new.found.places) (sym looked.cells)
          (subst (λ ps. AreNumbered old.cells.items ps) (sym looked.places) n)))
          (λ few n. kept cell refl ∙ ap (λ cs. cs.items ++ cell ∷ []) looked.cells
          ∙ sym (with_new old.cells.items cell (sym (looked.known n) ∙ ap is_some c.in-None.is))) t,
    ))
