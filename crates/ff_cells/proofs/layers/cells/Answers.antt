use Rattle.std.proofs.Common.{subst, sym, ◌∙◌, ◌≤◌, length}
use Rattle.std.specs.List.{All}
use Rattle.ff_types.specs.Sheets.{sheet_of}
use Rattle.ff_types.specs.declared.limits.TheConstants.{MOST_CELLS, MOST_ENTRIES}
use Rattle.ff_cells.specs.Tally.{entries_of}
use Rattle.ff_cells.specs.FaceSets.{HaveFaceSets, IsFaceList}
use Rattle.ff_cells.specs.SlabCells.{AreCells}
use Rattle.ff_cells.proofs.Complete.{are_cells, counted, face_sets, face_lists, few_kept, few_kept_entries, too_many_entries}
use Rattle.ff_cells.proofs.layers.cells.Goals as goal

pub returns-then-found-gt-MOST_ENTRIES-clause-refused : goal.returns-then-found-gt-MOST_ENTRIES-clause-refused
returns-then-found-gt-MOST_ENTRIES-clause-refused c pattern h =
    let f = c.in_ok-found.ensures.done in
    too_many_entries h f.bars f.bars_are f.xs f.xs_are f.cells f.cells_are c.in_ok-found.found f.tally f.few
    c.if-found-gt-MOST_ENTRIES.true c.too_many.result c.too_many.ensures

pub returns-clause-made : goal.returns-clause-made
returns-clause-made c pattern h =
    let f = c.in_ok-found.ensures.done in
    subst (AreCells (sheet_of pattern c.args.faces.now c.args.folded.now))
    (sym (c.of.ensures ∙ f.tally.kept c.if-found-gt-MOST_ENTRIES.false))
    (are_cells h f.bars f.bars_are f.xs f.xs_are f.cells f.cells_are)

pub returns-clause-face_sets : goal.returns-clause-face_sets
returns-clause-face_sets c pattern h =
    let f = c.in_ok-found.ensures.done in
    subst (HaveFaceSets (sheet_of pattern c.args.faces.now c.args.folded.now))
    (sym (c.of.ensures ∙ f.tally.kept c.if-found-gt-MOST_ENTRIES.false))
    (face_sets h f.bars f.bars_are f.xs f.xs_are f.cells f.cells_are)

pub returns-clause-face_lists : goal.returns-clause-face_lists
returns-clause-face_lists c =
    let f = c.in_ok-found.ensures.done in
    subst (All IsFaceList) (sym (c.of.ensures ∙ f.tally.kept c.if-found-gt-MOST_ENTRIES.false))
    (face_lists c.requires.1 f.bars f.bars_are f.xs f.xs_are f.cells f.cells_are)

pub returns-clause-counted : goal.returns-clause-counted
returns-clause-counted c pattern h =
    let f = c.in_ok-found.ensures.done in
    counted h f.bars f.bars_are f.xs f.xs_are f.cells f.cells_are c.in_ok-found.found f.tally f.few
    c.if-found-gt-MOST_ENTRIES.false

pub returns-clause-few : goal.returns-clause-few
returns-clause-few c =
    let f = c.in_ok-found.ensures.done in
    subst (λ cs. length cs ≤ MOST_CELLS) (sym (c.of.ensures ∙ f.tally.kept c.if-found-gt-MOST_ENTRIES.false))
    (few_kept c.requires.1 f.bars f.bars_are f.xs f.xs_are f.cells f.cells_are c.in_ok-found.found f.tally f.few)

pub returns-clause-few_entries : goal.returns-clause-few_entries
returns-clause-few_entries c =
    let f = c.in_ok-found.ensures.done in
    subst (λ cs. entries_of cs ≤ MOST_ENTRIES) (sym (c.of.ensures ∙ f.tally.kept c.if-found-gt-MOST_ENTRIES.false))
    (few_kept_entries c.requires.1 f.bars f.bars_are f.xs f.xs_are f.cells f.cells_are c.in_ok-found.found f.tally
    c.if-found-gt-MOST_ENTRIES.false)
