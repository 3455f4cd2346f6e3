use Rattle.std.proofs.Common.{◌∙◌, length, map, ap, sym, subst, arith}
use Rattle.ff_propagate.specs.Facts.{seen}
use Rattle.ff_journal.specs.Publications.{on_board}
use Rattle.ff_propagate.specs.Choices.{value_of}
use Rattle.ff_told.specs.Stacked.{AreValues, AreLongAs}
use Rattle.ff_told.specs.Paged.{parts_of}
use Rattle.ff_told.proofs.Refuted.{board_long}
use Rattle.ff_told.proofs.Filled.{board_values, written}
use Rattle.ff_told.proofs.stacking.filled.Goals as goal

pub fill_all-requires-clause-fit : goal.fill_all-requires-clause-fit
fill_all-requires-clause-fit c =
    let v = c.as_mut_slice.ensures.value ∙ c.in_ok-values.ensures.items ∙ c.as_slice-list.ensures ∙ c.in_ok-board.ensures in
    subst (λ n. AreLongAs n (parts_of c.args.pages.now) c.args.solutions.now) (sym (ap (λ xs. length xs) v ∙ board_long c.args.facts.now)) c.requires.fit

pub returns-clause-filled : goal.returns-clause-filled
returns-clause-filled c =
    let v = c.as_mut_slice.ensures.value ∙ c.in_ok-values.ensures.items ∙ c.as_slice-list.ensures ∙ c.in_ok-board.ensures in
    let a = c.fill_all.ensures.long in
    let b = ap (λ xs. length xs) c.as_mut_slice.ensures.value in
    let o = c.in_ok-values.values.ok.0 in
    subst (λ xs. AreValues (value_of (on_board (map seen c.args.facts.now)) (parts_of c.args.pages.now) c.args.solutions.now) xs)
    (sym (written c.in_ok-values.values.len c.fill_all.new.values c.in_ok-values.values.items (omega (arith, a, b, o)) (omega (arith, o))))
    (c.fill_all.ensures.filled (on_board (map seen c.args.facts.now)) (subst (λ xs. AreValues (on_board (map seen c.args.facts.now)) xs) (sym v) (board_values (map seen c.args.facts.now))))
