use Rattle.std.proofs.Common.{get_or, map, arith, sym, subst}
use Rattle.std.proofs.lemmas.Option.{slice_get-get_or}
use Rattle.ff_propagate.specs.Facts.{seen}
use Rattle.ff_journal.specs.Replies.{HaveSolutions}
use Rattle.ff_told.specs.Paged.{parts_of}
use Rattle.ff_told.specs.Stacked.{IsChosen}
use Rattle.ff_told.proofs.Kept.{have_on}
use Rattle.ff_told.proofs.Choosing.{keeps_on, chosen_more, chosen_all, chosen_stops}
use Rattle.ff_told.proofs.stacking.all_chosen.Goals as goal

pub choose-requires-clause-pages : goal.choose-requires-clause-pages
choose-requires-clause-pages c = have_on c.args.case.now c.args.pages.now c.loop-i.pages c.requires.pages c.loop-i.invariant.0

pub returns-in_err-given-clause-pages : goal.returns-in_err-given-clause-pages
returns-in_err-given-clause-pages c = keeps_on c.args.case.now c.args.pages.now c.loop-i.pages c.choose.new.pages c.loop-i.invariant.0 c.choose.ensures.pages

pub returns-in_err-push-in-Solution-clause-pages : goal.returns-in_err-push-in-Solution-clause-pages
returns-in_err-push-in-Solution-clause-pages c = keeps_on c.args.case.now c.args.pages.now c.loop-i.pages c.choose.new.pages c.loop-i.invariant.0 c.choose.ensures.pages

pub returns-in-Stop-clause-pages : goal.returns-in-Stop-clause-pages
returns-in-Stop-clause-pages c = keeps_on c.args.case.now c.args.pages.now c.loop-i.pages c.choose.new.pages c.loop-i.invariant.0 c.choose.ensures.pages

pub returns-in-Stop-clause-picks : goal.returns-in-Stop-clause-picks
returns-in-Stop-clause-picks c = let l = c.loop-i-test.true in let m = c.requires.as_many in
    chosen_stops c.args.case.now c.args.pages.now c.loop-i.pages c.args.choice.now c.loop-i.i (get_or c.args.choice.now c.loop-i.i 0) c.loop-i.solutions.items c.in-Stop.told
    (omega (arith, l, m)) (slice_get-get_or c.args.choice.now c.loop-i.i 0 c.loop-i-test.true) c.loop-i.invariant.0
    (subst (λ x. IsChosen c.args.case.now c.loop-i.pages c.loop-i.i (get_or c.args.choice.now c.loop-i.i 0) x) c.in-Stop.is c.in_ok-given.ensures.chosen) c.loop-i.invariant.1

pub loop-i-preserved : goal.loop-i-preserved
loop-i-preserved c = let l = c.loop-i-test.true in let m = c.requires.as_many in (
  keeps_on c.args.case.now c.args.pages.now c.loop-i.pages c.choose.new.pages c.loop-i.invariant.0 c.choose.ensures.pages,
  chosen_more c.args.case.now c.args.pages.now c.loop-i.pages c.args.choice.now c.loop-i.i (get_or c.args.choice.now c.loop-i.i 0) c.loop-i.solutions.items c.push.new.self.items c.in-Solution.solution
      (omega (arith, l, m)) (slice_get-get_or c.args.choice.now c.loop-i.i 0 c.loop-i-test.true) c.loop-i.invariant.0
      (subst (λ x. IsChosen c.args.case.now c.loop-i.pages c.loop-i.i (get_or c.args.choice.now c.loop-i.i 0) x) c.in-Solution.is c.in_ok-given.ensures.chosen)
      c.in_ok-push-in-Solution.ensures.items c.loop-i.invariant.1,
)

pub returns-clause-picks : goal.returns-clause-picks
returns-clause-picks c budget gs fs are = subst (λ xs. HaveSolutions c.args.case.now (map seen fs) budget (parts_of c.args.pages.now) c.args.choice.now xs) (sym c.of.ensures)
    (chosen_all c.args.case.now c.args.pages.now c.args.choice.now c.loop-i.i c.loop-i.solutions.items c.loop-i-test.false c.requires.as_many c.loop-i.invariant.1 budget gs fs are)
