use Rattle.std.proofs.Common.{rules, ◌≡◌, ℕ, ◌+◌, ◌%◌, ◌<◌, refl, sym, ap, subst, ◌∙◌, arith, length}
use Rattle.ff_board.specs.Facts.{cons_in}
use Rattle.ff_board.specs.Rule.{Opens}
use Rattle.ff_board.proofs.Going.{goes_nowhere, goes_further}
use Rattle.ff_board.proofs.Sweeps.{opens_grows}
use Rattle.ff_steal.specs.Shares.{IsDone, AreDone, AreDoneOf}
use Rattle.ff_steal.proofs.Done.{done_wide, shares_on, shares_all}
use Rattle.ff_steal.proofs.sharing.share.Goals as goal

pub loop-k-init : goal.loop-k-init
loop-k-init g c = record {
  goes = goes_nowhere c.words_set.new.seat;
  who = refl;
  opened = c.words_set.ensures.opened;
  done = λ i l. absurd (omega (arith, l));
}

pub loop-k-preserved : goal.loop-k-preserved
loop-k-preserved g c = let l = c.loop-k in let was = l.invariant in let e = c.settle_own.ensures in let o = c.args.board.now.opening in let first = c.words_set.new.seat in record {
  goes = goes_further first l.seat c.settle_own.new.seat was.goes e.seat;
  who = e.member ∙ was.who;
  opened = opens_grows o l.seat.view.seen c.settle_own.new.seat.view.seen e.seat.2 was.opened;
  done = shares_on o c.args.number c.args.of c.due-due.result.now l.k first.view.seen l.seat.view.seen c.settle_own.new.seat.view.seen was.goes.2 e.seat.2 was.done e.done;
}

pub returns-clause-done : goal.returns-clause-done
returns-clause-done g c d l e = let last = c.loop-k.seat.view.seen in let was = c.loop-k.invariant in let o = c.args.board.now.opening in let first = c.words_set.new.seat.view.seen in
    let all = shares_all o c.args.number c.args.of c.due-due.result.now first last was.opened c.due-due.ensures (λ i b. was.done i (omega (arith, b))) in
    done_wide o d c.args.seat.now.view.seen first last last c.words_set.ensures.seat.2 (λ v h p. p) (all d l e)
