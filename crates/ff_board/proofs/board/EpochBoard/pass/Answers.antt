use Rattle.std.proofs.Common.{◌≡◌, ◌+◌, ◌<◌, ◌≤◌, ℕ, rules, refl, sym, ap, ◌∙◌, subst, arith, true, false}
use Rattle.ff_board.specs.Facts.{Grows, vars_in}
use Rattle.ff_board.specs.Rule.{set_below}
use Rattle.ff_board.specs.Rule.{AgreeAt}
use Rattle.ff_board.specs.declared.opening.Opening.{Opening}
use Rattle.ff_board.proofs.Dues.{quiets_all}
use Rattle.ff_board.proofs.Counts.{below_grows}
use Rattle.ff_board.proofs.Sweeps.{quiets_on}
use Rattle.ff_board.proofs.Steps.{true_false}
use Rattle.ff_board.proofs.Going.{goes_further}
use Rattle.ff_board.proofs.board.EpochBoard.pass.Goals.{in-Quiet, in-Set, in-Moved}
use Rattle.ff_board.proofs.board.EpochBoard.pass.Goals as goal

pub loop-k-preserved : goal.loop-k-preserved
loop-k-preserved c = let l = c.loop-k in let was = l.invariant in let e = c.examine.ensures in let vars = vars_in c.args.self.now.opening in
    let up = below_grows vars c.args.seat.now.view.seen l.seat.view.seen was.goes.2 in let on = below_grows vars l.seat.view.seen c.examine.new.seat.view.seen e.seat.2 in
    record {
      goes = goes_further c.args.seat.now l.seat c.examine.new.seat was.goes e.seat;
      some = elim c.match-examine.branch [
        | in-Quiet w ↦ λ t. let a = was.some (sym w.moved-is ∙ t) in omega arith
        | in-Set w ↦ λ t. let a = w.in-Set.ensures.look in omega arith
        | in-Moved w ↦ λ t. let a = w.in-Moved.ensures.look in omega arith
      ];
      quiet = elim c.match-examine.branch [
        | in-Quiet w ↦ λ f. quiets_on c.args.self.now.opening c.due-due.result.now l.k _ _ _ was.goes.2 e.seat.2 (was.quiet (sym w.moved-is ∙ f)) w.in-Quiet.ensures.look
        | in-Set w ↦ λ f. absurd (true_false c.match-examine.moved w.moved-is f)
        | in-Moved w ↦ λ f. absurd (true_false c.match-examine.moved w.moved-is f)
      ];
    }

pub returns-else-moved-clause-pass : goal.returns-else-moved-clause-pass
returns-else-moved-clause-pass c = let o = c.args.self.now.opening in let was = c.loop-k.invariant in let old = c.args.seat.now.view.seen in
    let agree = subst (λ (x : Opening). AgreeAt x old) c.requires.seat.1 c.is_learned.ensures.agrees in
    quiets_all o c.due-due.result.now old c.loop-k.seat.view.seen c.due-due.ensures c.requires.opened agree was.goes.2
    (λ k con b is. was.quiet c.if-moved.false k con (omega (arith, b)) is)
