use Rattle.std.proofs.Common.{◌≡◌, ◌≢◌, ◌+◌, ◌<◌, ◌≤◌, ℕ, rules, refl, sym, ap, ◌∙◌, subst, arith, true, false}
use Rattle.std.specs.Arc.{arc_value}
use Rattle.ff_board.specs.Facts.{AllIn, Grows, vars_in}
use Rattle.ff_board.specs.declared.opening.Opening.{Opening}
use Rattle.ff_board.specs.Rule.{set_below}
use Rattle.ff_board.proofs.Counts.{below_grows, below_most}
use Rattle.ff_board.proofs.Sweeps.{closes}
use Rattle.ff_board.proofs.Closure.{is_closure}
use Rattle.ff_board.proofs.board.EpochBoard.sweep.Goals as goal

pub sweeps-smaller-in-Moved : goal.sweeps-smaller-in-Moved
sweeps-smaller-in-Moved c = let vars = vars_in c.args.self.now.opening in
    let a = below_grows vars c.sweeps.seat.view.seen c.words_set-before.new.seat.view.seen c.words_set-before.ensures.seat.2 in let b = c.in-Moved.ensures.pass in let m = below_most vars c.pass.new.seat.view.seen in omega arith

pub returns-then-after-before-clause-sweep : goal.returns-then-after-before-clause-sweep
returns-then-after-before-clause-sweep c = let o = c.args.self.now.opening in let e = c.words_set-after.ensures in
    let k = closes o c.words_set-before.new.seat.view.seen c.pass.new.seat.view.seen c.words_set-after.new.seat.view.seen c.pass.ensures.seat.2 e.seat.2
    (sym c.words_set-before.ensures.count ∙ (sym c.if-after-before.true ∙ e.count)) c.in-Quiet.ensures.pass (arc_value o.case).system.fit in
    let at = e.seat.1 ∙ (c.pass.ensures.seat.1 ∙ (c.words_set-before.ensures.seat.1 ∙ (c.sweeps.invariant.goes.1 ∙ c.requires.seat.1))) in
    let inside = subst (λ (x : Opening). AllIn x c.words_set-after.new.seat.view.seen) at c.is_learned.ensures.closure in
    (e.opened, k, is_closure o c.words_set-after.new.seat.view.seen (λ i g is. (o.stand i g is).0) e.opened k inside)

pub sweeps-smaller : goal.sweeps-smaller
sweeps-smaller c = let vars = vars_in c.args.self.now.opening in
    let a = below_grows vars c.sweeps.seat.view.seen c.words_set-before.new.seat.view.seen c.words_set-before.ensures.seat.2 in
    let b = below_grows vars c.words_set-before.new.seat.view.seen c.pass.new.seat.view.seen c.pass.ensures.seat.2 in
    let d = below_grows vars c.pass.new.seat.view.seen c.words_set-after.new.seat.view.seen c.words_set-after.ensures.seat.2 in
    let x = c.words_set-before.ensures.count in let y = c.words_set-after.ensures.count in let n = c.if-after-before.false in
    let m = below_most vars c.words_set-after.new.seat.view.seen in omega arith
