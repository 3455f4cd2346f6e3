use Rattle.std.proofs.Common.{◌≡◌, ◌+◌, ◌-◌, ◌≤ℤ◌, get_or, pos, sym, subst, arith, filter, OnOk}
use mir.Syntax.{w64}
use mir.Val.{to_z, of_z}
use Rattle.std.proofs.lemmas.Result.{IfOk-weaker, IfErr-weaker}
use Rattle.ff_whole.proofs.Bounds.{read}
use Rattle.ff_cells.specs.Strip.{spans_strip, at_x}
use Rattle.ff_cells.specs.Reached.{AreActive}
use Rattle.ff_cells.specs.Stopped.{IsSweptBetween, IsStopped}
use Rattle.ff_cells.proofs.AllXs.{rises}
use Rattle.ff_cells.proofs.Sweeping.{strips_one, strips_stopped}
use Rattle.ff_cells.proofs.sweep.strip_at.Goals as goal

pub returns-clause-done : goal.returns-clause-done
returns-clause-done c =
    let xs = c.args.xs.now in
    let bars = c.args.bars.now in
    let j = c.args.j in
    let one = c.requires.first in
    let lt = c.requires.within in
    let a = (read w64 (c.requires.near (j - 1) (pos 0) (omega (arith, one, lt))) tt).is in
    let b = (read w64 (c.requires.near j (pos 0) lt) tt).is in
    IfOk-weaker c.between.result _ _ (λ u s. strips_one bars xs j c.args.found.now c.between.new.found one
    (subst (λ z. IsSweptBetween bars (get_or xs (j - 1) (pos 0)) z c.args.found.now c.between.new.found) b
    (subst (λ z. IsSweptBetween bars z (to_z w64 (of_z w64 (get_or xs j (pos 0)))) c.args.found.now
    c.between.new.found) a s)) c.requires.so_far) c.between.ensures.done

pub returns-clause-stopped : goal.returns-clause-stopped
returns-clause-stopped c =
    let xs = c.args.xs.now in
    let bars = c.args.bars.now in
    let j = c.args.j in
    let one = c.requires.first in
    let lt = c.requires.within in
    let a = (read w64 (c.requires.near (j - 1) (pos 0) (omega (arith, one, lt))) tt).is in
    let b = (read w64 (c.requires.near j (pos 0) lt) tt).is in
    IfErr-weaker c.between.result _ _ (λ why s. strips_stopped bars xs j c.args.found.now why one lt
    (subst (λ z. IsStopped (filter (spans_strip (get_or xs (j - 1) (pos 0)) z) bars)
    (at_x (get_or xs (j - 1) (pos 0))) (at_x z) c.args.found.now why) b
    (subst (λ z. IsStopped (filter (spans_strip z (to_z w64 (of_z w64 (get_or xs j (pos 0))))) bars) (at_x z)
    (at_x (to_z w64 (of_z w64 (get_or xs j (pos 0))))) c.args.found.now why) a s)) c.requires.so_far)
    c.between.ensures.stopped

pub between-requires-clause-rising : goal.between-requires-clause-rising
between-requires-clause-rising c =
    let xs = c.args.xs.now in
    let j = c.args.j in
    let one = c.requires.first in
    let lt = c.requires.within in
    let e : j - 1 + 1 ≡ j = omega (arith, one) in
    let up = rises xs c.requires.rising (j - 1) (omega (arith, one, lt)) in
    let a = (read w64 (c.requires.near (j - 1) (pos 0) (omega (arith, one, lt))) tt).is in
    let b = (read w64 (c.requires.near j (pos 0) lt) tt).is in
    subst (λ z. to_z w64 (of_z w64 (get_or xs (j - 1) (pos 0))) ≤ℤ z) (sym b)
    (subst (λ z. z ≤ℤ get_or xs j (pos 0)) (sym a)
    (subst (λ k. get_or xs (j - 1) (pos 0) ≤ℤ get_or xs k (pos 0)) e up))

pub between-requires-clause-reached : goal.between-requires-clause-reached
between-requires-clause-reached c =
    let j = c.args.j in
    let one = c.requires.first in
    let lt = c.requires.within in
    let a = (read w64 (c.requires.near (j - 1) (pos 0) (omega (arith, one, lt))) tt).is in
    subst (λ z. AreActive c.args.bars.now z z c.args.active.now) (sym a) c.requires.reached

pub returns-clause-kept : goal.returns-clause-kept
returns-clause-kept c =
    let b = (read w64 (c.requires.near c.args.j (pos 0) c.requires.within) tt).is in
    subst (λ z. OnOk c.between.result (AreActive c.args.bars.now z z c.between.new.active)) b
    c.between.ensures.kept
