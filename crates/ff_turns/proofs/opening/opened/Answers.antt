use Rattle.std.proofs.Common.{◌≡◌, sym, subst, length, slice_get, Some}
use Rattle.ff_bench.proofs.Dealing.{at_end}
use Rattle.ff_turns.proofs.opening.opened.Goals as goal

-- the last pass of each list is one of the bench
pub returns-in-Some-Some : goal.returns-in-Some-Some
returns-in-Some-Some c =
    let ps = c.pop.new.self.items in
    let ws = c.pop-2.new.self.items in
    let s = c.in-Some-Some in
    let viewer = c.in_ok-bench.ensures.passes.each (length ps) s.pass (subst (λ l. slice_get l (length ps) ≡ Some s.pass) (sym s.ensures.items) (at_end ps s.pass)) in
    let worker = c.in_ok-bench.ensures.workers_passes.each (length ws) s.worker (subst (λ l. slice_get l (length ws) ≡ Some s.worker) (sym s.ensures'.items) (at_end ws s.worker)) in
    (viewer.0, worker.0)
