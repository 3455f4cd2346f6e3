use Rattle.std.proofs.Common.{rules, ◌≡◌, ◌+◌, ◌≤◌, ℕ, List, length, slice_get, Some, sym, ap, ◌∙◌, subst, arith}
use Rattle.ff_bench.specs.Views.{PassView}
use Rattle.ff_bench.specs.Runs.{IsNewPass}
use Rattle.ff_bench.proofs.Dealing.{seats_popped, one_pushed, one_popped}
use Rattle.ff_bench.proofs.bench.Bench.deal_passes.Goals as goal

pub loop-viewer-preserved : goal.loop-viewer-preserved
loop-viewer-preserved c =
    let b = c.args.self.now in let i = c.loop-viewer.invariant in let old = c.loop-viewer.seats.items in let new = c.pop.new.self.items in let k = c.loop-viewer.viewer in
    let n = one_popped old new c.in-Some.seat c.in-Some.ensures.items in let left = i.left in
    let made : length c.push_reserved.new.self.items ≡ k + 1 = (let m = one_popped c.push_reserved.new.self.items c.loop-viewer.passes.items c.pass_of.result c.push_reserved.ensures.items in let q = i.count in omega (arith, m, q)) in record {
      seats = seats_popped b.door b.door.seats old new c.in-Some.seat i.seats c.in-Some.ensures.items;
      left = omega (arith, n, left);
      passes = λ j p e. one_pushed (λ m x. IsNewPass b m x) c.loop-viewer.passes.items k c.pass_of.result i.passes i.count c.pass_of.ensures j p (ap (λ (l : List PassView). slice_get l j) (sym c.push_reserved.ensures.items) ∙ e);
      count = made;
      room = search rules;
    }
