use Rattle.std.proofs.Common.{rules, ◌≡◌, ◌+◌, ℕ, List, [], ◌∷◌, slice_get, length, false, sym, ap, ◌∙◌, subst, arith}
use Rattle.ff_door.specs.Views.{IsAt}
use Rattle.ff_bench.specs.Views.{PassView}
use Rattle.ff_bench.specs.Runs.{IsSeatOf}
use Rattle.ff_bench.proofs.Dealing.{at_end, in_front, one_popped, one_taken, outside_more, kept_more}
use Rattle.ff_bench.proofs.bench.Bench.gather_passes.Goals as goal

pub loop-pass-preserved : goal.loop-pass-preserved
loop-pass-preserved c =
    let b = c.args.self.now in let i = c.loop-pass.invariant in let old = c.loop-pass.passes.items in let new = c.pop.new.self.items in
    let seats = c.loop-pass.seats.items in let more = c.push_reserved.new.self.items in let p = c.in-Some.pass in let s = c.seat_of.result in let sits = c.seat_of.ensures in
    let e = c.in-Some.ensures.items in let g = c.push_reserved.ensures.items in
    let of = i.passes (length new) p (ap (λ (l : List PassView). slice_get l (length new)) e ∙ at_end new p) in
    let n = one_popped old new p e in let m = one_popped more seats s g in let count = i.count in record {
      passes = λ k q at. i.passes k q (ap (λ (l : List PassView). slice_get l k) e ∙ in_front new (p ∷ []) k q at);
      seats = outside_more b.door seats more s i.seats g ((sits.table ∙ of.table, sits.base ∙ of.base), sits.out);
      taken = one_taken PassView IsSeatOf c.args.passes.items old new seats more p s i.taken e g sits;
      kept = kept_more c.args.seats.now.items seats more s i.kept g;
      count = omega (arith, n, m, count);
      room = c.push_reserved.ensures.capacity ∙ i.room;
    }
