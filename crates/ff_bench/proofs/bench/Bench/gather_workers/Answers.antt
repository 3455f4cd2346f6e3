use Rattle.std.proofs.Common.{rules, ◌≡◌, ◌+◌, ℕ, List, [], ◌∷◌, slice_get, length, false, sym, ap, ◌∙◌, subst, arith}
use Rattle.ff_door.specs.Views.{IsAt}
use Rattle.ff_bench.specs.Views.{WorkerView}
use Rattle.ff_bench.specs.Runs.{IsWorkerSeat}
use Rattle.ff_bench.proofs.Dealing.{at_end, in_front, one_popped, one_taken, outside_more, kept_more}
use Rattle.ff_bench.proofs.bench.Bench.gather_workers.Goals as goal

pub loop-worker-preserved : goal.loop-worker-preserved
loop-worker-preserved c =
    let b = c.args.self.now in let i = c.loop-worker.invariant in let old = c.loop-worker.workers.items in let new = c.pop.new.self.items in
    let seats = c.loop-worker.seats.items in let more = c.push_reserved.new.self.items in let p = c.in-Some.worker in let s = c.worker_seat_of.result in let sits = c.worker_seat_of.ensures in
    let e = c.in-Some.ensures.items in let g = c.push_reserved.ensures.items in
    let of = i.workers (length new) p (ap (λ (l : List WorkerView). slice_get l (length new)) e ∙ at_end new p) in
    let n = one_popped old new p e in let m = one_popped more seats s g in let count = i.count in record {
      workers = λ k q at. i.workers k q (ap (λ (l : List WorkerView). slice_get l k) e ∙ in_front new (p ∷ []) k q at);
      seats = outside_more b.door seats more s i.seats g ((sits.table ∙ of.table, sits.base ∙ of.base), sits.out);
      taken = one_taken WorkerView IsWorkerSeat c.args.workers.items old new seats more p s i.taken e g sits;
      kept = kept_more c.args.seats.now.items seats more s i.kept g;
      count = omega (arith, n, m, count);
      room = c.push_reserved.ensures.capacity ∙ i.room;
    }
