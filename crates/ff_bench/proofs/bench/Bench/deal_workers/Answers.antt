use Rattle.std.proofs.Common.{rules, ◌≡◌, ◌+◌, ◌<◌, ◌≤◌, ℕ, List, length, slice_get, Some, refl, sym, ap, ◌∙◌, subst, arith}
use Rattle.ff_bench.specs.Views.{WorkerView}
use Rattle.ff_bench.specs.Runs.{IsNewWorker}
use Rattle.ff_bench.proofs.Dealing.{seat_popped, seats_popped, hand_popped, hands_popped, one_pushed, one_popped}
use Rattle.ff_bench.proofs.bench.Bench.deal_workers.Goals as goal

pub worker_of-requires-clause-seat : goal.worker_of-requires-clause-seat
worker_of-requires-clause-seat c =
    let d = c.args.self.now.door in
    let r = seat_popped d d.seats c.loop-worker.seats.items c.pop.new.self.items c.in-Some.seat c.loop-worker.invariant.seats c.in-Some.ensures.items in
    (r.1.0, refl, r.1.2, r.1.3, r.1.4)

pub worker_of-requires-clause-hand : goal.worker_of-requires-clause-hand
worker_of-requires-clause-hand c =
    let old = c.loop-worker.hands.items in let new = c.pop-in-loop-worker.new.self.items in let h = c.in-Some-pop.hand in
    let r = hand_popped c.args.count old new h c.loop-worker.invariant.hands c.in-Some-pop.ensures.items in
    let n = one_popped old new h c.in-Some-pop.ensures.items in let a = r.0 in let o = r.1 in
    (o ∙ c.requires.count, omega (arith, a, o, n))

pub loop-worker-preserved : goal.loop-worker-preserved
loop-worker-preserved c =
    let b = c.args.self.now in let i = c.loop-worker.invariant in let k = c.loop-worker.worker in
    let seats = c.loop-worker.seats.items in let seats_left = c.pop.new.self.items in let hands = c.loop-worker.hands.items in let hands_left = c.pop-in-loop-worker.new.self.items in
    let h = c.in-Some-pop.hand in let s = c.in-Some.seat in let n = one_popped seats seats_left s c.in-Some.ensures.items in let m = one_popped hands hands_left h c.in-Some-pop.ensures.items in
    let r = (hand_popped c.args.count hands hands_left h i.hands c.in-Some-pop.ensures.items).0 in let left = i.left in let hl = i.hands_left in
    let number : h.number ≡ k = omega (arith, r, hl) in
    let made : length c.push_reserved.new.self.items ≡ k + 1 = (let p = one_popped c.push_reserved.new.self.items c.loop-worker.workers.items c.worker_of.result c.push_reserved.ensures.items in let q = i.made in omega (arith, p, q)) in record {
      seats = seats_popped b.door b.door.seats seats seats_left s i.seats c.in-Some.ensures.items;
      left = omega (arith, n, left);
      hands = hands_popped c.args.count hands hands_left h i.hands c.in-Some-pop.ensures.items;
      hands_left = omega (arith, m, hl);
      workers = λ j w e. one_pushed (λ m x. IsNewWorker b m x) c.loop-worker.workers.items k c.worker_of.result i.workers i.made (subst (λ (y : ℕ). IsNewWorker b y c.worker_of.result) number c.worker_of.ensures) j w (ap (λ (l : List WorkerView). slice_get l j) (sym c.push_reserved.ensures.items) ∙ e);
      made = made;
      room = search rules;
    }
