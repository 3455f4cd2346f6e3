use Rattle.std.proofs.Common.{rules, ◌≡◌, ◌+◌, ◌∙◌, ℕ, length, vec_len, sym, ap, subst, arith}
use Rattle.std.specs.List.{ReversedBelow}
use Rattle.ff_bench.proofs.Dealing.{seats_turned, hands_turned}
use Rattle.ff_bench.proofs.opening.open_bench.Goals as goal

pub deal_passes-requires-clause-seats : goal.deal_passes-requires-clause-seats
deal_passes-requires-clause-seats c =
    let d = c.in_ok-door.door in let old = c.in_ok-door.seats.items in let new = c.reverse.new.self.items in let e = c.in_ok-door.ensures in
    let n : length old ≡ d.seats = e.2.0 in
    let q : vec_len c.in_ok-door.seats ≡ d.seats = search rules in
    let m : length new ≡ d.seats = search rules in
    (seats_turned d d.seats old new (subst (λ (k : ℕ). ReversedBelow old new k) q c.reverse.ensures.by_index) n m e.2.1, m)

pub deal_workers-requires-clause-hands : goal.deal_workers-requires-clause-hands
deal_workers-requires-clause-hands c =
    let n = c.args.workers in let old = c.in_ok-crew.hands.items in let new = c.reverse-2.new.self.items in let e = c.in_ok-crew.ensures.hands in
    let q : vec_len c.in_ok-crew.hands ≡ n = search rules in
    let m : length new ≡ n = search rules in
    (hands_turned n old new (subst (λ (k : ℕ). ReversedBelow old new k) q c.reverse-2.ensures.by_index) e.as_many m e, m)
