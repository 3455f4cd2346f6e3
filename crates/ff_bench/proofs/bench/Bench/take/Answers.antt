use Rattle.std.proofs.Common.{◌≡◌, ap, ◌∙◌}
use Rattle.ff_desk.specs.Steps.{LentIs}
use Rattle.ff_bench.specs.Views.{BenchView}
use Rattle.ff_bench.specs.Turns.{Took}
use Rattle.ff_bench.proofs.Following.{gone, seen_is, follows_first, took, ok_map}
use Rattle.ff_bench.proofs.bench.Bench.take.Goals as goal

pub returns-clause-gone : goal.returns-clause-gone
returns-clause-gone g c = gone c.place.inside.seat c.args.place.now c.enter-desk.new.seat c.leave.new.seat c.enter-desk.result.journal c.lend-lent.new.self.journal c.place.view_is c.enter-desk.ensures.inside c.leave.ensures.out c.enter-desk.ensures.seen c.lend-lent.ensures.step

pub returns-clause-took : goal.returns-clause-took
returns-clause-took g c =
    let base = c.args.self.now.door.base in let k = c.args.place.now.number in let old = c.args.place.now.seen in let seen = c.leave.new.seat.seen in
    let first = c.enter-desk.result in let new = c.lend-lent.new.self in
    let at = c.enter-desk.ensures.base ∙ ap (λ (b : BenchView). b.door.base) c.self.view_is in
    let f = follows_first c.place.inside.seat c.args.place.now c.enter-desk.new.seat c.leave.new.seat first.journal new.journal c.place.view_is c.enter-desk.ensures.inside c.leave.ensures.out c.enter-desk.ensures.seen in
    let s = seen_is c.place.inside.seat c.args.place.now c.enter-desk.new.seat c.leave.new.seat first.journal new.journal c.place.view_is c.enter-desk.ensures.inside c.leave.ensures.out in
    ok_map c.lend-lent.result (LentIs first new) (λ l. Took base k old seen l) (λ l h. took base k old seen first new l c.is_desk.ensures at f s h) c.lend-lent.ensures.lent
