use Rattle.std.proofs.Common.{◌≡◌, ◌<◌}
use Rattle.ff_journal.specs.Publications.{published}
use Rattle.ff_desk.specs.Steps.{BringIs}
use Rattle.ff_bench.proofs.Following.{gone, seen_is, follows_first, brought, ok_map}
use Rattle.ff_bench.proofs.bench.Bench.bring.Goals as goal

pub returns-clause-gone : goal.returns-clause-gone
returns-clause-gone g c = gone c.place.inside.seat c.args.place.now c.enter-desk.new.seat c.leave.new.seat c.enter-desk.result.journal c.bring-brought.new.self.journal c.place.view_is c.enter-desk.ensures.inside c.leave.ensures.out c.enter-desk.ensures.seen c.bring-brought.ensures.step

pub returns-clause-brought : goal.returns-clause-brought
returns-clause-brought g c =
    let k = c.args.place.now.number in let old = c.args.place.now.seen in let seen = c.leave.new.seat.seen in
    let first = c.enter-desk.result in let new = c.bring-brought.new.self in
    let f = follows_first c.place.inside.seat c.args.place.now c.enter-desk.new.seat c.leave.new.seat first.journal new.journal c.place.view_is c.enter-desk.ensures.inside c.leave.ensures.out c.enter-desk.ensures.seen in
    let s = seen_is c.place.inside.seat c.args.place.now c.enter-desk.new.seat c.leave.new.seat first.journal new.journal c.place.view_is c.enter-desk.ensures.inside c.leave.ensures.out in
    ok_map c.bring-brought.result (λ _. BringIs c.args.found.epoch first new) (λ _. c.args.found.epoch < published seen) (λ x b. brought k c.args.found.epoch old first new seen f c.requires.epoch s b) c.bring-brought.ensures.brought
