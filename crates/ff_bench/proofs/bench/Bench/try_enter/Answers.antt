use Rattle.std.proofs.Common.{◌≡◌, ℕ, ap, ◌∙◌, subst}
use Rattle.ff_journal.specs.Epochs.{viewer_in}
use Rattle.ff_door.specs.Entries.{Follows}
use Rattle.ff_door.specs.Views.{SeatView}
use Rattle.ff_journal.specs.declared.entries.Entry.{Entry}
use Rattle.ff_desk.specs.Views.{BaseView}
use Rattle.ff_bench.specs.Views.{BenchView}
use Rattle.ff_bench.proofs.Following.{seen_is, follows_first, left_later, act_said}
use Rattle.ff_bench.proofs.bench.Bench.try_enter.Goals as goal

pub try_say-said-requires : goal.try_say-said-requires
try_say-said-requires g c =
    let v = c.args.viewer in let first = c.enter-desk.result in
    let f = subst (λ (s : SeatView Entry BaseView). Follows viewer_in s.number s.seen first.journal) c.place.view_is c.enter-desk.ensures.seen in
    let at = c.enter-desk.ensures.base ∙ ap (λ (b : BenchView). b.door.base) c.self.view_is in
    record { left = left_later v c.args.place.now.seen first.journal c.args.self.now.door.base first.base (subst (λ (k : ℕ). Follows viewer_in k c.args.place.now.seen first.journal) c.requires.viewer f) at c.requires.left }

pub returns-clause-said : goal.returns-clause-said
returns-clause-said g c =
    let v = c.args.viewer in let first = c.enter-desk.result in let new = c.try_say-said.new.self in
    let f = follows_first c.place.inside.seat c.args.place.now c.enter-desk.new.seat c.leave.new.seat first.journal new.journal c.place.view_is c.enter-desk.ensures.inside c.leave.ensures.out c.enter-desk.ensures.seen in
    let s = seen_is c.place.inside.seat c.args.place.now c.enter-desk.new.seat c.leave.new.seat first.journal new.journal c.place.view_is c.enter-desk.ensures.inside c.leave.ensures.out in
    act_said v c.args.command.now c.args.place.now.seen first new c.leave.new.seat.seen c.try_say-said.result (subst (λ (k : ℕ). Follows viewer_in k c.args.place.now.seen first.journal) c.requires.viewer f) s c.try_say-said.ensures.said
