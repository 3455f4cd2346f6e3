use Rattle.std.proofs.Common.{◌≡◌, inl, refl, ap, ◌∙◌}
use Rattle.ff_bench.specs.Views.{BenchView}
use Rattle.ff_bench.proofs.Following.{gone, seen_is, follows_first}
use Rattle.ff_bench.proofs.bench.Bench.count.Goals as goal

pub returns-clause-gone : goal.returns-clause-gone
returns-clause-gone g c = gone c.place.inside.seat c.args.place.now c.enter-desk.new.seat c.leave.new.seat c.enter-desk.result.journal c.enter-desk.result.journal c.place.view_is c.enter-desk.ensures.inside c.leave.ensures.out c.enter-desk.ensures.seen (inl refl)

pub returns-clause-told : goal.returns-clause-told
returns-clause-told g c =
    let first = c.enter-desk.result in (
      first,
      record {
        is_desk = c.is_desk.ensures;
        based = c.enter-desk.ensures.base ∙ ap (λ (b : BenchView). b.door.base) c.self.view_is;
        after = follows_first c.place.inside.seat c.args.place.now c.enter-desk.new.seat c.leave.new.seat first.journal first.journal c.place.view_is c.enter-desk.ensures.inside c.leave.ensures.out c.enter-desk.ensures.seen;
      },
      seen_is c.place.inside.seat c.args.place.now c.enter-desk.new.seat c.leave.new.seat first.journal first.journal c.place.view_is c.enter-desk.ensures.inside c.leave.ensures.out,
      c.turns-visited.ensures,
    )
