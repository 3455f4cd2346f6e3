use Rattle.std.proofs.Common.{◌≡◌, ◌<◌, ℕ, List, length, slice_index, None, sym, ap, ◌∙◌, subst}
use Rattle.ff_viewer.specs.declared.commands.Command.{Command}
use Rattle.ff_journal.specs.declared.entries.Entry.{Entry}
use Rattle.ff_journal.specs.Epochs.{viewer_in}
use Rattle.ff_door.specs.Entries.{Follows}
use Rattle.ff_bench.specs.Turns.{ActIs}
use Rattle.ff_bench.proofs.Following.{commands_on, act_done, not_some, err_is, tried_then}
use Rattle.ff_bench.proofs.bench.Bench.enter.Goals as goal

pub try_enter-requires-clause-left : goal.try_enter-requires-clause-left
try_enter-requires-clause-left g c = subst (λ (cs : List Command). length cs < slice_index c.args.self.now.door.base.lengths c.args.viewer) (sym (commands_on c.args.viewer c.args.place.now.seen c.loop.place.seen c.loop.invariant.seen)) c.requires.left

pub returns-in-Some-try_enter-clause-done : goal.returns-in-Some-try_enter-clause-done
returns-in-Some-try_enter-clause-done g c = let v = c.args.viewer in let said = c.args.command.now in
    (act_done v said c.args.place.now.seen c.loop.place.seen c.try_enter.new.place.seen c.in-Some-try_enter.said c.loop.invariant.seen (subst (ActIs v said c.loop.place.seen c.try_enter.new.place.seen) c.in-Some-try_enter.is c.try_enter.ensures.said)).0

pub returns-in-Some-try_enter-clause-none : goal.returns-in-Some-try_enter-clause-none
returns-in-Some-try_enter-clause-none g c = let v = c.args.viewer in let said = c.args.command.now in
    (act_done v said c.args.place.now.seen c.loop.place.seen c.try_enter.new.place.seen c.in-Some-try_enter.said c.loop.invariant.seen (subst (ActIs v said c.loop.place.seen c.try_enter.new.place.seen) c.in-Some-try_enter.is c.try_enter.ensures.said)).1

pub loop-preserved : goal.loop-preserved
loop-preserved g c =
    let v = c.args.viewer in let i = c.loop.invariant in let t = c.try_enter.ensures in let u = c.turn.ensures in
    let none : c.try_enter.result ≡ None = not_some c.try_enter.result (λ x e. c.in_default.not-Some x e) in
    let number = t.number ∙ i.number in record {
      place = u.place;
      number = u.gone.number ∙ number;
      same = u.gone.number ∙ (t.number ∙ i.same);
      seen = tried_then v c.args.command.now c.args.place.now.seen c.loop.place.seen c.try_enter.new.place.seen c.turn.new.place.seen c.try_enter.result i.seen t.said none
          (subst (λ (k : ℕ). Follows viewer_in k c.try_enter.new.place.seen c.turn.new.place.seen) number u.gone.seen);
    }

pub returns-in_err-turn-clause-none : goal.returns-in_err-turn-clause-none
returns-in_err-turn-clause-none g c =
    let v = c.args.viewer in let i = c.loop.invariant in let t = c.try_enter.ensures in let u = c.turn.ensures in
    let none : c.try_enter.result ≡ None = not_some c.try_enter.result (λ x e. c.in_default.not-Some x e) in
    err_is c.from_residual.result (Follows viewer_in v c.args.place.now.seen c.turn.new.place.seen)
    (tried_then v c.args.command.now c.args.place.now.seen c.loop.place.seen c.try_enter.new.place.seen c.turn.new.place.seen c.try_enter.result i.seen t.said none
    (subst (λ (k : ℕ). Follows viewer_in k c.try_enter.new.place.seen c.turn.new.place.seen) (t.number ∙ i.number) u.gone.seen))
