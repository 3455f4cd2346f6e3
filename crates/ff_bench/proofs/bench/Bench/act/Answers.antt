use Rattle.std.proofs.Common.{rules, ◌≡◌, ◌+◌, ◌-◌, ◌<◌, ◌≤◌, ℕ, length, true, false, IfErr, sym, ap, ◌∙◌, subst, arith}
use Rattle.ff_journal.specs.Epochs.{viewer_in}
use Rattle.ff_journal.specs.Journals.{commands_of}
use Rattle.ff_door.specs.Entries.{Follows}
use Rattle.ff_bench.specs.Views.{PassView, left_of}
use Rattle.ff_bench.proofs.Following.{counts_said, counts_same, err_of}
use Rattle.ff_bench.proofs.bench.Bench.act.Goals as goal

pub invariant_of-pass : goal.invariant_of-pass
invariant_of-pass g c =
    let p = c.pass.inside in let e = c.enter-said.ensures in
    let left : 0 < p.commands - length (commands_of p.viewer p.place.seen) = subst (λ (x : PassView). 0 < left_of x) (sym c.pass.view_is) c.requires.left in
    let counted = c.pass.invariant.counted in record {
      number = e.number ∙ c.pass.invariant.number;
      counted = counts_said p.viewer p.made c.args.command.now p.place.seen c.enter-said.new.place.seen c.enter-said.result (search rules) e.done counted;
      within = omega (arith, left, counted);
    }

pub invariant_of-pass-else-is_ok : goal.invariant_of-pass-else-is_ok
invariant_of-pass-else-is_ok g c =
    let p = c.pass.inside in let e = c.enter-said.ensures in record {
      number = e.number ∙ c.pass.invariant.number;
      counted = counts_same p.viewer p.made p.place.seen c.enter-said.new.place.seen (err_of c.enter-said.result (Follows viewer_in p.viewer p.place.seen c.enter-said.new.place.seen) (search rules) e.none) c.pass.invariant.counted;
      within = c.pass.invariant.within;
    }
