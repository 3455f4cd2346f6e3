use Rattle.std.proofs.Common.{◌≡◌, ◌-◌, ◌∙◌, ℕ, length, ap, subst}
use Rattle.ff_journal.specs.Epochs.{viewer_in}
use Rattle.ff_journal.specs.Journals.{commands_of}
use Rattle.ff_door.specs.Entries.{Follows}
use Rattle.ff_bench.specs.Views.{PassView, left_of}
use Rattle.ff_bench.specs.Turns.{TellsTurns}
use Rattle.ff_bench.proofs.Following.{counts_same, commands_on}
use Rattle.ff_bench.proofs.bench.Bench.turns.Goals as goal

pub invariant_of-pass : goal.invariant_of-pass
invariant_of-pass g c =
    let p = c.pass.inside in let e = c.count.ensures in record {
      number = e.gone.number ∙ c.pass.invariant.number;
      counted = counts_same p.viewer p.made p.place.seen c.count.new.place.seen
          (subst (λ (k : ℕ). Follows viewer_in k p.place.seen c.count.new.place.seen) c.pass.invariant.number e.gone.seen) c.pass.invariant.counted;
      within = c.pass.invariant.within;
    }

pub returns-clause-left : goal.returns-clause-left
returns-clause-left g c =
    let p = c.pass.inside in
    subst (λ (x : PassView). p.commands - length (commands_of p.viewer c.count.new.place.seen) ≡ left_of x) c.pass.view_is
    (ap (λ cs. p.commands - length cs) (commands_on p.viewer p.place.seen c.count.new.place.seen
    (subst (λ (k : ℕ). Follows viewer_in k p.place.seen c.count.new.place.seen) c.pass.invariant.number c.count.ensures.gone.seen)))

pub returns-clause-seen : goal.returns-clause-seen
returns-clause-seen g c =
    let p = c.pass.inside in
    subst (λ (x : PassView). Follows viewer_in x.viewer x.seen c.count.new.place.seen) c.pass.view_is
    (subst (λ (k : ℕ). Follows viewer_in k p.place.seen c.count.new.place.seen) c.pass.invariant.number c.count.ensures.gone.seen)

pub returns-clause-turns : goal.returns-clause-turns
returns-clause-turns g c =
    let p = c.pass.inside in
    subst (λ (x : PassView). TellsTurns c.args.self.now.door.base x.viewer x.seen c.count.new.place.seen c.count.result) c.pass.view_is
    (subst (λ (k : ℕ). TellsTurns c.args.self.now.door.base k p.place.seen c.count.new.place.seen c.count.result) c.pass.invariant.number c.count.ensures.told)
