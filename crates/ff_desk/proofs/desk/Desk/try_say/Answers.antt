use Rattle.std.proofs.Common.{◌≡◌, ◌<◌, ◌∙◌, ℕ, List, length, ap, subst, arith}
use Rattle.ff_journal.specs.declared.entries.Entry.{Entry}
use Rattle.ff_journal.specs.Waiting.{IsNotPublished}
use Rattle.ff_desk.specs.Views.{DeskView}
use Rattle.ff_desk.proofs.Counts.{few}
use Rattle.ff_desk.proofs.desk.Desk.try_say.Goals as goal

pub waits_for-requires : goal.waits_for-requires
waits_for-requires c = record {
  few =
      let n = (few c.self.inside.base.lengths c.self.inside.journal c.self.invariant.within c.self.invariant.order).2 in
      let t = c.self.invariant.few.commands in
      let e = ap (λ (j : List Entry). length j) c.as_slice.ensures in omega (arith, n, t, e);
}

pub hear-requires-clause-waits : goal.hear-requires-clause-waits
hear-requires-clause-waits c = subst (λ (x : DeskView). (e : ℕ) → IsNotPublished x.journal c.args.command.now e → ⊥) c.self.view_is
    (subst (λ j. (e : ℕ) → IsNotPublished j c.args.command.now e → ⊥) c.as_slice.ensures c.in-None.ensures)
