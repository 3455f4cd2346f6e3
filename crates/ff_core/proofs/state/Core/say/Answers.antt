use Rattle.std.proofs.Common.{ℕ, subst}
use Rattle.ff_journal.specs.Waiting.{IsNotPublished}
use Rattle.ff_core.specs.States.{State}
use Rattle.ff_core.proofs.state.Core.say.Goals as goal

pub hear-requires-clause-waits : goal.hear-requires-clause-waits
hear-requires-clause-waits c = subst (λ (x : State). (e : ℕ) → IsNotPublished x.journal c.args.command e → ⊥) c.self.view_is
    (subst (λ j. (e : ℕ) → IsNotPublished j c.args.command e → ⊥) c.as_slice.ensures c.in-None.ensures)
