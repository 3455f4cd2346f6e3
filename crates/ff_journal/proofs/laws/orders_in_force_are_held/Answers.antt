use Rattle.ff_journal.proofs.Holders.{held_where, in_force_where}
use Rattle.ff_journal.proofs.laws.orders_in_force_are_held.Goals as goal

pub returns : goal.returns
returns c made p s = (λ t. held_where made p s t, λ h. in_force_where made p s h)
