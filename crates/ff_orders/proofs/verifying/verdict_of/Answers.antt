use Rattle.std.proofs.Common.{subst}
use Rattle.ff_orders.specs.Verdicts.{Never}
use Rattle.ff_orders.specs.Noted.{BrokenAt, DeadAt}
use Rattle.ff_orders.proofs.verifying.verdict_of.Goals as goal

pub returns-in-None : goal.returns-in-None
returns-in-None c = (
  record {
    orders = record { no_both = c.in_default.ensures; no_none = c.in_default-first_none.ensures };
    no_broken = subst (λ starts. Never (BrokenAt c.args.said.now starts)) c.as_slice.ensures c.in_default-first_broken.ensures;
  },
  subst (λ cons. Never (DeadAt c.args.said.now cons)) c.as_slice-2.ensures c.in-None.ensures,
)
