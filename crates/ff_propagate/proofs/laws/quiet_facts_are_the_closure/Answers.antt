use Rattle.ff_propagate.specs.Facts.{value_at}
use Rattle.ff_propagate.proofs.Exact.{quiet_closure}
use Rattle.ff_propagate.proofs.Ruling.{values_inside}
use Rattle.ff_propagate.proofs.laws.quiet_facts_are_the_closure.Goals as goal

pub returns : goal.returns
returns c vars cons gs fs rule gives quiet = quiet_closure cons gs (value_at fs)
    (values_inside vars cons gs fs rule) gives quiet
