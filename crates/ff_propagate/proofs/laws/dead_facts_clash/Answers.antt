use Rattle.ff_propagate.specs.Facts.{value_at}
use Rattle.ff_propagate.proofs.Exact.{dead_closure}
use Rattle.ff_propagate.proofs.Ruling.{values_inside}
use Rattle.ff_propagate.proofs.laws.dead_facts_clash.Goals as goal

pub returns : goal.returns
returns c vars cons gs fs fit rule d dead = dead_closure vars cons gs (value_at fs) fit
    (values_inside vars cons gs fs rule) d dead.constraint dead.there dead.none
