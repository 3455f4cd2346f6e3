use Rattle.std.proofs.Common.{refl}
use Rattle.ff_tables.specs.Rows.{rows_of}
use Rattle.ff_tables.proofs.laws.rows_are_orders.Goals as goal

pub returns-clause-transitivity : goal.returns-clause-transitivity
unfolding rows_of
returns-clause-transitivity c = refl

pub returns-clause-taco_taco : goal.returns-clause-taco_taco
unfolding rows_of
returns-clause-taco_taco c = refl

pub returns-clause-six : goal.returns-clause-six
unfolding rows_of
returns-clause-six c = refl

pub returns-clause-sixteen : goal.returns-clause-sixteen
unfolding rows_of
returns-clause-sixteen c = refl

pub returns-clause-taco_tortilla : goal.returns-clause-taco_tortilla
unfolding rows_of
returns-clause-taco_tortilla c = refl

pub returns-clause-tortilla_tortilla : goal.returns-clause-tortilla_tortilla
unfolding rows_of
returns-clause-tortilla_tortilla c = refl
