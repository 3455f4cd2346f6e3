use Rattle.ff_crossings.proofs.RowOrders as orders
use Rattle.ff_crossings.proofs.rows.taco_taco_rows.Goals as goal

pub returns : goal.returns
returns c = λ above a b c d four one listed. orders.taco_taco_rows above a b c d four one listed
