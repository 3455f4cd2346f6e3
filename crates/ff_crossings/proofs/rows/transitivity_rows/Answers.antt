use Rattle.ff_crossings.proofs.RowOrders as orders
use Rattle.ff_crossings.proofs.rows.transitivity_rows.Goals as goal

pub returns : goal.returns
returns c = λ above f h k fh hk kf. orders.transitivity_rows above f h k fh hk kf
