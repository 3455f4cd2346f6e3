use Rattle.ff_crossings.proofs.RowTests.{by_test}
use Rattle.ff_crossings.proofs.rows.rows_by_test.Goals as goal

pub returns : goal.returns
returns c = λ kind row. by_test kind row
