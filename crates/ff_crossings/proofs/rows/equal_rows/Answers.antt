use Rattle.ff_crossings.proofs.RowOrders.{taco_face_rows, flat_face_rows}
use Rattle.ff_crossings.proofs.rows.equal_rows.Goals as goal

pub returns-clause-taco_tortilla : goal.returns-clause-taco_tortilla
returns-clause-taco_tortilla c = λ above p q. taco_face_rows above p q

pub returns-clause-tortilla_tortilla : goal.returns-clause-tortilla_tortilla
returns-clause-tortilla_tortilla c = λ above p q. flat_face_rows above p q
