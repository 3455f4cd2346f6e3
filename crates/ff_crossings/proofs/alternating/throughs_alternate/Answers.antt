use Rattle.ff_crossings.proofs.AlternatingChords.{throughs_cross, cross_throughs}
use Rattle.ff_crossings.proofs.alternating.throughs_alternate.Goals as goal

pub returns : goal.returns
returns c = λ above left right is f f2 h h2 m m2 n n2. (
  (λ a. throughs_cross above left right is f f2 h h2 a),
  (λ x. cross_throughs above left right is f f2 h h2 m m2 n n2 x),
)
