use Rattle.ff_crossings.proofs.AlternatingChords.{left_cap_among, among_left_cap}
use Rattle.ff_crossings.proofs.alternating.left_cap_alternates.Goals as goal

pub returns : goal.returns
returns c = λ above left right is x y h h2 m n o o2. (
  (λ a. left_cap_among above left right is x y h h2 a),
  (λ b. among_left_cap above left right is x y h h2 m n o o2 b),
)
