use Rattle.ff_crossings.proofs.AlternatingChords.{right_cap_among, among_right_cap}
use Rattle.ff_crossings.proofs.alternating.right_cap_alternates.Goals as goal

pub returns : goal.returns
returns c = λ above left right is x y h h2 m n o o2. (
  (λ a. right_cap_among above left right is x y h h2 a),
  (λ b. among_right_cap above left right is x y h h2 m n o o2 b),
)
