use Rattle.ff_crossings.proofs.AlternatingChords.{left_caps_interleave, interleave_left_caps}
use Rattle.ff_crossings.proofs.alternating.left_caps_alternate.Goals as goal

pub returns : goal.returns
returns c = λ above left right is x y z u m n o v. (
  (λ a. left_caps_interleave above left right is x y z u a),
  (λ b. interleave_left_caps above left right is x y z u m n o v b),
)
