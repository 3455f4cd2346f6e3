use Rattle.ff_crossings.proofs.AlternatingChords.{right_caps_interleave, interleave_right_caps}
use Rattle.ff_crossings.proofs.alternating.right_caps_alternate.Goals as goal

pub returns : goal.returns
returns c = λ above left right is x y z u m n o v. (
  (λ a. right_caps_interleave above left right is x y z u a),
  (λ b. interleave_right_caps above left right is x y z u m n o v b),
)
