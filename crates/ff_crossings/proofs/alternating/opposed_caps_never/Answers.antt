use Rattle.ff_crossings.proofs.AlternatingChords.{opposed_caps}
use Rattle.ff_crossings.proofs.alternating.opposed_caps_never.Goals as goal

pub returns : goal.returns
returns c = λ left right x y z u a. opposed_caps left right x y z u a
