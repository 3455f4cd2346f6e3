use Rattle.ff_reflect.proofs.Refused.{refused_excludes}
use Rattle.ff_reflect.proofs.laws.refused_faces_dont_fold.Goals as goal

pub returns : goal.returns
returns c = refused_excludes
