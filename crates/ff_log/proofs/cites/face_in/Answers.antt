use Rattle.std.proofs.Common.{rules, ◌∙◌}
use Rattle.ff_log.proofs.Others.{face_here}
use Rattle.ff_log.proofs.cites.face_in.Goals as goal

pub returns : goal.returns
returns c = c.face_of.ensures ∙ face_here c.args.e.now c.args.word.now c.args.face.now c.args.word2.now c.args.places.0.now c.args.places.1.now c.in_ok-a.a c.in_ok-b.b
    (search rules) (search rules) c.in_ok-a.ensures c.in_ok-b.ensures
