use Rattle.std.proofs.Common.{◌∙◌, ◌++◌, ◌∷◌, [], ap, sym, codes}
use Rattle.std.specs.List.{flat_map}
use Rattle.ff_log.specs.Spelling.{with_face}
use Rattle.ff_log.specs.Reading.{spaced}
use Rattle.ff_log.proofs.Others.{places_joined}
use Rattle.ff_log.proofs.spelling.face_text.Goals as goal

pub returns : goal.returns
returns c =
    c.in_ok-push_places.ensures ∙ ap (λ x. x ++ flat_map spaced c.args.at.now) c.in_ok-text.ensures
    ∙ sym (places_joined (codes "use") (c.args.name.now ∷ with_face c.args.e c.args.face []) c.args.at.now)
