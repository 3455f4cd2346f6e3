use Rattle.std.proofs.Common.{◌∙◌, ◌++◌, [], ap, sym, codes}
use Rattle.std.specs.List.{flat_map}
use Rattle.ff_types.specs.declared.cites.Cite.TheVariants.{Transitivity}
use Rattle.ff_log.specs.Spelling.{cite_words}
use Rattle.ff_log.specs.Reading.{spaced}
use Rattle.ff_log.proofs.Others.{places_joined}
use Rattle.ff_log.proofs.spelling.three_text.Goals as goal

pub returns : goal.returns
returns c =
    c.in_ok-push_places.ensures ∙ ap (λ x. x ++ flat_map spaced c.args.at.now) c.in_ok-text.ensures
    ∙ sym (places_joined (codes "use") (cite_words (Transitivity c.args.f c.args.g c.args.h [])) c.args.at.now)
