use Rattle.std.proofs.Common.{◌∙◌, ◌++◌, ap, codes, string_bytes}
use Rattle.std.proofs.lemmas.List.{append_assoc}
use Rattle.std.specs.List.{flat_map}
use Rattle.ff_transcript.specs.Entries.{with_line}
use Rattle.ff_transcript.proofs.entries.push_impossible.Goals as goal

pub returns : goal.returns
returns c =
    c.in_ok-push_pins.ensures ∙ ap (λ x. x ++ flat_map with_line c.args.pins.now) c.in_ok-push_str.ensures.bytes
    ∙ append_assoc (string_bytes c.args.text.now) (codes "impossible\n") (flat_map with_line c.args.pins.now)
