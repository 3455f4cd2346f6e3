use Rattle.std.proofs.Common.{◌∙◌, ◌++◌, ap, string_bytes}
use Rattle.ff_viewer.specs.Spelling.{spelling}
use Rattle.ff_transcript.specs.Entries.{place_text, told_text}
use Rattle.ff_transcript.proofs.Joined.{three_joined}
use Rattle.ff_transcript.proofs.entries.push_said.Goals as goal

pub returns : goal.returns
returns c =
    let name = c.as_str.ensures ∙ c.in_ok-command.ensures in
    let said = c.in_ok-push_str.ensures.bytes ∙ ap (λ x. x ++ c.as_str.result.now) c.in_ok-push_place.ensures ∙ ap (λ x. string_bytes c.args.text.now ++ place_text c.args.viewer c.args.index ++ x) name in
    c.in_ok-push_told.ensures ∙ ap (λ x. x ++ told_text c.args.reply.now) said
    ∙ three_joined (string_bytes c.args.text.now) (place_text c.args.viewer c.args.index) (spelling c.args.command.now) (told_text c.args.reply.now)
