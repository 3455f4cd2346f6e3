use Rattle.std.proofs.Common.{◌∙◌, ◌++◌, ap, codes, string_bytes}
use Rattle.ff_transcript.specs.Replies.{below_reply, reply_text}
use Rattle.ff_transcript.proofs.Joined.{four_joined}
use Rattle.ff_transcript.proofs.entries.push_told.Goals as goal

pub returns : goal.returns
returns c =
    let reply = c.in_ok-push_reply.ensures ∙ ap (λ x. x ++ reply_text c.args.reply.now) c.in_ok-push_str.ensures.bytes in
    let line = c.in_ok-push_str-2.ensures.bytes ∙ ap (λ x. x ++ codes "\n") reply in
    c.in_ok-push_below.ensures ∙ ap (λ x. x ++ below_reply c.args.reply.now) line
    ∙ four_joined (string_bytes c.args.text.now) (codes " -> ") (reply_text c.args.reply.now) (codes "\n") (below_reply c.args.reply.now)
