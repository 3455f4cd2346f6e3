use Rattle.std.proofs.Common.{◌∙◌, sym, List, string_bytes, map}
use Rattle.clap.specs.Walk.{Text}
use Rattle.ff_words.proofs.Final.{dashes_are, dashes_none, fails_by_kind, found_is, ok_or_is, refused_is}
use Rattle.ff_words.proofs.words.read_words.Goals as goal

pub returns-then-has_dashes : goal.returns-then-has_dashes
returns-then-has_dashes c =
    let ws : List Text = map (λ s. string_bytes s) c.args.words.now in
    dashes_none ws (dashes_are (λ s. string_bytes s) c.args.words.now _ _ c.has_dashes.ensures c.if-has_dashes.true)

pub returns-in-Ok : goal.returns-in-Ok
returns-in-Ok c =
    let ws : List Text = map (λ s. string_bytes s) c.args.words.now in
    let d = dashes_are (λ s. string_bytes s) c.args.words.now _ _ c.has_dashes.ensures c.if-has_dashes.false in
    let named = found_is ws c.in-Ok.matches _ c.in_ok-command.ensures d c.in-Ok.ensures.matches c.in-Ok.ensures.kinds in
    ok_or_is ws c.job_in.result c.ok_or.result (named ∙ sym c.job_in.ensures) c.ok_or.ensures.value

pub returns-in-Err : goal.returns-in-Err
returns-in-Err c =
    let ws : List Text = map (λ s. string_bytes s) c.args.words.now in
    fails_by_kind ws c.in-Err.error c.from.result c.from.ensures (λ ne. refused_is ws c.in-Err.error _ c.in_ok-command.ensures c.in-Err.ensures.kinds ne)
