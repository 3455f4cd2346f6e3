use Rattle.std.proofs.Common.{ℕ, List, IfOk, IfErr, ap, length, subst, ◌∙◌}
use Rattle.std.proofs.lemmas.Result.{IfOk-weaker}
use Rattle.ff_log.specs.Texts.{AreNoLog}
use Rattle.ff_log.proofs.LogLaws.{AreRead, all_small, all_sound, as_many, gives_only}
use Rattle.ff_log.proofs.reading.read_log.Goals as goal

pub returns-clause-read : goal.returns-clause-read
returns-clause-read c =
    let read = subst (λ (ts : List (List ℕ)). IfOk c.lines_of.result (λ log. AreRead ts log.lines)) c.as_slice.ensures c.lines_of.ensures.read in
    IfOk-weaker c.lines_of.result _ _ (λ log h. all_sound c.args.lines.now log.lines h) read

pub returns-clause-whole : goal.returns-clause-whole
returns-clause-whole c =
    let read = subst (λ (ts : List (List ℕ)). IfOk c.lines_of.result (λ log. AreRead ts log.lines)) c.as_slice.ensures c.lines_of.ensures.read in
    let bad = subst (λ (ts : List (List ℕ)). IfErr c.lines_of.result (λ no. AreNoLog ts no)) c.as_slice.ensures c.lines_of.ensures.bad in
    λ list a e. gives_only c.args.lines.now c.lines_of.result list read bad a e

pub returns-clause-small : goal.returns-clause-small
returns-clause-small c = IfOk-weaker c.lines_of.result _ _ (λ log h. all_small log.lines (all_sound c.as_slice.result.now log.lines h).are_lines) c.lines_of.ensures.read

pub returns-clause-count : goal.returns-clause-count
returns-clause-count c =
    IfOk-weaker c.lines_of.result _ _ (λ log h. as_many c.as_slice.result.now log.lines h ∙ ap length c.as_slice.ensures) c.lines_of.ensures.read
