use Rattle.std.proofs.Common.{rules, ap₂, ◌≡◌, ◌∙◌, codes}
use Rattle.std.proofs.lemmas.Result.{IfOk-weaker}
use Rattle.clap.specs.Words.{app_of, new_rule, rule_of, with_rule}
use Rattle.ff_words.specs.App.{long_rule, plain_app}
use Rattle.ff_words.proofs.AppLemmas.{plain_is}
use Rattle.ff_words.proofs.words.command.Goals as goal

pub returns : goal.returns
returns c =
    let mode_is : rule_of c.new-mode.result ≡ new_rule (codes "mode") = search rules in
    let count_is : rule_of c.new-count.result ≡ new_rule (codes "count") = search rules in
    let budget_is : rule_of c.long-budget.result ≡ long_rule (codes "budget") = search rules in
    let workers_is : rule_of c.long-workers.result ≡ long_rule (codes "workers") = search rules in
    let plain : app_of c.disable_help_flag-plain.result ≡ plain_app = plain_is _ _ _ c.new-3.ensures.app c.no_binary_name.ensures c.disable_help_flag-plain.ensures in
    let first = c.in_ok-arg.ensures.shape (search rules) ∙ ap₂ with_rule plain mode_is in
    let second = c.in_ok-arg-2.ensures.shape (search rules) ∙ ap₂ with_rule first count_is in
    let third = c.in_ok-arg-3.ensures.shape (search rules) ∙ ap₂ with_rule second budget_is in
    IfOk-weaker c.arg-4.result _ _ (λ r h. h.shape (search rules) ∙ ap₂ with_rule third workers_is) c.arg-4.ensures
