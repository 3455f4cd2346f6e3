use Rattle.std.proofs.Common.{◌≡◌, ◌∙◌, ap, true, codes}
use Rattle.clap.specs.Simple.{App, app_of, app_of_fields, new_app}
use Rattle.clap.specs.declared.builder.command.Command.{Command}
use Rattle.clap.specs.declared.builder.command.Command.TheViews.{out-Command}
use Rattle.ff_words.specs.App.{plain_app}

abbrev unnamed : App → App
unnamed a = record a { top = record a.top { no_binary_name = true } }

abbrev helpless : App → App
helpless a = record a { top = record a.top { disable_help_flag = true } }

pub plain_is : (a b c : Command) → app_of a ≡ new_app (codes "flatfold") → out-Command b ≡ record (out-Command a) { no_binary_name = true }
    → out-Command c ≡ record (out-Command b) { disable_help_flag = true } → app_of c ≡ plain_app
plain_is a b c h e1 e2 = ap app_of_fields e2 ∙ ap helpless (ap app_of_fields e1 ∙ ap unnamed h)
