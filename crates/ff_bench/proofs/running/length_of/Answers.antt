use Rattle.std.proofs.Common.{rules, ◌≡◌, Some, ap, ◌∙◌}
use Rattle.ff_bench.proofs.Scripts.{lengths_get}
use Rattle.ff_bench.proofs.running.length_of.Goals as goal

pub returns : goal.returns
returns c = lengths_get c.args.scripts.now c.args.k c.script_at-script.result.now c.script_at-script.ensures ∙ ap (λ n. Some n) (search rules)
