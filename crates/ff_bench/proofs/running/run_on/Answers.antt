use Rattle.std.proofs.Common.{rules, ◌≡◌, List, length, vec_len, sym, ap, ◌∙◌, subst}
use Rattle.ff_bench.specs.Views.{PassView, WorkerView}
use Rattle.ff_bench.specs.Runs.{AllPlayed, AllWork}
use Rattle.ff_bench.proofs.Scripts.{whole_slice}
use Rattle.ff_bench.proofs.running.run_on.Goals as goal

pub returns-clause-played : goal.returns-clause-played
returns-clause-played g c =
    let items = c.args.passes.now.items in let new = c.run_all.new.passes in
    subst (λ (l : List PassView). length l ≡ length items × AllPlayed c.args.bench.now c.args.scripts.now l) (sym (whole_slice items new c.args.passes.now.len (search rules) (search rules))) (search rules, c.run_all.ensures.played.1)

pub returns-clause-workers : goal.returns-clause-workers
returns-clause-workers g c =
    let items = c.args.crew.now.items in let new = c.run_all.new.workers in
    subst (λ (l : List WorkerView). length l ≡ length items × AllWork c.args.bench.now l) (sym (whole_slice items new c.args.crew.now.len (search rules) (search rules))) (search rules, c.run_all.ensures.workers.1)
