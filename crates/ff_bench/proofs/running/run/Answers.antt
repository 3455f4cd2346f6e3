use Rattle.std.proofs.Common.{rules, ◌≡◌, ◌<◌, ◌≤◌, ◌^◌, ℕ, List, length, true, sym, ap, ◌∙◌, subst, arith}
use Rattle.ff_viewer.specs.declared.commands.Command.{Command}
use Rattle.ff_desk.specs.Views.{BaseView}
use Rattle.ff_bench.specs.Views.{PassView}
use Rattle.ff_journal.specs.Journals.{IsLegalFor, IsComplete}
use Rattle.ff_bench.specs.Runs.{AreShort, AllReady, AllPlayed, lengths_in, AreSpent, HoldsAll, IsEnded}
use Rattle.ff_bench.proofs.Scripts.{are_short, all_ready, all_work, work_passes, played_passes, lengths_many, ok_both, run_ends}
use Rattle.ff_bench.proofs.running.run.Goals as goal

slice_is : (xs ys : List PassView) → xs ≡ ys → xs ≡ ys
slice_is xs ys e = e

pub lengths_of-requires : goal.lengths_of-requires
lengths_of-requires g c = subst AreShort (sym c.as_slice-all.ensures) (are_short c.args.scripts.now c.requires.few.commands)

pub run_on-requires-clause-few : goal.run_on-requires-clause-few
run_on-requires-clause-few g c = let n = lengths_many c.args.scripts.now in let m = c.requires.few.viewers in let e = ap (λ (l : List (List Command)). length l) c.as_slice-all.ensures in omega (arith, n, m, e)

pub run_on-requires-clause-ready : goal.run_on-requires-clause-ready
run_on-requires-clause-ready g c =
    let b = c.in_ok-bench.bench in let new = c.in_ok-bench.ensures in
    let e : b.door.base.lengths ≡ lengths_in c.args.scripts.now = ap (λ (x : BaseView). x.lengths) new.base ∙ (c.in_ok-lengths.ensures ∙ ap lengths_in c.as_slice-all.ensures) in
    λ κs lts. subst (λ (s : List (List Command)). AllReady b s c.in_ok-bench.passes.items) (sym c.as_slice-all.ensures) (all_ready b c.args.scripts.now c.in_ok-bench.passes.items e new.passes)

pub run_on-requires-clause-workers : goal.run_on-requires-clause-workers
run_on-requires-clause-workers g c = λ κs lts. all_work c.in_ok-bench.bench c.in_ok-bench.crew.items c.in_ok-bench.ensures.workers_passes

pub finish-requires-clause-passes : goal.finish-requires-clause-passes
finish-requires-clause-passes g c = (played_passes c.in_ok-bench.bench c.as_slice-all.result.now c.run_on.new.passes.items c.run_on.ensures.played.1, c.run_on.ensures.played.0 ∙ c.in_ok-bench.ensures.passes.as_many)

pub finish-requires-clause-workers : goal.finish-requires-clause-workers
finish-requires-clause-workers g c = (work_passes c.in_ok-bench.bench c.run_on.new.crew.items c.run_on.ensures.workers.1, c.run_on.ensures.workers.0 ∙ c.in_ok-bench.ensures.workers_passes.as_many)

pub returns-clause-legal : goal.returns-clause-legal
returns-clause-legal g c =
    let b = c.in_ok-bench.bench in let ps = c.run_on.new.passes.items in let scripts = c.args.scripts.now in let new = c.in_ok-bench.ensures in
    let ls = c.in_ok-lengths.ensures ∙ ap lengths_in c.as_slice-all.ensures in
    let e = new.base ∙ ap (λ (l : List ℕ). record { case = c.args.case; budget = c.args.budget; lengths = l }) ls in
    let n : length ps ≡ length scripts = c.run_on.ensures.played.0 ∙ (new.passes.as_many ∙ (ap (λ (x : BaseView). length x.lengths) e ∙ lengths_many scripts)) in
    let played = subst (λ (s : List (List Command)). AllPlayed b s ps) c.as_slice-all.ensures c.run_on.ensures.played.1 in
    ok_both c.finish.result (λ j. HoldsAll ps j) (λ j. IsEnded b j) (λ j. IsLegalFor c.args.case c.args.budget scripts j)
    (λ j h d. (run_ends b c.args.case c.args.budget scripts ps j e n played (subst AreSpent (slice_is c.as_slice.result.now ps (search rules)) (c.are_spent.ensures (search rules))) c.legal_for_its_scripts.ensures h d).0) c.finish.ensures.passes c.finish.ensures.ended

pub returns-clause-complete : goal.returns-clause-complete
returns-clause-complete g c =
    let b = c.in_ok-bench.bench in let ps = c.run_on.new.passes.items in let scripts = c.args.scripts.now in let new = c.in_ok-bench.ensures in
    let ls = c.in_ok-lengths.ensures ∙ ap lengths_in c.as_slice-all.ensures in
    let e = new.base ∙ ap (λ (l : List ℕ). record { case = c.args.case; budget = c.args.budget; lengths = l }) ls in
    let n : length ps ≡ length scripts = c.run_on.ensures.played.0 ∙ (new.passes.as_many ∙ (ap (λ (x : BaseView). length x.lengths) e ∙ lengths_many scripts)) in
    let played = subst (λ (s : List (List Command)). AllPlayed b s ps) c.as_slice-all.ensures c.run_on.ensures.played.1 in
    ok_both c.finish.result (λ j. HoldsAll ps j) (λ j. IsEnded b j) (λ j. IsComplete scripts j)
    (λ j h d. (run_ends b c.args.case c.args.budget scripts ps j e n played (subst AreSpent (slice_is c.as_slice.result.now ps (search rules)) (c.are_spent.ensures (search rules))) c.legal_for_its_scripts.ensures h d).1) c.finish.ensures.passes c.finish.ensures.ended
