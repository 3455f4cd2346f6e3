-- What the words ask for: the job that they name, and how much input is read for it. This project's own.
use Rattle.std.specs.Prelude.{ℕ, ◌<◌, ◌≤◌, List, Option, None, Some}
use Rattle.ff_types.specs.declared.limits.TheConstants.{MOST_BYTES}
use Rattle.ff_judged.specs.declared.judging.TheConstants.{MOST_CHECK_BYTES}
use Rattle.ff_words.specs.declared.jobs.Job.{Job}
use Rattle.ff_words.specs.declared.jobs.Job.TheVariants.{Solve, Check, Bench, Lines, Make}
use Rattle.ff_words.specs.Form.{job_named}
use Rattle.ff_top.specs.declared.asking.Asked.{Asked}

-- the budget of turns and the workers of a job of a workbench
abbrev pub bench_asked : Option Job → Option Asked
bench_asked None = None
bench_asked (Some (Solve budget)) = None
bench_asked (Some Check) = None
bench_asked (Some (Bench budget workers)) = Some (record { budget = budget; workers = workers })
bench_asked (Some Lines) = None
bench_asked (Some (Make count budget)) = None

-- at most a thousand million turns, and from 1 to 16 workers
abbrev pub AreWithin : Asked → Type 0
AreWithin a = (a.budget ≤ 1000000000) × ((0 < a.workers) × (a.workers ≤ 16))

-- the most bytes of input that are read for a job, None where nothing is read for it; the first argument says it for a workbench
abbrev pub most_read : Option ℕ → Option Job → Option ℕ
most_read bench None = None
most_read bench (Some (Solve budget)) = Some MOST_BYTES
most_read bench (Some Check) = Some MOST_CHECK_BYTES
most_read bench (Some (Bench budget workers)) = bench
most_read bench (Some Lines) = Some MOST_BYTES
most_read bench (Some (Make count budget)) = None

-- the same for the words of `run_alone`, which reads nothing for `bench`, and for those of `run`
abbrev pub limit_alone : List (List ℕ) → Option ℕ
limit_alone words = most_read None (job_named words)

-- how many bytes are read for these words
abbrev pub limit : List (List ℕ) → Option ℕ
limit words = most_read (Some MOST_BYTES) (job_named words)
