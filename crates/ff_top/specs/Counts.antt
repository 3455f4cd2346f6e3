-- The counts of the jobs that words name.
-- For the proofs of this crate alone.
use Rattle.std.specs.Prelude.{ℕ, ◌<◌, ◌≤◌, Option, Some}
use Rattle.ff_words.specs.declared.jobs.Job.{Job}
use Rattle.ff_words.specs.declared.jobs.Job.TheVariants.{Make}

-- the count of a job of making is from 1 to 400
abbrev pub HasCount : Option Job → Type 0
HasCount (Some (Make count budget)) = (0 < count) × (count ≤ 400)
HasCount _ = Unit {0}
