-- The exit status of each way in which a run ends. This project's own.
-- For the proofs of this crate alone.
use Rattle.std.specs.Prelude.{ℕ}
use Rattle.ff_top.specs.declared.status.Status.{Status}
use Rattle.ff_top.specs.declared.status.Status.TheVariants.{Done, Impossible, Refused, Unfinished, ReadFault, WriteFault, NoMemory, Usage}

-- the exit status of the process
abbrev pub number_of : Status → ℕ
number_of Done = 0
number_of Impossible = 1
number_of Refused = 2
number_of Unfinished = 3
number_of ReadFault = 4
number_of WriteFault = 5
number_of NoMemory = 6
number_of Usage = 7
