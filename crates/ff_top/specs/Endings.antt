-- How a run ends whose answer was prepared. This project's own.
-- For the proofs of this crate alone.
use Rattle.std.specs.Prelude.{◌≡◌, ◌⊎◌, ℕ, List, Option, Result, Ok, Err}
use Rattle.ff_top.specs.Transfer.{Got, GotFront, GotPart}
use Rattle.ff_top.specs.Writings.{text_of}
use Rattle.ff_top.specs.declared.outcome.Outcome.{Outcome}
use Rattle.ff_top.specs.declared.status.Status.{Status}
use Rattle.ff_top.specs.declared.status.Status.TheVariants as status
use Rattle.ff_top.specs.declared.transfer.ReadNo.{ReadNo}
use Rattle.ff_top.specs.declared.transfer.ReadNo.TheVariants.{Failed, NoMemory}

-- the whole text is written; or a part of it, where a fault was counted; or a front of it, where memory was refused
abbrev pub EndsWriting : Outcome → Option (List ℕ) → Option (List ℕ) → Type 0 → Status → Type 0
EndsWriting o before after rose s = ((s ≡ o.status) × Got before (text_of o.writing) after)
    ⊎ ((s ≡ status.WriteFault) × GotPart before (text_of o.writing) after × rose)
    ⊎ ((s ≡ status.NoMemory) × GotFront before (text_of o.writing) after)

-- nothing is written where nothing was prepared
abbrev pub Ends : Result Outcome ReadNo → Option (List ℕ) → Option (List ℕ) → Type 0 → Status → Type 0
Ends (Ok o) before after rose s = EndsWriting o before after rose s
Ends (Err Failed) before after rose s = (s ≡ status.ReadFault) × (after ≡ before)
Ends (Err NoMemory) before after rose s = (s ≡ status.NoMemory) × (after ≡ before)
