-- What later entries leave. This project's own.
use Rattle.std.specs.Prelude.{ℕ, List, ◌++◌}
use Rattle.ff_types.specs.declared.cases.Case.{Case}
use Rattle.ff_board.specs.declared.opening.Opening.{Opening}
use Rattle.ff_journal.specs.declared.entries.Entry.{Entry}
use Rattle.ff_desk.specs.Desks.{IsOpeningOf}

-- a board of an epoch stays one, whatever entries come after
abbrev pub OpeningsStay : Type 0
OpeningsStay = (case : Case) (journal more : List Entry) (e : ℕ) (o : Opening) → IsOpeningOf case journal e o
    → IsOpeningOf case (journal ++ more) e o
