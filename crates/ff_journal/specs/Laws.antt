-- How a journal goes on. This project's own.
use Rattle.std.specs.Prelude.{◌≡◌, ◌↔◌, ℕ, ◌+◌, List, [], ◌∷◌, ◌++◌, Some, IsTrue}
use Rattle.ff_tables.specs.declared.orders.Order.{Order}
use Rattle.ff_types.specs.declared.cases.Case.{Case}
use Rattle.ff_viewer.specs.declared.commands.Command.{Command}
use Rattle.ff_journal.specs.declared.entries.Entry.{Entry}
use Rattle.ff_journal.specs.Epochs.{held_by, is_in_force, last_begun}
use Rattle.ff_journal.specs.Publications.{published}
use Rattle.ff_journal.specs.Journals.{Follows, IsLegal, IsLegalFor, IsComplete, commands_of, script_of}

-- an entry that follows a legal journal makes it a longer one
abbrev pub LegalGrows : Type 0
LegalGrows = (case : Case) (budget : ℕ) (j : List Entry) (e : Entry) → IsLegal case budget j → Follows case budget j e
    → IsLegal case budget (j ++ e ∷ [])

-- a legal journal is legal for the scripts that it shows, and complete for them where each epoch begun is published
abbrev pub LegalForItsScripts : Type 0
LegalForItsScripts = (case : Case) (budget : ℕ) (scripts : List (List Command)) (j : List Entry) → IsLegal case budget j
    → ((viewer : ℕ) → commands_of viewer j ≡ script_of scripts viewer)
    → IsLegalFor case budget scripts j × (published j ≡ last_begun j + 1 → IsComplete scripts j)

-- an order is in force on a pair after some changes exactly where a viewer holds it then
abbrev pub OrdersInForceAreHeld : Type 0
OrdersInForceAreHeld = (made : List Entry) (p : ℕ × ℕ) (s : Order) → IsTrue (is_in_force made p s)
    ↔ ((viewer : ℕ) × (held_by viewer made p ≡ Some s))
