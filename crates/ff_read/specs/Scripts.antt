-- What the calls give that read the scripts of viewers.
-- For the proofs of this crate alone.
use Rattle.std.specs.Prelude.{ℕ, ◌≡◌, ◌≤◌, List, length, map, Some, Vec}
use Rattle.std.specs.Borrow.{Bor}
use Rattle.std.specs.declared.alloc.Global.{Global}
use Rattle.serde_json.specs.Data.{Data}
use Rattle.serde_json.specs.View.{view}
use Rattle.serde_json.specs.declared.value.Value.{Value}
use Rattle.ff_types.specs.declared.refusals.No.{No}
use Rattle.ff_types.specs.declared.refusals.No.TheVariants.{Refused}
use Rattle.ff_types.specs.declared.refusals.No.TheVariants as no
use Rattle.ff_types.specs.declared.refusals.Refusal.TheVariants.{BadScript}
use Rattle.ff_viewer.specs.declared.commands.Command.{Command}
use Rattle.ff_read.specs.declared.benches.TheConstants.{MOST_VIEWERS}
use Rattle.ff_read.specs.declared.items.ItemNo.{ItemNo}
use Rattle.ff_read.specs.declared.items.ItemNo.TheVariants as item
use Rattle.ff_read.specs.Spelling.{all_of}
use Rattle.ff_read.specs.Refused.{IsFirstBad}
use Rattle.ff_read.specs.Benches.{AreFew, HaveFew, RefusesScripts, command_in, commands_in}

-- the lists of lent items, as data
abbrev pub seen_lists : List (Bor (List Value)) → List (List Data)
seen_lists lists = map (λ l. map view l.now) lists

-- those that a vector holds
abbrev pub seen_in : Vec (Bor (List Value)) Global → List (List Data)
seen_in v = seen_lists v.items

-- so few and so short that their items are counted
abbrev pub AreShort : List (List Data) → Type 0
AreShort viewers = (length viewers ≤ MOST_VIEWERS) × HaveFew viewers

-- why a viewer's commands weren't read
abbrev pub script_no : ℕ → ItemNo → No
script_no viewer (item.Bad i) = Refused (BadScript viewer i)
script_no viewer item.NoMemory = no.NoMemory

-- the commands of all scripts
abbrev pub AreScripts : List (List Data) → List (List Command) → Type 0
AreScripts viewers scripts = all_of commands_in viewers ≡ Some scripts

-- why they weren't read
abbrev pub AreScriptsNot : List (List Data) → No → Type 0
AreScriptsNot viewers (Refused r) = (v i : ℕ) × (b : IsFirstBad commands_in viewers v) × IsFirstBad command_in b.item i × (r ≡ BadScript v i)
AreScriptsNot viewers no.NoMemory = Unit {0}

-- the same within the limits
abbrev pub AreFewScripts : List (List Data) → List (List Command) → Type 0
AreFewScripts viewers scripts = AreFew viewers × AreScripts viewers scripts

-- why there are no scripts
abbrev pub AreFewScriptsNot : List (List Data) → No → Type 0
AreFewScriptsNot viewers (Refused r) = RefusesScripts viewers r
AreFewScriptsNot viewers no.NoMemory = Unit {0}
