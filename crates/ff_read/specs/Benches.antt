-- Which crease pattern and scripts a JSON object spells, and why it spells none. This project's own.
use Rattle.std.specs.Prelude.{ℕ, ◌≡◌, ◌<◌, ◌≤◌, ◌⊎◌, ◌^◌, List, [], ◌∷◌, length, codes, is_some, slice_get, sum_by, if◌then◌else◌, Option, None, Some, option_and_then}
use Rattle.std.specs.List.{list_all}
use Rattle.serde_json.specs.Data.{Data}
use Rattle.serde_json.specs.Find.{get, as_str}
use Rattle.ff_types.specs.declared.patterns.Pattern.{Pattern}
use Rattle.ff_types.specs.declared.refusals.Key.{Key}
use Rattle.ff_types.specs.declared.refusals.Key.TheVariants as key
use Rattle.ff_types.specs.declared.refusals.No.{No}
use Rattle.ff_types.specs.declared.refusals.No.TheVariants as no
use Rattle.ff_types.specs.declared.refusals.Refusal.{Refusal}
use Rattle.ff_types.specs.declared.refusals.Refusal.TheVariants.{BadKey, BadScript, NotJson, TooMany}
use Rattle.ff_types.specs.declared.refusals.What.TheVariants as what
use Rattle.ff_viewer.specs.declared.commands.Command.{Command}
use Rattle.ff_viewer.specs.Grammar.{command_of}
use Rattle.ff_read.specs.declared.benches.BenchInput.{BenchInput}
use Rattle.ff_read.specs.declared.benches.TheConstants.{MOST_COMMANDS, MOST_VIEWERS}
use Rattle.ff_read.specs.Spelling.{Keys, IsKeyed, AreSpelled, all_of, list_of, object_of}
use Rattle.ff_read.specs.Read.{HasFewItems}
use Rattle.ff_read.specs.Refused.{IsFirstBad, RefusesItems, RefusesKey}
use Rattle.ff_read.specs.Checks.{LiesUnder, fold_in}

-- ---- the scripts

-- the items, where all of them are strings
abbrev pub only_texts : List Data → Option (List Data)
only_texts ds = if list_all (λ d. is_some (as_str d)) ds then Some ds else None

-- the items of an array of strings
abbrev pub script_in : Data → Option (List Data)
script_in d = option_and_then only_texts (list_of d)

-- those of at least one
abbrev pub scripts_in : List Data → Option (List (List Data))
scripts_in [] = None
scripts_in (d ∷ ds) = all_of script_in (d ∷ ds)

-- under `viewers`, the items of the arrays of an array
abbrev pub viewers_in : Data → Option (List (List Data))
viewers_in d = option_and_then scripts_in (option_and_then list_of (get (codes "viewers") d))

-- the command that a string spells
abbrev pub command_in : Data → Option Command
command_in d = option_and_then command_of (as_str d)

-- the commands of a script
abbrev pub commands_in : List Data → Option (List Command)
commands_in ds = all_of command_in ds

-- how many items all lists have
abbrev pub total : {A : Type 0} → List (List A) → ℕ
total lists = sum_by length lists

-- no more viewers than may be, and no more commands of all
abbrev pub AreFew : {A : Type 0} → List (List A) → Type 0
AreFew lists = (length lists ≤ MOST_VIEWERS) × (total lists ≤ MOST_COMMANDS)

-- ---- what is read

-- the object spells the input
pub record IsBenchOf (d : Data) (input : BenchInput) : Type 0 where
  pub fold : Data
  pub there : fold_in d ≡ Some fold
  pub keys : Keys
  pub keyed : IsKeyed fold keys
  pub viewers : List (List Data)
  pub are_viewers : viewers_in d ≡ Some viewers
  pub spelled : AreSpelled keys input.pattern
  pub few : AreFew viewers
  pub scripts : all_of commands_in viewers ≡ Some input.scripts

-- the bytes are an object that does
pub record IsBench (bytes : List ℕ) (input : BenchInput) : Type 0 where
  pub object : Data
  pub read : object_of bytes ≡ Some object
  pub is : IsBenchOf object input

-- ---- the refusals, stage by stage

-- too many viewers, then too many commands, then the first script with a text that is no command, and its first such text
abbrev pub RefusesScripts : List (List Data) → Refusal → Type 0
RefusesScripts viewers r = ((MOST_VIEWERS < length viewers) × (r ≡ TooMany what.Viewers MOST_VIEWERS))
    ⊎ (((length viewers ≤ MOST_VIEWERS) × (MOST_COMMANDS < total viewers) × (r ≡ TooMany what.Commands MOST_COMMANDS))
    ⊎ (AreFew viewers × ((v i : ℕ) × (b : IsFirstBad commands_in viewers v) × IsFirstBad command_in b.item i × (r ≡ BadScript v i))))

-- an item of the crease pattern that isn't of its form or too many of them, then the scripts
abbrev pub RefusesMore : Keys → List (List Data) → Refusal → Type 0
RefusesMore keys viewers r = RefusesItems keys r ⊎ ((p : Pattern) × AreSpelled keys p × RefusesScripts viewers r)

-- the key `viewers` that is absent or not of its form, then what lies under the keys
abbrev pub RefusesViewers : Data → Keys → Refusal → Type 0
RefusesViewers d keys r = ((viewers_in d ≡ None) × (r ≡ BadKey key.Viewers))
    ⊎ ((viewers : List (List Data)) × (viewers_in d ≡ Some viewers) × RefusesMore keys viewers r)

-- a key of the crease pattern, then the others
abbrev pub RefusesUnder : Data → Data → Refusal → Type 0
RefusesUnder d fold r = ((k : Key) × RefusesKey fold k × (r ≡ BadKey k)) ⊎ ((keys : Keys) × IsKeyed fold keys × RefusesViewers d keys r)

-- the key `fold`, then the others
abbrev pub RefusesBench : Data → Refusal → Type 0
RefusesBench d r = ((fold_in d ≡ None) × (r ≡ BadKey key.Fold)) ⊎ ((fold : Data) × (fold_in d ≡ Some fold) × RefusesUnder d fold r)

-- no object, then what the object says
abbrev pub RefusesSession : List ℕ → Refusal → Type 0
RefusesSession bytes r = ((object_of bytes ≡ None) × (r ≡ NotJson)) ⊎ ((d : Data) × (object_of bytes ≡ Some d) × RefusesBench d r)

-- why no input was read of an object, or of bytes
abbrev pub IsNoBenchOf : Data → No → Type 0
IsNoBenchOf d (no.Refused r) = RefusesBench d r
IsNoBenchOf d no.NoMemory = Unit {0}

-- why there is no bench input
abbrev pub IsNoBench : List ℕ → No → Type 0
IsNoBench bytes (no.Refused r) = RefusesSession bytes r
IsNoBench bytes no.NoMemory = Unit {0}

-- ---- sizes

-- fewer than 2^32 items in each
abbrev pub HaveFew : List (List Data) → Type 0
HaveFew viewers = (v : ℕ) (script : List Data) → slice_get viewers v ≡ Some script → length script < 2 ^ 32

-- fewer than 2^32 items under each key
pub record HasFewScripts (d : Data) : Type 0 where
  pub fold : (fold : Data) → fold_in d ≡ Some fold → HasFewItems fold
  pub viewers : (ds : List Data) → LiesUnder (codes "viewers") d ds → length ds < 2 ^ 32
  pub scripts : (viewers : List (List Data)) → viewers_in d ≡ Some viewers → HaveFew viewers
