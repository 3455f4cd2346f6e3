-- Which texts are the lines of a log, and which text is the first that isn't one. This project's own.
use Rattle.std.specs.Prelude.{◌≡◌, ◌<◌, ◌⊎◌, ℕ, List, [], length, map, slice_index_or, Result, Ok, Err}
use Rattle.std.specs.List.{All}
use Rattle.ff_log.specs.Spelling.{IsLine, spelling}
use Rattle.ff_log.specs.declared.logs.Log.{Log}
use Rattle.ff_log.specs.declared.logs.LogLine.{LogLine}
use Rattle.ff_log.specs.declared.reading.LogNo.{LogNo}
use Rattle.ff_log.specs.declared.reading.LogNo.TheVariants as no

-- the texts are the lines, in their order
pub record SpellLines (texts : List (List ℕ)) (lines : List LogLine) : Type 0 where
  pub are_lines : All IsLine lines
  pub are_spelled : texts ≡ map spelling lines

-- the text is that of a line
abbrev pub IsSpelled : List ℕ → Type 0
IsSpelled text = (l : LogLine) × IsLine l × (text ≡ spelling l)

-- text i is that of no line, and each one before it is that of a line
pub record IsFirstBad (texts : List (List ℕ)) (i : ℕ) : Type 0 where
  pub within : i < length texts
  pub bad : IsSpelled (slice_index_or texts i []) → ⊥
  pub before : (k : ℕ) → k < i → IsSpelled (slice_index_or texts k [])

-- why the texts weren't read
abbrev pub AreNoLog : List (List ℕ) → LogNo → Type 0
AreNoLog texts (no.BadLog i) = IsFirstBad texts i
AreNoLog texts no.NoMemory = Unit {0}

-- these lines and no others, unless memory was refused
abbrev pub Gives : List LogLine → Result Log LogNo → Type 0
Gives lines (Ok log) = log.lines ≡ lines
Gives lines (Err no.NoMemory) = Unit {0}
Gives lines (Err (no.BadLog i)) = ⊥

-- Texts are the lines of one log or have one first text that is no line, never both, and always one of these.
pub record TextsAreOne : Type 0 where
  pub lines : (texts : List (List ℕ)) (ls ks : List LogLine) → SpellLines texts ls → SpellLines texts ks → ls ≡ ks
  pub bad : (texts : List (List ℕ)) (i k : ℕ) → IsFirstBad texts i → IsFirstBad texts k → i ≡ k
  pub not_both : (texts : List (List ℕ)) (ls : List LogLine) (i : ℕ) → SpellLines texts ls → IsFirstBad texts i → ⊥
  pub some : (texts : List (List ℕ)) → ((ls : List LogLine) × SpellLines texts ls) ⊎ ((i : ℕ) × IsFirstBad texts i)
