-- The drawing of the lines that bytes spell, and why there is none. This project's own.
use Rattle.std.specs.Prelude.{◌≡◌, ◌⊎◌, ℕ, ◌<◌, ◌≤◌, List, length}
use Rattle.ff_types.specs.declared.limits.TheConstants.{MOST_BYTES}
use Rattle.ff_types.specs.declared.patterns.Pattern.{Pattern}
use Rattle.ff_types.specs.declared.refusals.No.{No}
use Rattle.ff_types.specs.declared.refusals.No.TheVariants as no
use Rattle.ff_types.specs.declared.refusals.Refusal.{Refusal}
use Rattle.ff_types.specs.declared.refusals.Refusal.TheVariants.{TooLong}
use Rattle.ff_lines.specs.declared.items.LineItem.{LineItem}
use Rattle.ff_lines.specs.Drawings.{IsDrawn, WhyNotDrawn}
use Rattle.ff_lined.specs.Reading.{AreLinesIn, RefusesLines}

-- the bytes, not too many, spell lines whose drawing is the pattern
pub record DrawsLines (bytes : List ℕ) (pattern : Pattern) : Type 0 where
  pub within : length bytes ≤ MOST_BYTES
  pub lines : List LineItem
  pub read : AreLinesIn bytes lines
  pub drawn : IsDrawn lines pattern

-- they spell lines that aren't drawn
pub record StopsLines (bytes : List ℕ) (r : Refusal) : Type 0 where
  pub lines : List LineItem
  pub read : AreLinesIn bytes lines
  pub refused : WhyNotDrawn lines (no.Refused r)

-- exactly where a refusal comes: too many bytes, or no lines that they spell, or lines that aren't drawn
abbrev pub IsRefused : List ℕ → Refusal → Type 0
IsRefused bytes r = ((MOST_BYTES < length bytes) × (r ≡ TooLong))
    ⊎ ((length bytes ≤ MOST_BYTES) × (RefusesLines bytes r ⊎ StopsLines bytes r))

-- why there is no drawing: the refusal, or no memory
abbrev pub WhyNoDrawing : List ℕ → No → Type 0
WhyNoDrawing bytes (no.Refused r) = IsRefused bytes r
WhyNoDrawing bytes no.NoMemory = Unit {0}
