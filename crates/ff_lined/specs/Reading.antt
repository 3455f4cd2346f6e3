-- Which lines a JSON object spells, and why it spells none. This project's own.
use Rattle.std.specs.Prelude.{ℕ, ◌≡◌, ◌<◌, ◌≤◌, ◌^◌, ℤ, List, [], ◌∷◌, length, codes, nat_lt, if◌then◌else◌, ◌&&◌, unsigned_abs, Option, None, Some, option_and_then}
use Rattle.std.specs.Ordering.{int_eq}
use Rattle.serde_json.specs.Data.{Data}
use Rattle.serde_json.specs.Find.{get}
use Rattle.ff_whole.specs.declared.sizes.TheConstants.{POINT_SIZE}
use Rattle.ff_types.specs.declared.patterns.Mark.{Mark}
use Rattle.ff_types.specs.declared.refusals.Key.TheVariants as key
use Rattle.ff_types.specs.declared.refusals.No.{No}
use Rattle.ff_types.specs.declared.refusals.No.TheVariants as no
use Rattle.ff_types.specs.declared.refusals.Refusal.{Refusal}
use Rattle.ff_types.specs.declared.refusals.Refusal.TheVariants.{BadKey, BadLine, NotJson, TooMany}
use Rattle.ff_types.specs.declared.refusals.What.TheVariants as what
use Rattle.ff_read.specs.Refused.{IsFirstBad}
use Rattle.ff_read.specs.Spelling.{all_of, list_of, mark_of, object_of, whole}
use Rattle.ff_lines.specs.declared.items.LineItem.{LineItem}
use Rattle.ff_lines.specs.declared.items.TheConstants.{MOST_LINES}

-- ---- the lines

-- a whole number below the limit of coordinates in size
abbrev pub coordinate : Data → Option ℤ
coordinate d = option_and_then (λ z. if nat_lt (unsigned_abs z) POINT_SIZE then Some z else None) (whole d)

-- the line with these ends, where they are two points
abbrev pub line_between : ℤ → ℤ → ℤ → ℤ → Mark → Option LineItem
line_between a b c d mark = if int_eq a c && int_eq b d then None else Some (record { p = record { x = a; y = b }; q = record { x = c; y = d }; mark = mark })

-- `[x1, y1, x2, y2, "M"]`
abbrev pub line_in : List Data → Option LineItem
line_in (x ∷ y ∷ z ∷ w ∷ m ∷ []) =
    option_and_then (λ a. option_and_then (λ b. option_and_then (λ c. option_and_then (λ d. option_and_then (λ mark. line_between a b c d mark)
    (mark_of m)) (coordinate w)) (coordinate z)) (coordinate y)) (coordinate x)
line_in ds = None

-- the line that an array spells
abbrev pub line_of : Data → Option LineItem
line_of d = option_and_then line_in (list_of d)

-- the items under `lines`
abbrev pub lines_in : Data → Option (List Data)
lines_in d = option_and_then list_of (get (codes "lines") d)

-- fewer than 2^32 of them
abbrev pub HasFewLines : Data → Type 0
HasFewLines d = (ds : List Data) → lines_in d ≡ Some ds → length ds < 2 ^ 32

-- ---- what is read

-- the object spells the lines, which are within the limit
pub record AreLinesOf (d : Data) (lines : List LineItem) : Type 0 where
  pub items : List Data
  pub there : lines_in d ≡ Some items
  pub spelled : all_of line_of items ≡ Some lines
  pub few : length lines ≤ MOST_LINES

-- the bytes are an object that does
pub record AreLinesIn (bytes : List ℕ) (lines : List LineItem) : Type 0 where
  pub object : Data
  pub read : object_of bytes ≡ Some object
  pub is : AreLinesOf object lines

-- ---- the refusals

-- the key, then the first item that spells no line, then too many of them
abbrev pub RefusesLinesOf : Data → Refusal → Type 0
RefusesLinesOf d (BadKey key.Lines) = lines_in d ≡ None
RefusesLinesOf d (BadLine i) = (ds : List Data) × (lines_in d ≡ Some ds) × IsFirstBad line_of ds i
RefusesLinesOf d (TooMany what.Lines limit) = (ds : List Data) × (lines : List LineItem) × (lines_in d ≡ Some ds) × (all_of line_of ds ≡ Some lines) × (MOST_LINES < length lines) × (limit ≡ MOST_LINES)
RefusesLinesOf d r = ⊥

-- bytes that are no object, or an object that is refused
abbrev pub RefusesLines : List ℕ → Refusal → Type 0
RefusesLines bytes NotJson = object_of bytes ≡ None
RefusesLines bytes r = (d : Data) × (object_of bytes ≡ Some d) × RefusesLinesOf d r

-- why no lines were read of an object, or of bytes
abbrev pub WhyNoLinesOf : Data → No → Type 0
WhyNoLinesOf d (no.Refused r) = RefusesLinesOf d r
WhyNoLinesOf d no.NoMemory = Unit {0}

abbrev pub WhyNoLines : List ℕ → No → Type 0
WhyNoLines bytes (no.Refused r) = RefusesLines bytes r
WhyNoLines bytes no.NoMemory = Unit {0}
