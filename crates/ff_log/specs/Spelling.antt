-- How the lines of a log are written. This project's own.
use Rattle.std.specs.Prelude.{◌≡◌, ◌<◌, ◌^◌, ℕ, List, [], ◌∷◌, length, map, codes}
use Rattle.std.specs.List.{All, join_with_byte}
use Rattle.std.specs.Fmt.{decimal, signed_decimal}
use Rattle.ff_tables.specs.declared.orders.Order.{Order}
use Rattle.ff_tables.specs.declared.orders.Order.TheVariants.{Below, Above}
use Rattle.ff_whole.specs.declared.places.Place.{Place}
use Rattle.ff_whole.specs.Sizes.{IsSmallPlace}
use Rattle.ff_types.specs.declared.cites.Cite.{Cite}
use Rattle.ff_types.specs.declared.cites.Cite.TheVariants.{Transitivity, TacoTaco, TacoFace, TacoEdge, FlatFace, FlatEdge}
use Rattle.ff_log.specs.declared.logs.LogLine.{LogLine}
use Rattle.ff_log.specs.declared.logs.LogLine.TheVariants as line

-- `above` or `below`
abbrev pub order_word : Order → List ℕ
order_word Above = codes "above"
order_word Below = codes "below"

-- `X,Y,W`
abbrev pub place_parts : Place → List (List ℕ)
place_parts p = signed_decimal p.x ∷ signed_decimal p.y ∷ signed_decimal p.w ∷ []

-- the three numbers of a place with commas between them
abbrev pub place_word : Place → List ℕ
place_word p = join_with_byte 44 (place_parts p)

-- an edge, `face T at`, and the places
abbrev pub with_face : ℕ → ℕ → List Place → List (List ℕ)
with_face e face at = decimal e ∷ codes "face" ∷ decimal face ∷ codes "at" ∷ map place_word at

-- an edge and `edge Q`
abbrev pub with_edge : ℕ → ℕ → List (List ℕ)
with_edge e k = decimal e ∷ codes "edge" ∷ decimal k ∷ []

-- what a cite is called, and what it names
abbrev pub cite_words : Cite → List (List ℕ)
cite_words (Transitivity f g h at) = codes "transitivity" ∷ decimal f ∷ decimal g ∷ decimal h ∷ codes "at" ∷ map place_word at
cite_words (TacoTaco e k) = codes "taco-taco" ∷ decimal e ∷ decimal k ∷ []
cite_words (TacoFace e face at) = codes "taco-tortilla" ∷ with_face e face at
cite_words (TacoEdge e flat) = codes "taco-tortilla" ∷ with_edge e flat
cite_words (FlatFace flat face at) = codes "tortilla-tortilla" ∷ with_face flat face at
cite_words (FlatEdge flat flat2) = codes "tortilla-tortilla" ∷ with_edge flat flat2

-- the words of a line
abbrev pub words_of : LogLine → List (List ℕ)
words_of (line.Use c) = codes "use" ∷ cite_words c
words_of (line.Crease e) = codes "crease" ∷ decimal e ∷ []
words_of (line.Pin i) = codes "pin" ∷ decimal i ∷ []
words_of (line.Force f g value by) = codes "force" ∷ decimal f ∷ decimal g ∷ order_word value ∷ decimal by ∷ []
words_of (line.Try f g value) = codes "try" ∷ decimal f ∷ decimal g ∷ order_word value ∷ []
words_of (line.Dead k) = codes "dead" ∷ decimal k ∷ []
words_of (line.Clash f g) = codes "clash" ∷ decimal f ∷ decimal g ∷ []

-- The words of the line, with a single space between each two.
abbrev pub spelling : LogLine → List ℕ
spelling l = join_with_byte 32 (words_of l)

-- ---- which values are lines

-- so many places, each of a size whose side may be asked
pub record ArePlaces (n : ℕ) (at : List Place) : Type 0 where
  pub count : length at ≡ n
  pub small : All IsSmallPlace at

-- the numbers are below 2^32, and the cite has its places
abbrev pub IsCite : Cite → Type 0
IsCite (Transitivity f g h at) = (f < 2 ^ 32) × (g < 2 ^ 32) × (h < 2 ^ 32) × ArePlaces 3 at
IsCite (TacoTaco e k) = (e < 2 ^ 32) × (k < 2 ^ 32)
IsCite (TacoFace e face at) = (e < 2 ^ 32) × (face < 2 ^ 32) × ArePlaces 2 at
IsCite (TacoEdge e flat) = (e < 2 ^ 32) × (flat < 2 ^ 32)
IsCite (FlatFace flat face at) = (flat < 2 ^ 32) × (face < 2 ^ 32) × ArePlaces 2 at
IsCite (FlatEdge flat flat2) = (flat < 2 ^ 32) × (flat2 < 2 ^ 32)

-- the numbers of the line are below 2^32, and its cite is one
abbrev pub IsLine : LogLine → Type 0
IsLine (line.Use c) = IsCite c
IsLine (line.Crease e) = e < 2 ^ 32
IsLine (line.Pin i) = i < 2 ^ 32
IsLine (line.Force f g value by) = (f < 2 ^ 32) × (g < 2 ^ 32) × (by < 2 ^ 32)
IsLine (line.Try f g value) = (f < 2 ^ 32) × (g < 2 ^ 32)
IsLine (line.Dead k) = k < 2 ^ 32
IsLine (line.Clash f g) = (f < 2 ^ 32) × (g < 2 ^ 32)
