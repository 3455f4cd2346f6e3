-- Which line, cite or place words write.
-- For the proofs of this crate alone.
use Rattle.std.specs.Prelude.{◌^◌, ◌==◌, ◌&&◌, ℕ, ℤ, pos, List, [], ◌∷◌, Option, Some, None, codes}
use Rattle.std.specs.Prelude.{if◌then◌else◌, option_map, option_and_then}
use Rattle.std.specs.List.{slice_split}
use Rattle.std.specs.Str.{bytes_eq}
use Rattle.ff_tables.specs.declared.orders.Order.{Order}
use Rattle.ff_tables.specs.declared.orders.Order.TheVariants.{Below, Above}
use Rattle.ff_whole.specs.declared.sizes.TheConstants.{PLACE_SIZE, PLACE_WEIGHT}
use Rattle.ff_whole.specs.declared.places.Place.{Place}
use Rattle.ff_types.specs.declared.cites.Cite.{Cite}
use Rattle.ff_types.specs.declared.cites.Cite.TheVariants.{Transitivity, TacoTaco, TacoFace, TacoEdge, FlatFace, FlatEdge}
use Rattle.ff_log.specs.Numbers.{number_of, signed_of}
use Rattle.ff_log.specs.Spelling.{place_word}
use Rattle.ff_log.specs.declared.cites.Beside.{Beside}
use Rattle.ff_log.specs.declared.cites.Beside.TheVariants as beside
use Rattle.ff_log.specs.declared.logs.LogLine.{LogLine}
use Rattle.ff_log.specs.declared.logs.LogLine.TheVariants as line

-- ---- places behind other words

-- a space, and then the place
abbrev pub spaced : Place → List ℕ
spaced p = 32 ∷ place_word p

-- ---- words

-- the order that a word says
abbrev pub order_of : List ℕ → Option Order
order_of t = if bytes_eq t (codes "above") then Some Above else (if bytes_eq t (codes "below") then Some Below else None)

-- the number below 2^32 that a word spells
abbrev pub number : List ℕ → Option ℕ
number = number_of (2 ^ 32)

-- the weight of a place that a word spells, above zero
abbrev pub weight : List ℕ → Option ℤ
weight t = option_and_then (λ n. if n == 0 then None else Some (pos n)) (number_of PLACE_WEIGHT t)

-- the place that three words spell
abbrev pub place_by : List (List ℕ) → Option Place
place_by (x ∷ y ∷ w ∷ []) =
    option_and_then (λ a. option_and_then (λ b. option_map (λ c. record { x = a; y = b; w = c }) (weight w)) (signed_of PLACE_SIZE y)) (signed_of PLACE_SIZE x)
place_by _ = None

-- the place that a word with two commas spells
abbrev pub place_of : List ℕ → Option Place
place_of t = place_by (slice_split (λ b. b == 44) t)

-- the one number that the words are
abbrev pub alone : List (List ℕ) → Option ℕ
alone (e ∷ []) = number e
alone _ = None

-- what is made of the two numbers that the words are
abbrev pub two_numbers : {A : Type 0} → (ℕ → ℕ → A) → List (List ℕ) → Option A
two_numbers make (f ∷ g ∷ []) = option_and_then (λ a. option_map (λ b. make a b) (number g)) (number f)
two_numbers make _ = None

-- ---- cites

-- a transitivity of three faces and three places
abbrev pub three_at : List ℕ → List ℕ → List ℕ → Option Place → Option Place → Option Place → Option Cite
three_at f g h p q r = option_and_then (λ a. option_and_then (λ b. option_and_then (λ c. option_and_then (λ u. option_and_then (λ v.
    option_map (λ w. Transitivity a b c (u ∷ v ∷ w ∷ [])) r) q) p) (number h)) (number g)) (number f)

-- the same from its words
abbrev pub three_words : List ℕ → List ℕ → List ℕ → List ℕ → List ℕ → List ℕ → List ℕ → Option Cite
three_words f g h a p q r = if bytes_eq a (codes "at") then three_at f g h (place_of p) (place_of q) (place_of r) else None

-- the transitivity that the words name
abbrev pub transitivity_by : List (List ℕ) → Option Cite
transitivity_by (f ∷ g ∷ h ∷ a ∷ p ∷ q ∷ r ∷ []) = three_words f g h a p q r
transitivity_by _ = None

-- an edge inside a face between two places
abbrev pub face_at : List ℕ → List ℕ → Option Place → Option Place → Option Beside
face_at e f p q = option_and_then (λ m. option_and_then (λ n. option_and_then (λ u. option_map (λ v. beside.Face m n (u ∷ v ∷ [])) q) p) (number f)) (number e)

-- the same from its words
abbrev pub face_words : List ℕ → List ℕ → List ℕ → List ℕ → List ℕ → List ℕ → Option Beside
face_words e k f a p q =
    if bytes_eq k (codes "face") && bytes_eq a (codes "at") then face_at e f (place_of p) (place_of q) else None

-- an edge beside an edge
abbrev pub edge_at : List ℕ → List ℕ → Option Beside
edge_at e f = option_and_then (λ m. option_map (λ n. beside.Edge m n) (number f)) (number e)

-- the same from its words
abbrev pub edge_words : List ℕ → List ℕ → List ℕ → Option Beside
edge_words e k f = if bytes_eq k (codes "edge") then edge_at e f else None

-- what the words say to lie beside an edge
abbrev pub beside_by : List (List ℕ) → Option Beside
beside_by (e ∷ k ∷ f ∷ []) = edge_words e k f
beside_by (e ∷ k ∷ f ∷ a ∷ p ∷ q ∷ []) = face_words e k f a p q
beside_by _ = None

-- what runs along or into a folded edge, and a flat one
abbrev pub taco_cite : Beside → Cite
taco_cite (beside.Face e face at) = TacoFace e face at
taco_cite (beside.Edge e other) = TacoEdge e other

-- the same for a flat edge
abbrev pub flat_cite : Beside → Cite
flat_cite (beside.Face e face at) = FlatFace e face at
flat_cite (beside.Edge e other) = FlatEdge e other

-- the cite of this family that the words name
abbrev pub cite_words_by : List ℕ → List (List ℕ) → Option Cite
cite_words_by w ws =
    if bytes_eq w (codes "transitivity") then transitivity_by ws
    else (if bytes_eq w (codes "taco-taco") then two_numbers (λ e k. TacoTaco e k) ws
    else (if bytes_eq w (codes "taco-tortilla") then option_map taco_cite (beside_by ws)
    else (if bytes_eq w (codes "tortilla-tortilla") then option_map flat_cite (beside_by ws) else None)))

-- the cite that the words name
abbrev pub cite_by : List (List ℕ) → Option Cite
cite_by [] = None
cite_by (w ∷ ws) = cite_words_by w ws

-- ---- lines

-- the `try` that the words name
abbrev pub try_by : List (List ℕ) → Option LogLine
try_by (f ∷ g ∷ v ∷ []) =
    option_and_then (λ a. option_and_then (λ b. option_map (λ o. line.Try a b o) (order_of v)) (number g)) (number f)
try_by _ = None

-- the `force` that the words name
abbrev pub force_by : List (List ℕ) → Option LogLine
force_by (f ∷ g ∷ v ∷ k ∷ []) =
    option_and_then (λ a. option_and_then (λ b. option_and_then (λ o. option_map (λ c. line.Force a b o c) (number k)) (order_of v)) (number g)) (number f)
force_by _ = None

-- the lines that declare nothing
abbrev pub plain_by : List ℕ → List (List ℕ) → Option LogLine
plain_by w ws =
    if bytes_eq w (codes "crease") then option_map (λ e. line.Crease e) (alone ws)
    else (if bytes_eq w (codes "pin") then option_map (λ i. line.Pin i) (alone ws)
    else (if bytes_eq w (codes "dead") then option_map (λ k. line.Dead k) (alone ws)
    else (if bytes_eq w (codes "clash") then two_numbers (λ f g. line.Clash f g) ws
    else (if bytes_eq w (codes "try") then try_by ws
    else (if bytes_eq w (codes "force") then force_by ws else None)))))

-- the line with this first word
abbrev pub line_words : List ℕ → List (List ℕ) → Option LogLine
line_words w ws = if bytes_eq w (codes "use") then option_map (λ c. line.Use c) (cite_by ws) else plain_by w ws

-- the line that the words are
abbrev pub line_by : List (List ℕ) → Option LogLine
line_by [] = None
line_by (w ∷ ws) = line_words w ws

-- the line that a text is: its words are parted by single spaces
abbrev pub line_of : List ℕ → Option LogLine
line_of t = line_by (slice_split (λ b. b == 32) t)
