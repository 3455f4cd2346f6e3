-- Geometric stackings: those in which no paper crosses. Non-crossing connections at the two sides of a border place.
use Rattle.std.specs.Prelude.{◌≡◌, ℕ, ◌<◌, ◌⊎◌, Bool, List, [], ◌∷◌, ◌++◌, map, reverse, length, get_or, Option, Some, if◌then◌else◌}
use Rattle.std.specs.List.{Contains}
use Rattle.ff_whole.specs.declared.places.Place.{Place}
use Rattle.ff_types.specs.declared.patterns.Mark.{Mark}
use Rattle.ff_types.specs.declared.patterns.Mark.TheVariants.{B}
use Rattle.ff_types.specs.Sheets.{Sheet, edges_of, mark_of, left_face, right_face}
use Rattle.ff_types.specs.Inside.{over}
use Rattle.ff_types.specs.Borders.{IsPlainBorder, is_on}
use Rattle.ff_types.specs.Covering.{covers_left, left_faces, right_faces}
use Rattle.ff_types.specs.Stackings.{IsStacking, IsListing}

-- a face's entry in the left list, or in the right list
pub data Side : Type 0 where
  Left : ℕ → Side
  Right : ℕ → Side

-- the left list upwards and then the right list downwards, round a circle
abbrev pub circle : List ℕ → List ℕ → List Side
circle left right = map Left left ++ map Right (reverse right)

-- the entry of a face of an edge that holds the place: the face covers one side
abbrev pub entry : Sheet → ℕ → Place → ℕ → Side
entry g e s f = if covers_left g e s f then Left f else Right f

-- a face with the place inside goes from its left to its right entry
abbrev pub face_chord : ℕ → Side × Side
face_chord f = (Left f, Right f)

-- an edge there that isn't a border edge goes between the entries of its two faces
abbrev pub edge_chord : Sheet → ℕ → Place → Mark → Option ℕ → Option ℕ → List (Side × Side)
edge_chord g e s B _ _ = []
edge_chord g e s _ (Some f) (Some h) = (entry g e s f, entry g e s h) ∷ []
edge_chord g e s _ _ _ = []

-- the chords of those of the edges that hold the place
abbrev pub edge_chords : Sheet → ℕ → Place → List ℕ → List (Side × Side)
edge_chords g e s [] = []
edge_chords g e s (k ∷ rest) = (if is_on g k s then edge_chord g e s (mark_of g k) (left_face g k) (right_face g k) else []) ++ edge_chords g e s rest

-- all chords at a place of an edge: of the faces over it, and of the edges through it
abbrev pub chords : Sheet → ℕ → Place → List (Side × Side)
chords g e s = map face_chord (over g s) ++ edge_chords g e s (edges_of g)

-- of three places of a list, the third is between the first two, or outside them
abbrev pub Between : ℕ → ℕ → ℕ → Type 0
Between p q r = ((p < r) × (r < q)) ⊎ ((q < r) × (r < p))

-- the number isn't between the two
abbrev pub Outside : ℕ → ℕ → ℕ → Type 0
Outside p q r = ((r < p) × (r < q)) ⊎ ((p < r) × (q < r))

-- the entry stands at this place of the circle
pub record StandsAt (circ : List Side) (p : ℕ) (x : Side) : Type 0 where
  pub inside : p < length circ
  pub there : get_or circ p x ≡ x

-- The chords alternate: one end of the second is between the ends of the first, the other isn't.
pub record Alternate (circ : List Side) (c d : Side × Side) : Type 0 where
  pub p : ℕ
  pub q : ℕ
  pub r : ℕ
  pub t : ℕ
  pub c_first : StandsAt circ p c.0
  pub c_second : StandsAt circ q c.1
  pub d_first : StandsAt circ r d.0
  pub d_second : StandsAt circ t d.1
  pub across : (Between p q r × Outside p q t) ⊎ (Outside p q r × Between p q t)

-- no two chords alternate, however the two sides are listed
abbrev pub IsUncrossed : Sheet → (ℕ → ℕ → Bool) → ℕ → Place → Type 0
IsUncrossed g above e s = (left right : List ℕ) → IsListing above (left_faces g e s) left
    → IsListing above (right_faces g e s) right
    → (c d : Side × Side) → Contains (chords g e s) c → Contains (chords g e s) d
    → Alternate (circle left right) c d → ⊥

-- a stacking in which no paper crosses paper at any plain border place
pub record IsGeometricStacking (g : Sheet) (above : ℕ → ℕ → Bool) : Type 0 where
  pub stacking : IsStacking g above
  pub uncrossed : (e : ℕ) (s : Place) → IsPlainBorder g e s → IsUncrossed g above e s
