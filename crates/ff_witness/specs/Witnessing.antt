-- When places witness a ring, edge by edge.
-- For the proofs of this crate alone.
use Rattle.std.specs.Prelude.{ℕ, ◌<◌, pos, ◌<ℤ◌, ◌≤ℤ◌, ◌-ℤ◌, ◌*ℤ◌, ◌+ℤ◌, Bool, true, false, List, length, slice_index_or, Option, Some, None}
use Rattle.ff_whole.specs.declared.points.Pt.{Pt}
use Rattle.ff_whole.specs.declared.lines.Line.{Line}
use Rattle.ff_whole.specs.declared.places.Place.{Place}
use Rattle.ff_whole.specs.Convex.{point_at}
use Rattle.ff_whole.specs.Places.{height, through}
use Rattle.ff_types.specs.Rings.{corner, after}
use Rattle.ff_types.specs.Foldings.{is_up}
use Rattle.ff_types.specs.declared.cites.Cite.{Cite}
use Rattle.ff_types.specs.declared.cites.Cite.TheVariants.{Transitivity, TacoTaco, TacoFace, TacoEdge, FlatFace, FlatEdge}

-- the line through two vertices of a face that lies up or down, with the inner side on its left
abbrev pub inner_line : List Pt → Bool → ℕ → ℕ → Line
inner_line points true u v = through (point_at points u) (point_at points v)
inner_line points false u v = through (point_at points v) (point_at points u)

-- the line of the ring's edge at a place
abbrev pub border_line : List Pt → Bool → List ℕ → ℕ → Line
border_line points up ring k = inner_line points up (corner ring k) (after ring k)

-- the k-th place, and no place past the end
abbrev pub place_at : List Place → ℕ → Place
place_at places k = slice_index_or places k (record { x = pos 0; y = pos 0; w = pos 0 })

-- none of the places is right of the line, and one is left of it
pub record IsWitnessOver (line : Line) (places : List Place) : Type 0 where
  pub none : (k : ℕ) → k < length places → pos 0 ≤ℤ height line (place_at places k)
  pub number : ℕ
  pub there : number < length places
  pub left : pos 0 <ℤ height line (place_at places number)

-- so it is over the inner lines of the first n edges of the ring
abbrev pub IsWitnessTo : List Pt → Bool → List ℕ → ℕ → List Place → Type 0
IsWitnessTo points up ring n places = (k : ℕ) → k < n → IsWitnessOver (border_line points up ring k) places

-- the face shows its upper side; so does no face
abbrev pub is_up_in : List Bool → Option ℕ → Bool
is_up_in up (Some f) = is_up up f
is_up_in up None = true

-- the line through p across the way to q: what is past p is on its left
abbrev pub across_line : Pt → Pt → Line
across_line p q = record { a = q.x -ℤ p.x; b = q.y -ℤ p.y; c = ((q.x -ℤ p.x) *ℤ p.x) +ℤ ((q.y -ℤ p.y) *ℤ p.y) }

-- the edges that the cite names have numbers below n
abbrev pub HasEdges : ℕ → Cite → Type 0
HasEdges n (Transitivity f h k at) = Unit {0}
HasEdges n (TacoTaco e k) = (e < n) × (k < n)
HasEdges n (TacoFace e face at) = e < n
HasEdges n (TacoEdge e flat) = (e < n) × (flat < n)
HasEdges n (FlatFace flat face at) = flat < n
HasEdges n (FlatEdge flat flat2) = (flat < n) × (flat2 < n)
