-- How the list is made, family by family, from the edges that run along each other and those that run inside
-- faces.
-- For the proofs of this crate alone.
use Rattle.std.specs.Prelude.{◌≡◌, ℕ, ◌<◌, Bool, ◌&&◌, List, ◌++◌, map, if◌then◌else◌, nat_lt, Option, Some, None, option_map}
use Rattle.std.specs.declared.cmp.Ordering.{Ordering}
use Rattle.std.specs.Ordering.{ordering_then, nat_cmp}
use Rattle.std.specs.List.{All, filter_map, list_all}
use Rattle.std.specs.List.Sorted.{IsPermutation, IsSorted}
use Rattle.ff_whole.specs.declared.points.Pt.{Pt}
use Rattle.ff_tables.specs.declared.terms.Term.{Term}
use Rattle.ff_types.specs.declared.cites.Cite.{Cite}
use Rattle.ff_types.specs.declared.cites.Cite.TheVariants.{TacoTaco, TacoFace, TacoEdge, FlatFace, FlatEdge}
use Rattle.ff_types.specs.declared.cites.Listed.{Listed}
use Rattle.ff_types.specs.declared.refusals.No.{No}
use Rattle.ff_types.specs.declared.refusals.No.TheVariants.{Refused, NoMemory}
use Rattle.ff_types.specs.declared.refusals.Refusal.TheVariants.{TooMany}
use Rattle.ff_types.specs.declared.refusals.What.TheVariants.{Constraints}
use Rattle.ff_types.specs.Pairs.{number_of}
use Rattle.ff_types.specs.Faces.{ring_at}
use Rattle.ff_types.specs.Sheets.{Sheet}
use Rattle.ff_types.specs.Cites.{is_folded_edge, is_flat_edge, face_or}
use Rattle.ff_types.specs.Terms.{kind_of, terms_of}
use Rattle.ff_types.specs.declared.limits.TheConstants.{MOST_CONSTRAINTS}
use Rattle.ff_edges.specs.declared.edge_face.EdgeFace.{EdgeFace}
use Rattle.ff_edges.specs.declared.edge_pair.EdgePair.{EdgePair}
use Rattle.ff_edges.specs.Ways.{are_left}

-- the order of pairs of numbers
abbrev pub pair_cmp : ℕ × ℕ → ℕ × ℕ → Ordering
pair_cmp p q = ordering_then (nat_cmp p.0 q.0) (nat_cmp p.1 q.1)

-- the term of a pair that has a number
abbrev pub term_of : List (ℕ × ℕ) → ℕ × ℕ → Term
term_of pairs p = record { var = face_or (number_of pairs p.0 p.1); flipped = nat_lt p.1 p.0 }

-- the constraint of a cite beside it
abbrev pub listed_of : Sheet → List (ℕ × ℕ) → Cite → Listed
listed_of g pairs c = record {
  constraint = record { kind = kind_of c; terms = map (term_of pairs) (terms_of g c) };
  cite = c;
}

-- all the faces lie left of the way from p to q
abbrev pub are_all_left : Sheet → Pt → Pt → List ℕ → Bool
are_all_left g p q faces = list_all (λ f. are_left g.images p q (ring_at g.rings f)) faces

-- what two edges with a common segment give, and what an edge with a part inside a face gives
abbrev pub taco_taco : Sheet → EdgePair → Option Cite
taco_taco g p = if is_folded_edge g p.e && is_folded_edge g p.e2 then Some (TacoTaco p.e p.e2) else None

-- the cite of a folded edge with a face inside
abbrev pub taco_face : Sheet → EdgeFace → Option Cite
taco_face g c = if is_folded_edge g c.e then Some (TacoFace c.e c.face c.at) else None

-- a folded and a flat edge, in this order, and what they give
abbrev pub mixed : Sheet → EdgePair → Option (ℕ × ℕ)
mixed g p = if is_folded_edge g p.e && is_flat_edge g p.e2 then Some (p.e, p.e2)
    else (if is_flat_edge g p.e && is_folded_edge g p.e2 then Some (p.e2, p.e) else None)

-- the cite of a folded edge along a flat one
abbrev pub taco_edge : ℕ × ℕ → Option Cite
taco_edge p = Some (TacoEdge p.0 p.1)

-- the cite of a flat edge with a face inside
abbrev pub flat_face : Sheet → EdgeFace → Option Cite
flat_face g c = if is_flat_edge g c.e then Some (FlatFace c.e c.face c.at) else None

-- the cite of two flat edges along each other
abbrev pub flat_edge : Sheet → EdgePair → Option Cite
flat_edge g p = if is_flat_edge g p.e && is_flat_edge g p.e2 then Some (FlatEdge p.e p.e2) else None

-- the constraints of those items that give a cite, in order
abbrev pub given : {X : Type 0} → Sheet → List (ℕ × ℕ) → (X → Option Cite) → List X → List Listed
given g pairs gives xs = filter_map (λ x. option_map (listed_of g pairs) (gives x)) xs

-- the folded edges with the flat ones that they share a segment with, in order
pub record AreMixed (g : Sheet) (edge_pairs : List EdgePair) (list : List (ℕ × ℕ)) : Type 0 where
  pub members : IsPermutation (filter_map (mixed g) edge_pairs) list
  pub sorted : IsSorted pair_cmp list

-- family after family
abbrev pub all_given : Sheet → List (ℕ × ℕ) → List EdgePair → List EdgeFace → List (ℕ × ℕ) → List Listed
all_given g pairs edge_pairs edge_faces list = given g pairs (taco_taco g) edge_pairs
    ++ given g pairs (taco_face g) edge_faces
    ++ given g pairs taco_edge list
    ++ given g pairs (flat_face g) edge_faces
    ++ given g pairs (flat_edge g) edge_pairs

-- why so many can't be listed
abbrev pub WhyNoConstraints : ℕ → No → Type 0
WhyNoConstraints n NoMemory = Unit {0}
WhyNoConstraints n (Refused r) = (r ≡ TooMany Constraints MOST_CONSTRAINTS) × (MOST_CONSTRAINTS < n)

-- the edges have numbers below n
abbrev pub HavePairEdges : ℕ → List EdgePair → Type 0
HavePairEdges n list = All (λ p. (p.e < n) × (p.e2 < n)) list

-- the numbers of all entries are edges
abbrev pub HaveEdges : ℕ → List EdgeFace → Type 0
HaveEdges n list = All (λ c. c.e < n) list

-- both numbers of all entries are edges
abbrev pub HaveBoth : ℕ → List (ℕ × ℕ) → Type 0
HaveBoth n list = All (λ p. (p.0 < n) × (p.1 < n)) list
