-- The pairs of edges whose images run along each other, where a constraint rests on that. This project's own.
use Rattle.std.specs.Prelude.{◌≡◌, ℕ, ◌<◌, ◌≤◌, Bool, ◌&&◌, ◌||◌, List, [], ◌∷◌, length, slice_get, Some, IsTrue}
use Rattle.ff_types.specs.declared.refusals.No.{No}
use Rattle.ff_types.specs.declared.refusals.No.TheVariants.{Refused, NoMemory}
use Rattle.ff_types.specs.declared.refusals.Refusal.TheVariants.{TooMany}
use Rattle.ff_types.specs.declared.refusals.What.TheVariants.{Constraints}
use Rattle.ff_types.specs.Sheets.{Sheet, tail, head}
use Rattle.ff_types.specs.Cites.{is_folded_edge, is_flat_edge, lesser, greater, on_one_side}
use Rattle.ff_types.specs.Segments.{ShareSegment}
use Rattle.ff_edges.specs.declared.edge_pair.EdgePair.{EdgePair}
use Rattle.ff_types.specs.declared.limits.TheConstants.{MOST_CONSTRAINTS}
use Rattle.ff_edges.specs.Ways.{IsCommonWay}
use Rattle.ff_edges.specs.Listing.{HasKey, AreInOrder, IsListedTo}

-- the faces beside two edges
abbrev pub beside_both : Sheet → ℕ → ℕ → List ℕ
beside_both g e k = lesser g e ∷ greater g e ∷ lesser g k ∷ greater g k ∷ []

-- two folded edges with all four faces on one side, a folded and a flat one, or two flat ones
abbrev pub constrain : Sheet → ℕ → ℕ → Bool
constrain g e k = (is_folded_edge g e && is_folded_edge g k && on_one_side g e (beside_both g e k))
    || (is_folded_edge g e && is_flat_edge g k) || (is_flat_edge g e && is_folded_edge g k) || (is_flat_edge g e && is_flat_edge g k)

-- two such edges, the lesser first, with a common segment, and its ends
pub record IsEdgePair (g : Sheet) (c : EdgePair) : Type 0 where
  pub order : c.e < c.e2
  pub constrained : IsTrue (constrain g c.e c.e2)
  pub shares : ShareSegment g c.e c.e2
  pub ends : IsCommonWay (tail g c.e) (head g c.e) (tail g c.e2) (head g c.e2) c.p c.q

-- the two edges of an entry
abbrev pub edges_of_pair : EdgePair → ℕ × ℕ
edges_of_pair c = (c.e, c.e2)

-- All such pairs and nothing else, in order, so that none stands twice. The keys of at most one list are so.
pub record AreEdgePairs (g : Sheet) (list : List EdgePair) : Type 0 where
  pub each : (n : ℕ) (c : EdgePair) → slice_get list n ≡ Some c → IsEdgePair g c
  pub all : (e k : ℕ) → e < k → IsTrue (constrain g e k) → ShareSegment g e k → HasKey edges_of_pair list (e, k)
  pub sorted : AreInOrder edges_of_pair list

-- a pair that is to be listed
pub record IsWanted (g : Sheet) (e k : ℕ) : Type 0 where
  pub order : e < k
  pub edge : k < length g.edges
  pub constrained : IsTrue (constrain g e k)
  pub shares : ShareSegment g e k

-- the pairs that come before (e, k)
abbrev pub ArePairsTo : Sheet → ℕ → ℕ → List EdgePair → Type 0
ArePairsTo g e k list = IsListedTo edges_of_pair (IsEdgePair g) (IsWanted g) e k list

-- why a list of this length takes no more
abbrev pub IsFull : ℕ → No → Type 0
IsFull n NoMemory = Unit {0}
IsFull n (Refused r) = (r ≡ TooMany Constraints MOST_CONSTRAINTS) × (MOST_CONSTRAINTS ≤ n)

-- Why there is no list: it would be longer than the limit, or memory was refused.
abbrev pub WhyNoEdgePairs : Sheet → No → Type 0
WhyNoEdgePairs g NoMemory = Unit {0}
WhyNoEdgePairs g (Refused r) = (r ≡ TooMany Constraints MOST_CONSTRAINTS)
    × ((list : List EdgePair) × AreEdgePairs g list × (MOST_CONSTRAINTS < length list))
