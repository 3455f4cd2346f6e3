-- Edges of which each is new: a set of numbers, one for the two vertices that an edge joins.
-- For the proofs of this crate alone.
use Rattle.std.specs.Prelude.{ℕ, ◌≡◌, ◌<◌, ◌^◌, ◌*◌, ◌+◌, min, max, List, [], ◌∷◌, ◌++◌, length, slice_index, Bool, true, false}
use Rattle.std.specs.BTreeSet.{contains, BTreeSet}
use Rattle.std.specs.Ordering.{nat_cmp}
use Rattle.ff_types.specs.declared.patterns.EdgeEnds.{EdgeEnds}
use Rattle.ff_types.specs.Patterns.{edge_at}
use Rattle.ff_read.specs.Refused.{AreEdges, IsNewEdge}

-- the two ends as one number, whichever comes first
abbrev pub edge_key : EdgeEnds → ℕ
edge_key e = min e.a e.b * 2 ^ 32 + max e.a e.b

-- each of the first n numbers is below those of them that follow it
abbrev pub AreRising : List ℕ → ℕ → Type 0
AreRising keys n = (i j : ℕ) → i < j → j < n → slice_index keys i < slice_index keys j

-- the numbers of the set are those of the edges, and each edge was new
pub record HaveSeen (n : ℕ) (edges : List EdgeEnds) (seen : BTreeSet ℕ) : Type 0 where
  pub good : AreEdges n edges
  pub has : (k : ℕ) → k < length edges → contains nat_cmp seen (edge_key (edge_at edges k)) ≡ true
  pub only : (q : ℕ) → contains nat_cmp seen q ≡ true → (k : ℕ) × (k < length edges) × (edge_key (edge_at edges k) ≡ q)

-- a new edge was added, or it isn't new
abbrev pub Adds : ℕ → List EdgeEnds → EdgeEnds → List EdgeEnds → BTreeSet ℕ → Bool → Type 0
Adds n old ends new seen true = (new ≡ old ++ ends ∷ []) × IsNewEdge n old ends × HaveSeen n new seen
Adds n old ends new seen false = IsNewEdge n old ends → ⊥
