-- Chains of edges, in which the edge that joins two vertices is found.
-- For the proofs of this crate alone.
use Rattle.std.specs.Prelude.{◌≡◌, ◌≢◌, ℕ, ◌+◌, ◌*◌, ◌%◌, ◌<◌, min, max, List, length, Option, Some, None, IsTrue, slice_index_or}
use Rattle.ff_types.specs.declared.patterns.EdgeEnds.{EdgeEnds}
use Rattle.ff_types.specs.Patterns.{edge_at}
use Rattle.ff_types.specs.Drawings.{joins}
use Rattle.ff_reflect.specs.declared.index.Index.{Index}
use Rattle.ff_reflect.specs.declared.sizes.TheConstants.{CHAINS}

-- the chain of an edge between two vertices, in either order
abbrev pub chain_between : ℕ → ℕ → ℕ
chain_between u v = (5 * min u v + max u v) % CHAINS

-- the chain in which the edge is kept
abbrev pub chain_at : List EdgeEnds → ℕ → ℕ
chain_at edges e = chain_between (edge_at edges e).a (edge_at edges e).b

-- no two edges join the same two vertices
abbrev pub AreOnce : List EdgeEnds → Type 0
AreOnce edges = (e k : ℕ) → e < length edges → k < length edges → IsTrue (joins (edge_at edges e).a (edge_at edges e).b (edge_at edges k)) → e ≡ k

-- the last edge of a chain among the first n edges, if it has one there
abbrev pub IsLast : List EdgeEnds → ℕ → ℕ → Option ℕ → Type 0
IsLast edges n chain None = (k : ℕ) → k < n → chain_at edges k ≢ chain
IsLast edges n chain (Some e) = (e < n) × (chain_at edges e ≡ chain) × ((k : ℕ) → e < k → k < n → chain_at edges k ≢ chain)

-- the chains have the first n edges
pub record Indexes (edges : List EdgeEnds) (n : ℕ) (index : Index) : Type 0 where
  pub chains : length index.last.items ≡ CHAINS
  pub wide : length index.before.items ≡ length edges
  pub lasts : (chain : ℕ) → chain < CHAINS → IsLast edges n chain (slice_index_or index.last.items chain None)
  pub befores : (e : ℕ) → e < n → IsLast edges e (chain_at edges e) (slice_index_or index.before.items e None)
