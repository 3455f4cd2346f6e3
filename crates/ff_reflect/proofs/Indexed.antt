-- Chains of edges: none yet, and what is found in them.
use Rattle.std.proofs.Common.{◌≡◌, ◌∙◌, ℕ, suc, ◌<◌, ◌≤◌, List, length, false, arith, refl, sym, ap, subst, ◌⊎◌, inl, inr, Option, Some, None, IsTrue, slice_index_or, replicate}
use Rattle.std.proofs.lemmas.List.{get_or-replicate, length-replicate, get_or_read}
use Rattle.std.proofs.lemmas.Bool.{false≢true}
use Rattle.std.proofs.lemmas.List.Quantifiers.{position-Some}
use Rattle.std.proofs.Math.Nat.{min_comm, max_comm}
use Rattle.std.specs.Prelude.{position}
use Rattle.ff_types.specs.declared.patterns.EdgeEnds.{EdgeEnds}
use Rattle.ff_types.specs.Patterns.{edge_at}
use Rattle.ff_types.specs.Drawings.{joins}
use Rattle.ff_reflect.specs.declared.index.Index.{Index}
use Rattle.ff_reflect.specs.declared.sizes.TheConstants.{CHAINS}
use Rattle.ff_reflect.specs.Index.{chain_between, chain_at, AreOnce, IsLast, Indexes}
use Rattle.ff_reflect.proofs.Cases.{by_below, by_same, by_test}
use Rattle.ff_reflect.proofs.Meetings.{position_is}
use Rattle.ff_reflect.proofs.Across.{ends_of, joins_from}

-- ---- edges that join two vertices

-- they are in the chain of the two
chain_same : (u v : ℕ) (x : EdgeEnds) → IsTrue (joins u v x) → chain_between x.a x.b ≡ chain_between u v
chain_same u v x j = by (ends_of u v x j) where
  by : ((x.a ≡ u) × (x.b ≡ v)) ⊎ ((x.a ≡ v) × (x.b ≡ u)) → chain_between x.a x.b ≡ chain_between u v
  by (inl s) = rw (s.0, s.1) refl
  by (inr s) = rw (s.0, s.1, min_comm v u, max_comm v u) refl

-- there is one at most
joins_once : (edges : List EdgeEnds) → AreOnce edges → (u v e k : ℕ) → e < length edges → IsTrue (joins u v (edge_at edges e)) → k < length edges → IsTrue (joins u v (edge_at edges k)) → e ≡ k
joins_once edges once u v e k l j m i =
    once e k l m (joins_from (edge_at edges e).a (edge_at edges e).b (edge_at edges k) (both (ends_of u v (edge_at edges e) j) (ends_of u v (edge_at edges k) i)))
  where
    both : {a b c d : ℕ} → ((a ≡ u) × (b ≡ v)) ⊎ ((a ≡ v) × (b ≡ u)) → ((c ≡ u) × (d ≡ v)) ⊎ ((c ≡ v) × (d ≡ u)) → ((c ≡ a) × (d ≡ b)) ⊎ ((c ≡ b) × (d ≡ a))
    both (inl p) (inl q) = inl (q.0 ∙ sym p.0, q.1 ∙ sym p.1)
    both (inl p) (inr q) = inr (q.0 ∙ sym p.1, q.1 ∙ sym p.0)
    both (inr p) (inl q) = inr (q.0 ∙ sym p.1, q.1 ∙ sym p.0)
    both (inr p) (inr q) = inl (q.0 ∙ sym p.0, q.1 ∙ sym p.1)

-- ---- no edges yet

-- what holds of no number holds of `None` alone
pub is_none : (P : Option ℕ → Type 0) → ((n : ℕ) → P (Some n) → ⊥) → (o : Option ℕ) → P o → o ≡ None
is_none P not None p = refl
is_none P not (Some n) p = absurd (not n p)

pub indexes_none : (edges : List EdgeEnds) (index : Index) → index.last.items ≡ replicate CHAINS None → index.before.items ≡ replicate (length edges) None → Indexes edges 0 index
indexes_none edges index l b = record {
  chains = ap length l ∙ length-replicate CHAINS none;
  wide = ap length b ∙ length-replicate (length edges) none;
  lasts = λ chain s. subst (λ (os : List (Option ℕ)). IsLast edges 0 chain (slice_index_or os chain none)) (sym l) (subst (IsLast edges 0 chain) (sym (get_or-replicate CHAINS chain none none s)) (λ k i. absurd (omega (arith, i))));
  befores = λ e i. absurd (omega (arith, i));
}
  where
    none : Option ℕ
    none = None

-- ---- an edge is looked for

-- what is left of the chain, from an edge on back: no edge from m on joins the two
pub record IsAhead (edges : List EdgeEnds) (u v : ℕ) (at : Option ℕ) : Type 0 where
  pub m : ℕ
  pub within : m ≤ length edges
  pub last : IsLast edges m (chain_between u v) at
  pub none : (k : ℕ) → m ≤ k → k < length edges → IsTrue (joins u v (edge_at edges k)) → ⊥

pub all_ahead : (edges : List EdgeEnds) (index : Index) (u v chain : ℕ) (o : Option ℕ) → Indexes edges (length edges) index → chain ≡ chain_between u v → chain < CHAINS → o ≡ slice_index_or index.last.items chain o
    → IsAhead edges u v o
all_ahead edges index u v chain o h c s e = record {
  m = length edges;
  within = omega arith;
  last = subst (λ q. IsLast edges (length edges) q o) c
      (subst (IsLast edges (length edges) chain) (sym (get_or_read index.last.items chain o (let w = h.chains in omega (arith, w, s)) e None)) (h.lasts chain s));
  none = λ k l m j. absurd (omega (arith, l, m));
}

-- how many edges may be left
abbrev pub room : Option ℕ → ℕ
room None = 0
room (Some e) = suc e

room_less : (edges : List EdgeEnds) (e chain : ℕ) (o : Option ℕ) → IsLast edges e chain o → room o < room (Some e)
room_less edges e chain None h = omega arith
room_less edges e chain (Some k) h = let l = h.0 in omega (arith, l)

-- between the edge and m none is in the chain
none_after : (edges : List EdgeEnds) (u v e : ℕ) → (a : IsAhead edges u v (Some e)) → (k : ℕ) → e < k → k < length edges → IsTrue (joins u v (edge_at edges k)) → ⊥
none_after edges u v e a k l m j = let h = a.last in by_below k a.m (λ b. h.2 k l b (chain_same u v (edge_at edges k) j)) (λ b. a.none k b m j)

pub fewer_ahead : (edges : List EdgeEnds) (index : Index) (u v e : ℕ) (o : Option ℕ) → Indexes edges (length edges) index → IsAhead edges u v (Some e) → joins u v (edge_at edges e) ≡ false → o ≡ slice_index_or index.before.items e o
    → IsAhead edges u v o × (room o < room (Some e))
fewer_ahead edges index u v e o h a not r = (
  record {
    m = e;
    within = omega (arith, l);
    last = subst (λ chain. IsLast edges e chain o) s.1 last;
    none = λ k i m j. by_same k e (λ q. false≢true (sym not ∙ ap (λ n. joins u v (edge_at edges n)) (sym q) ∙ j)) (λ d. none_after edges u v e a k (omega (arith, i, d)) m j);
  },
  room_less edges e (chain_at edges e) o last,
)
  where
    s : IsLast edges a.m (chain_between u v) (Some e)
    s = a.last

    l : e < length edges
    l = let w = a.within in let i = s.0 in omega (arith, i, w)

    last : IsLast edges e (chain_at edges e) o
    last = subst (IsLast edges e (chain_at edges e)) (sym (get_or_read index.before.items e o (let w = h.wide in omega (arith, w, l)) r None)) (h.befores e l)

-- what is found is the first edge that joins them
pub found : (edges : List EdgeEnds) (u v e : ℕ) → AreOnce edges → IsAhead edges u v (Some e) → IsTrue (joins u v (edge_at edges e)) → Some e ≡ position (joins u v) edges
found edges u v e once a j = sym (position_is (joins u v) edges e (record { a = 0; b = 0 }) l j before) where
  l : e < length edges
  l = let w = a.within in let s = a.last in let i = s.0 in omega (arith, i, w)

  before : (k : ℕ) → k < e → joins u v (edge_at edges k) ≡ false
  before k m = by_test (joins u v (edge_at edges k)) (λ t. let q = joins_once edges once u v k e (omega (arith, m, l)) t l j in absurd (omega (arith, q, m))) (λ t. t)

-- at the end of the chain there is none
pub not_found : (edges : List EdgeEnds) (u v : ℕ) → IsAhead edges u v None → None ≡ position (joins u v) edges
not_found edges u v a = by (position (joins u v) edges) refl where
  by : (o : Option ℕ) → position (joins u v) edges ≡ o → None ≡ o
  by None e = refl
  by (Some k) e =
      let p = position-Some (joins u v) edges k (record { a = 0; b = 0 }) e in
      absurd (by_below k a.m (λ l. a.last k l (chain_same u v (edge_at edges k) p.1)) (λ l. a.none k l p.0 p.1))
