-- A set of the edges so far, by which each further one is seen to be new or not.
use Rattle.std.proofs.Common.{◌≡◌, ◌∙◌, ℕ, ◌+◌, ◌*◌, ◌<◌, ◌≤◌, ◌^◌, min, max, List, [], ◌∷◌, ◌++◌, length, Bool, true, false, cond, arith, refl, sym, ap, subst, ◌⊎◌, inl, inr}
use Rattle.std.proofs.lemmas.Bool.{false≢true}
use Rattle.std.proofs.lemmas.Map.Lookups.{exact_unsigned}
use Rattle.std.proofs.Math.ListN.{get_or-append, length-append}
use Rattle.std.proofs.Math.Seq.{get_or-append_seam}
use Rattle.std.proofs.Math.Nat.{min_comm, max_comm}
use Rattle.std.specs.BTreeSet.{contains, BTreeSet}
use Rattle.std.specs.BTreeMap.{is_at}
use Rattle.std.specs.Cmp.{nat_cmp_is}
use Rattle.std.specs.Ordering.{is_eq, nat_cmp}
use Rattle.std.specs.declared.cmp.Ordering.TheVariants.{Equal}
use Rattle.ff_basics.proofs.Tests.{equal_of}
use Rattle.ff_types.specs.declared.patterns.EdgeEnds.{EdgeEnds}
use Rattle.ff_types.specs.Patterns.{edge_at, Joins}
use Rattle.ff_read.specs.Refused.{AreEdges, IsNewEdge, IsSameEdge}
use Rattle.ff_read.specs.Seen.{edge_key, HaveSeen}

-- ---- the number of an edge

pub key_same : (e k : EdgeEnds) → IsSameEdge e k → edge_key e ≡ edge_key k
key_same e k (inl s) = rw (s.0, s.1) refl
key_same e k (inr s) = rw (s.0, s.1, min_comm k.b k.a, max_comm k.b k.a) refl

same_of : (a b c d : ℕ) → a < 2 ^ 32 → b < 2 ^ 32 → c < 2 ^ 32 → d < 2 ^ 32 → min a b * 2 ^ 32 + max a b ≡ min c d * 2 ^ 32 + max c d → ((a ≡ c) × (b ≡ d)) ⊎ ((a ≡ d) × (b ≡ c))
same_of a b c d la lb lc ld e = grind (arith, la, lb, lc, ld, e)

pub key_apart : (n : ℕ) (e k : EdgeEnds) → n ≤ 2 ^ 32 → Joins n e → Joins n k → edge_key e ≡ edge_key k → IsSameEdge e k
key_apart n e k l i j s = same_of e.a e.b k.a k.b (omega (arith, l, i.first)) (omega (arith, l, i.second)) (omega (arith, l, j.first)) (omega (arith, l, j.second)) s

is_itself : (q : ℕ) → is_at (nat_cmp q) q ≡ true
is_itself q = ap is_eq (sym (nat_cmp_is q q Equal refl))

or_true : (a : Bool) → cond a true true ≡ true
or_true true = refl
or_true false = refl

-- ---- one edge more

at_old : (xs : List EdgeEnds) (new : EdgeEnds) (k : ℕ) → k < length xs → edge_at (xs ++ new ∷ []) k ≡ edge_at xs k
at_old xs new k l = get_or-append xs (new ∷ []) (record { a = 0; b = 0 }) k l

at_new : (xs : List EdgeEnds) (new : EdgeEnds) → edge_at (xs ++ new ∷ []) (length xs) ≡ new
at_new xs new = get_or-append_seam xs new [] (record { a = 0; b = 0 })

long : (xs : List EdgeEnds) (new : EdgeEnds) (k : ℕ) → k < length (xs ++ new ∷ []) → (k < length xs) ⊎ (k ≡ length xs)
long [] new k l = inr (omega (arith, l))
long (x ∷ xs) new k l = grind (arith, l, length-append xs (new ∷ []))

joins_more : (n : ℕ) (xs : List EdgeEnds) (new : EdgeEnds) → AreEdges n xs → IsNewEdge n xs new → (k : ℕ) → (k < length xs) ⊎ (k ≡ length xs) → Joins n (edge_at (xs ++ new ∷ []) k)
joins_more n xs new g h k (inl l) = rw (at_old xs new k l) (g.joins k l)
joins_more n xs new g h k (inr e) = rw (e, at_new xs new) h.joins

once_more : (n : ℕ) (xs : List EdgeEnds) (new : EdgeEnds) → AreEdges n xs → IsNewEdge n xs new → (k e : ℕ) → k < e → (e < length xs) ⊎ (e ≡ length xs)
    → IsSameEdge (edge_at (xs ++ new ∷ []) k) (edge_at (xs ++ new ∷ []) e) → ⊥
once_more n xs new g h k e l (inl m) s = g.once k e l m (rw (← at_old xs new k (omega (arith, l, m)), ← at_old xs new e m) s)
once_more n xs new g h k e l (inr m) s =
    let o : k < length xs = omega (arith, l, m) in
    let t : IsSameEdge (edge_at (xs ++ new ∷ []) k) (edge_at (xs ++ new ∷ []) (length xs)) = subst (λ (i : ℕ). IsSameEdge (edge_at (xs ++ new ∷ []) k) (edge_at (xs ++ new ∷ []) i)) m s in
    let u : IsSameEdge (edge_at (xs ++ new ∷ []) k) new = subst (λ (x : EdgeEnds). IsSameEdge (edge_at (xs ++ new ∷ []) k) x) (at_new xs new) t in
    h.once k o (subst (λ (x : EdgeEnds). IsSameEdge x new) (at_old xs new k o) u)

pub edges_more : (n : ℕ) (xs : List EdgeEnds) (new : EdgeEnds) → AreEdges n xs → IsNewEdge n xs new → AreEdges n (xs ++ new ∷ [])
edges_more n xs new g h = record {
  joins = λ k l. joins_more n xs new g h k (long xs new k l);
  once = λ k e l m. once_more n xs new g h k e l (long xs new e m);
}

-- ---- the set

has_more : (n : ℕ) (xs : List EdgeEnds) (new : EdgeEnds) (old after : BTreeSet ℕ) → HaveSeen n xs old
    → ((q : ℕ) → contains nat_cmp after q ≡ cond (is_at (nat_cmp (edge_key new)) q) true (contains nat_cmp old q))
    → (k : ℕ) → (k < length xs) ⊎ (k ≡ length xs) → contains nat_cmp after (edge_key (edge_at (xs ++ new ∷ []) k)) ≡ true
has_more n xs new old after h u k (inl l) =
    rw (at_old xs new k l) (u (edge_key (edge_at xs k)) ∙ ap (λ (b : Bool). cond (is_at (nat_cmp (edge_key new)) (edge_key (edge_at xs k))) true b) (h.has k l) ∙ or_true (is_at (nat_cmp (edge_key new)) (edge_key (edge_at xs k))))
has_more n xs new old after h u k (inr e) =
    rw (e, at_new xs new) (u (edge_key new) ∙ ap (λ (b : Bool). cond b true (contains nat_cmp old (edge_key new))) (is_itself (edge_key new)))

only_more : (n : ℕ) (xs : List EdgeEnds) (new : EdgeEnds) (old : BTreeSet ℕ) (q : ℕ) (b : Bool) → HaveSeen n xs old → is_at (nat_cmp (edge_key new)) q ≡ b
    → cond b true (contains nat_cmp old q) ≡ true → (k : ℕ) × (k < length (xs ++ new ∷ [])) × (edge_key (edge_at (xs ++ new ∷ []) k) ≡ q)
only_more n xs new old q true h e t = (length xs, omega (arith, length-append xs (new ∷ [])), ap edge_key (at_new xs new) ∙ exact_unsigned (edge_key new) q (equal_of (nat_cmp (edge_key new) q) e))
only_more n xs new old q false h e t = let o = h.only q t in (o.0, omega (arith, o.1, length-append xs (new ∷ [])), ap edge_key (at_old xs new o.0 o.1) ∙ o.2)

-- an edge whose number the set lacks is none of those before it
pub fresh : (n : ℕ) (xs : List EdgeEnds) (new : EdgeEnds) (seen : BTreeSet ℕ) → HaveSeen n xs seen → Joins n new → contains nat_cmp seen (edge_key new) ≡ false → IsNewEdge n xs new
fresh n xs new seen h j c = record {
  joins = j;
  once = λ k l s. false≢true (sym c ∙ ap (contains nat_cmp seen) (sym (key_same (edge_at xs k) new s)) ∙ h.has k l);
}

-- an edge whose number the set has is one of those before it
pub again : (n : ℕ) (xs : List EdgeEnds) (new : EdgeEnds) (seen : BTreeSet ℕ) → n ≤ 2 ^ 32 → HaveSeen n xs seen → contains nat_cmp seen (edge_key new) ≡ true → IsNewEdge n xs new → ⊥
again n xs new seen l h c i = let o = h.only (edge_key new) c in i.once o.0 o.1 (key_apart n (edge_at xs o.0) new l (h.good.joins o.0 o.1) i.joins o.2)

pub have_seen_more : (n : ℕ) (xs : List EdgeEnds) (new : EdgeEnds) (old after : BTreeSet ℕ) → HaveSeen n xs old → IsNewEdge n xs new
    → ((q : ℕ) → contains nat_cmp after q ≡ cond (is_at (nat_cmp (edge_key new)) q) true (contains nat_cmp old q)) → HaveSeen n (xs ++ new ∷ []) after
have_seen_more n xs new old after h i u = record {
  good = edges_more n xs new h.good i;
  has = λ k l. has_more n xs new old after h u k (long xs new k l);
  only = λ q t. only_more n xs new old q (is_at (nat_cmp (edge_key new)) q) h refl (sym (u q) ∙ t);
}
