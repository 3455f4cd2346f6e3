-- Edges have a list of darts, in order, and each dart a place where it would begin there.
use Rattle.std.proofs.Common.{◌≡◌, ◌⊎◌, inl, inr, ℕ, zero, suc, ◌+◌, ◌<◌, ◌≤◌, List, [], ◌∷◌, length, IsTrue, arith, refl, sym, ◌∙◌, subst}
use Rattle.std.specs.List.{Contains}
use Rattle.std.proofs.lemmas.List.{get_or_default}
use Rattle.std.proofs.lemmas.List.Elements.{Contains-get_or}
use Rattle.ff_basics.proofs.Numbers.{below_or_last, which}
use Rattle.ff_types.specs.declared.patterns.EdgeEnds.{EdgeEnds}
use Rattle.ff_types.specs.Patterns.{edge_at}
use Rattle.ff_types.specs.Drawings.{joins, joined}
use Rattle.ff_types.proofs.PlainSheets.{joined_at, some_joins, joins_itself}
use Rattle.ff_types.proofs.ComputedFaces.{joins_is}
use Rattle.ff_drawn.specs.declared.darts.Dart.{Dart}
use Rattle.ff_drawn.specs.Darts.{dart_at, ComesBefore, AreInOrder, AreDarts, IsStart}
use Rattle.ff_drawn.proofs.Starts.{before_trans, not_before_itself}
use Rattle.ff_drawn.proofs.DartOrder.{here_or_later}
use Rattle.ff_drawn.proofs.SeenDarts.{back_joins}

which_dart : (p q : Dart) → ComesBefore p q ⊎ (ComesBefore q p ⊎ (p ≡ q))
which_dart p q = elim (which p.tail q.tail) [
  | inl l ↦ inl (inl l)
  | inr (inl l) ↦ inr (inl (inl l))
  | inr (inr e) ↦ elim (which p.head q.head) [
    | inl l ↦ inl (inr (e, l))
    | inr (inl l) ↦ inr (inl (inr (sym e, l)))
    | inr (inr f) ↦ inr (inr (λ i. record { tail = e i; head = f i }))
  ]
]

-- ---- one dart more

-- each comes before those that follow
abbrev Rises : List Dart → Type 0
Rises [] = Unit {0}
Rises (p ∷ ps) = ((r : Dart) → Contains ps r → ComesBefore p r) × Rises ps

here : (p : Dart) (ps : List Dart) → Contains (p ∷ ps) p
here p ps = (0, omega arith, refl)

later : (p : Dart) (ps : List Dart) (r : Dart) → Contains ps r → Contains (p ∷ ps) r
later p ps r (k, l, e) = (suc k, omega (arith, l), e)

here_or : (p : Dart) (ps : List Dart) (r : Dart) → Contains (p ∷ ps) r → (p ≡ r) ⊎ Contains ps r
here_or p ps r (k, l, e) = here_or_later p ps r k l e

record HasOneMore (ps : List Dart) (q : Dart) (more : List Dart) : Type 0 where
  rises : Rises more
  only : (r : Dart) → Contains more r → (r ≡ q) ⊎ Contains ps r
  has : Contains more q
  keeps : (r : Dart) → Contains ps r → Contains more r
  few : length more ≤ suc (length ps)

put : (ps : List Dart) (q : Dart) → Rises ps → (more : List Dart) × HasOneMore ps q more
put [] q s = (
  q ∷ [],
  record {
    rises = (λ r m. let l = m.1 in absurd (omega arith), tt);
    only = λ r m. elim (here_or q [] r m) [ inl e ↦ inl (sym e) | inr k ↦ inr k ];
    has = here q [];
    keeps = λ r m. later q [] r m;
    few = omega arith;
  },
)
put (p ∷ ps) q s = elim (which_dart q p) [
  | inl b ↦ (
    q ∷ p ∷ ps,
    record {
      rises = (λ r m. elim (here_or p ps r m) [ inl e ↦ subst (ComesBefore q) e b | inr k ↦ before_trans q p r b (s.0 r k) ], s);
      only = λ r m. elim (here_or q (p ∷ ps) r m) [ inl e ↦ inl (sym e) | inr k ↦ inr k ];
      has = here q (p ∷ ps);
      keeps = λ r m. later q (p ∷ ps) r m;
      few = omega arith;
    },
  )
  | inr (inr e) ↦ (
    p ∷ ps,
    record {
      rises = s;
      only = λ r m. inr m;
      has = subst (Contains (p ∷ ps)) (sym e) (here p ps);
      keeps = λ r m. m;
      few = omega arith;
    },
  )
  | inr (inl b) ↦ after b (put ps q s.1)
]
  where
    after : ComesBefore p q → (more : List Dart) × HasOneMore ps q more → (more : List Dart) × HasOneMore (p ∷ ps) q more
    after b (more, h) = (
      p ∷ more,
      record {
        rises = (λ r m. elim (h.only r m) [ inl e ↦ subst (ComesBefore p) (sym e) b | inr k ↦ s.0 r k ], h.rises);
        only = λ r m. elim (here_or p more r m) [
          | inl e ↦ inr (subst (Contains (p ∷ ps)) e (here p ps))
          | inr k ↦ elim (h.only r k) [ inl e ↦ inl e | inr o ↦ inr (later p ps r o) ]
        ];
        has = later p more q h.has;
        keeps = λ r m. elim (here_or p ps r m) [
          | inl e ↦ subst (Contains (p ∷ more)) e (here p more)
          | inr k ↦ later p more r (h.keeps r k)
        ];
        few = (let n = h.few in omega (arith, n));
      },
    )

-- ---- the darts of the first edges

record HoldFirst (edges : List EdgeEnds) (n : ℕ) (ps : List Dart) : Type 0 where
  rises : Rises ps
  only : (r : Dart) → Contains ps r → IsTrue (joined edges r.tail r.head)
  first : (k : ℕ) → k < n → Contains ps (record { tail = (edge_at edges k).a; head = (edge_at edges k).b })
  second : (k : ℕ) → k < n → Contains ps (record { tail = (edge_at edges k).b; head = (edge_at edges k).a })
  few : length ps ≤ n + n

hold : (edges : List EdgeEnds) (n : ℕ) → n ≤ length edges → (ps : List Dart) × HoldFirst edges n ps
hold edges zero l = (
  [],
  record {
    rises = tt;
    only = λ r m. let l = m.1 in absurd (omega arith);
    first = λ k l. absurd (omega (arith, l));
    second = λ k l. absurd (omega (arith, l));
    few = omega arith;
  },
)
hold edges (suc n) l = both (hold edges n (omega (arith, l))) where
  both : (ps : List Dart) × HoldFirst edges n ps → (ps : List Dart) × HoldFirst edges (suc n) ps
  both (ps, h) =
      let e = edge_at edges n in
      let m = put ps (record { tail = e.a; head = e.b }) h.rises in
      let o = put m.0 (record { tail = e.b; head = e.a }) m.1.rises in (
        o.0,
        record {
          rises = o.1.rises;
          only = λ r k. elim (o.1.only r k) [
            | inl f ↦ subst (λ (d : Dart). IsTrue (joined edges d.tail d.head)) (sym f) (joined_at edges n _ _ l (back_joins e))
            | inr k ↦ elim (m.1.only r k) [
              | inl f ↦ subst (λ (d : Dart). IsTrue (joined edges d.tail d.head)) (sym f) (joined_at edges n _ _ l (joins_itself e.a e.b))
              | inr k ↦ h.only r k
            ]
          ];
          first = λ k i. elim (below_or_last n k i) [
            | inl j ↦ o.1.keeps _ (m.1.keeps _ (h.first k j))
            | inr f ↦ subst (λ (j : ℕ). Contains o.0 (record { tail = (edge_at edges j).a; head = (edge_at edges j).b })) (sym f) (o.1.keeps _ m.1.has)
          ];
          second = λ k i. elim (below_or_last n k i) [
            | inl j ↦ o.1.keeps _ (m.1.keeps _ (h.second k j))
            | inr f ↦ subst (λ (j : ℕ). Contains o.0 (record { tail = (edge_at edges j).b; head = (edge_at edges j).a })) (sym f) o.1.has
          ];
          few = (let x = h.few in let y = m.1.few in let z = o.1.few in omega (arith, x, y, z));
        },
      )

in_order : (ps : List Dart) → Rises ps → (d c : ℕ) → d < c → c < length ps → ComesBefore (dart_at ps d) (dart_at ps c)
in_order [] s d c l m = absurd (omega (arith, m))
in_order (p ∷ ps) s d zero l m = absurd (omega (arith, l))
in_order (p ∷ ps) s zero (suc c) l m = s.0 (dart_at ps c) (Contains-get_or ps c _ (omega (arith, m)))
in_order (p ∷ ps) s (suc d) (suc c) l m = in_order ps s.1 d c (omega (arith, l)) (omega (arith, m))

-- edges have darts
pub some_darts : (edges : List EdgeEnds) → (darts : List Dart) × AreDarts edges darts
some_darts edges = go (hold edges (length edges) (omega arith)) where
  go : (ps : List Dart) × HoldFirst edges (length edges) ps → (darts : List Dart) × AreDarts edges darts
  go (ps, h) = (
    ps,
    record {
      sorted = record { rises = in_order ps h.rises };
      along = λ d l. h.only (dart_at ps d) (Contains-get_or ps d _ l);
      all = λ u v j. let m = there u v (some_joins edges u v j) in (m.0, m.1, get_or_default ps m.0 (record { tail = 0; head = 0 }) _ m.1 ∙ m.2);
      few = h.few;
    },
  )
    where
      there : (u v : ℕ) → (e : ℕ) × (e < length edges) × IsTrue (joins u v (edge_at edges e)) → Contains ps (record { tail = u; head = v })
      there u v s = elim (joins_is (edge_at edges s.0) u v s.2) [
        | inl e ↦ subst (Contains ps) (λ i. record { tail = e.0 i; head = e.1 i }) (h.first s.0 s.1)
        | inr e ↦ subst (Contains ps) (λ i. record { tail = e.1 i; head = e.0 i }) (h.second s.0 s.1)
      ]

-- ---- where a dart would begin

pub some_start : (darts : List Dart) (q : Dart) → AreInOrder darts → (s : ℕ) × IsStart darts q s
some_start darts q o = let f = first (length darts) (omega arith) in (f.0, record { within = f.1; before = f.2; after = λ k l m. f.3 k l m }) where
  first : (n : ℕ) → n ≤ length darts → (s : ℕ) × (s ≤ n) × ((k : ℕ) → k < s → ComesBefore (dart_at darts k) q) × ((k : ℕ) → s ≤ k → k < n → ComesBefore (dart_at darts k) q → ⊥)
  first zero l = (0, omega arith, λ k m. absurd (omega (arith, m)), λ k m i. absurd (omega (arith, i)))
  first (suc n) l = by (which_dart (dart_at darts n) q) (first n (omega (arith, l))) where
    still : (ComesBefore (dart_at darts n) q → ⊥) → (s : ℕ) × (s ≤ n) × ((k : ℕ) → k < s → ComesBefore (dart_at darts k) q) × ((k : ℕ) → s ≤ k → k < n → ComesBefore (dart_at darts k) q → ⊥)
        → (s : ℕ) × (s ≤ suc n) × ((k : ℕ) → k < s → ComesBefore (dart_at darts k) q) × ((k : ℕ) → s ≤ k → k < suc n → ComesBefore (dart_at darts k) q → ⊥)
    still not (s, m, b, a) = (s, omega (arith, m), b, λ k i j. elim (below_or_last n k j) [ inl x ↦ a k i x | inr e ↦ subst (λ k. ComesBefore (dart_at darts k) q → ⊥) (sym e) not ])

    by : ComesBefore (dart_at darts n) q ⊎ (ComesBefore q (dart_at darts n) ⊎ (dart_at darts n ≡ q)) → (s : ℕ) × (s ≤ n) × ((k : ℕ) → k < s → ComesBefore (dart_at darts k) q) × ((k : ℕ) → s ≤ k → k < n → ComesBefore (dart_at darts k) q → ⊥)
        → (s : ℕ) × (s ≤ suc n) × ((k : ℕ) → k < s → ComesBefore (dart_at darts k) q) × ((k : ℕ) → s ≤ k → k < suc n → ComesBefore (dart_at darts k) q → ⊥)
    by (inl x) f = (suc n, omega arith, (λ k m. elim (below_or_last n k m) [ inl i ↦ before_trans (dart_at darts k) (dart_at darts n) q (o.rises k n i l) x | inr e ↦ subst (λ k. ComesBefore (dart_at darts k) q) (sym e) x ]), λ k m i. absurd (omega (arith, m, i)))
    by (inr (inl x)) f = still (λ y. not_before_itself q (before_trans q (dart_at darts n) q x y)) f
    by (inr (inr e)) f = still (λ y. not_before_itself q (subst (λ (d : Dart). ComesBefore d q) e y)) f
