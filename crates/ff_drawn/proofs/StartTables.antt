-- Where the darts that leave a vertex begin, one vertex after the other, and halving among them.
use Rattle.std.proofs.Common.{◌≡◌, ◌⊎◌, inl, inr, ℕ, ◌+◌, ◌<◌, ◌≤◌, List, length, arith, sym, subst}
use Rattle.ff_basics.proofs.Numbers.{at_most_or, last_or}
use Rattle.ff_drawn.specs.declared.darts.Dart.{Dart}
use Rattle.ff_drawn.specs.Darts.{dart_at, ComesBefore, AreInOrder, IsStart, ArePassed}

le_or : (i j : ℕ) → i ≤ j → (i < j) ⊎ (i ≡ j)
le_or i j h = grind arith

-- the first dart that leaves a vertex, or would
abbrev first_of : ℕ → Dart
first_of v = record { tail = v; head = 0 }

before_first : (p : Dart) (v : ℕ) → ComesBefore p (first_of v) → p.tail < v
before_first p v (inl l) = l
before_first p v (inr h) = let l = h.1 in absurd (omega (arith, l))

not_before_first : (darts : List Dart) (v d k : ℕ) → AreInOrder darts → v ≤ (dart_at darts d).tail → d ≤ k → k < length darts → (dart_at darts k).tail < v → ⊥
not_before_first darts v d k o h l m b = elim (le_or d k l) [
  | inl n ↦ elim (o.rises d k n m) [ inl x ↦ omega (arith, x, h, b) | inr x ↦ let e = x.0 in omega (arith, e, h, b) ]
  | inr e ↦ let g = subst (λ j. v ≤ (dart_at darts j).tail) e h in omega (arith, g, b)
]

-- the search stops at the first dart that leaves v or a later vertex
pub start_here : (darts : List Dart) (v d : ℕ) → AreInOrder darts → d < length darts → ArePassed darts v d → v ≤ (dart_at darts d).tail → IsStart darts (record { tail = v; head = 0 }) d
start_here darts v d o l p h = record {
  within = omega (arith, l);
  before = p;
  after = λ k m n b. not_before_first darts v d k o h m n (before_first (dart_at darts k) v b);
}

-- or at the end
pub start_past : (darts : List Dart) (v d : ℕ) → length darts ≤ d → d ≤ length darts → ArePassed darts v d → IsStart darts (record { tail = v; head = 0 }) d
start_past darts v d l m p = record { within = m; before = p; after = λ k n o b. omega (arith, l, n, o) }

pub passed_more : (darts : List Dart) (v d : ℕ) → ArePassed darts v d → (dart_at darts d).tail < v → ArePassed darts v (d + 1)
passed_more darts v d p l k m = elim (last_or k d m) [ inl n ↦ p k n | inr e ↦ subst (λ j. ComesBefore (dart_at darts j) (first_of v)) (sym e) (inl l) ]

-- ---- halving

-- the place of a dart is not before low and not after high
pub record IsBetween (darts : List Dart) (q : Dart) (low high : ℕ) : Type 0 where
  pub order : low ≤ high
  pub within : high ≤ length darts
  pub before : (k : ℕ) → k < low → ComesBefore (dart_at darts k) q
  pub after : (k : ℕ) → high ≤ k → k < length darts → ComesBefore (dart_at darts k) q → ⊥

pub between : (darts : List Dart) (q : Dart) (low high : ℕ) → IsStart darts (record { tail = q.tail; head = 0 }) low → IsStart darts (record { tail = q.tail + 1; head = 0 }) high → IsBetween darts q low high
between darts q low high a b = record {
  order = elim (at_most_or low high) [
    | inl l ↦ l
    | inr l ↦ let w = a.within in let x = before_first (dart_at darts high) q.tail (a.before high l) in
        absurd (b.after high (omega arith) (omega (arith, l, w)) (inl (omega (arith, x))))
  ];
  within = b.within;
  before = λ k l. inl (before_first (dart_at darts k) q.tail (a.before k l));
  after = λ k l m h. b.after k l m (elim h [ inl x ↦ inl (omega (arith, x)) | inr x ↦ let e = x.0 in inl (omega (arith, e)) ]);
}
