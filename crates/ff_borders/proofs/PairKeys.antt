-- Pairs in order: when two of them are one, and lists of terms without repetition.
use Rattle.std.proofs.Common.{◌≡◌, ◌≢◌, ℕ, zero, suc, ◌<◌, ◌≤◌, ◌⊎◌, inl, inr, refl, sym, ◌∙◌, ap, subst, arith, List, [], ◌∷◌, length}
use Rattle.std.proofs.lemmas.Bool.{cases_lt, lt-ltb, le-ltb}
use Rattle.ff_types.specs.Sheets.{Sheet}
use Rattle.ff_types.specs.Inside.{Overlap}
use Rattle.ff_types.specs.Pairs.{pair_at, in_order}
use Rattle.ff_types.proofs.FewFaces.{overlap_turned}
use Rattle.ff_borders.specs.Terms.{IsOverlapping}

-- ---- one pair

ordered : (p q : ℕ) → p < q → in_order p q ≡ (p, q)
ordered p q h = rw (lt-ltb p q h) refl

turned : (p q : ℕ) → q ≤ p → in_order p q ≡ (q, p)
turned p q h = rw (le-ltb p q h) refl

pair_is : (p q r s : ℕ) → ◌≡◌ {A = ℕ × ℕ} (p, q) (r, s) → (p ≡ r) × (q ≡ s)
pair_is p q r s e = (ap (λ z. z.0) e, ap (λ z. z.1) e)

-- the pairs are of the same two
pub same_two : (p q r s : ℕ) → in_order p q ≡ in_order r s → ((p ≡ r) × (q ≡ s)) ⊎ ((p ≡ s) × (q ≡ r))
same_two p q r s e = elim (cases_lt p q) [
  | inl l ↦ elim (cases_lt r s) [
    | inl m ↦ inl (pair_is p q r s (sym (ordered p q l) ∙ (e ∙ ordered r s m)))
    | inr m ↦ inr (pair_is p q s r (sym (ordered p q l) ∙ (e ∙ turned r s m)))
  ]
  | inr l ↦ elim (cases_lt r s) [
    | inl m ↦ (let d = pair_is q p r s (sym (turned p q l) ∙ (e ∙ ordered r s m)) in inr (d.1, d.0))
    | inr m ↦ (let d = pair_is q p s r (sym (turned p q l) ∙ (e ∙ turned r s m)) in inl (d.1, d.0))
  ]
]

pub pairs_apart : (p q r s : ℕ) → (p ≢ r) ⊎ (q ≢ s) → (p ≢ s) ⊎ (q ≢ r) → in_order p q ≢ in_order r s
pairs_apart p q r s x y e = elim (same_two p q r s e) [
  | inl d ↦ elim x [ inl n ↦ n d.0 | inr n ↦ n d.1 ]
  | inr d ↦ elim y [ inl n ↦ n d.0 | inr n ↦ n d.1 ]
]

-- two overlapping faces overlap in order
pub in_their_order : (g : Sheet) (p q : ℕ) → Overlap g p q → IsOverlapping g (p, q)
in_their_order g p q o = elim (cases_lt p q) [
  | inl l ↦ record {
    given = o;
    rises = subst (λ z. z.0 < z.1) (sym (ordered p q l)) l;
    ordered = subst (λ z. Overlap g z.0 z.1) (sym (ordered p q l)) o;
  }
  | inr l ↦ record {
    given = o;
    rises = subst (λ z. z.0 < z.1) (sym (turned p q l)) (less l);
    ordered = subst (λ z. Overlap g z.0 z.1) (sym (turned p q l)) (overlap_turned g p q o);
  }
] where
  less : q ≤ p → q < p
  less l = elim (cases_lt q p) [ inl m ↦ m | inr m ↦ absurd (o.differ (omega (arith, l, m))) ]

-- ---- lists of terms

abbrev pub Term : Type 0
Term = ℕ × ℕ

-- of one and of the rest
pub also : {A B : Type 0} → A → B → A × B
also a b = (a, b)

-- of each of these terms
abbrev pub Each : (Term → Type 0) → List Term → Type 0
Each P [] = Unit {0}
Each P (t ∷ ts) = P t × Each P ts

pub each_at : (P : Term → Type 0) (ts : List Term) → Each P ts → (j : ℕ) → j < length ts → P (pair_at ts j)
each_at P [] h j l = absurd (omega (arith, l))
each_at P (t ∷ ts) h zero l = h.0
each_at P (t ∷ ts) h (suc j) l = each_at P ts h.1 j (omega (arith, l))

abbrev pub Apart : Term → Term → Type 0
Apart t u = in_order t.0 t.1 ≢ in_order u.0 u.1

-- no two of them are of the same two faces
abbrev pub Distinct : List Term → Type 0
Distinct [] = Unit {0}
Distinct (t ∷ ts) = Each (Apart t) ts × Distinct ts

pub distinct_at : (ts : List Term) → Distinct ts → (i j : ℕ) → i < length ts → j < length ts
    → in_order (pair_at ts i).0 (pair_at ts i).1 ≡ in_order (pair_at ts j).0 (pair_at ts j).1 → i ≡ j
distinct_at [] h i j l m e = absurd (omega (arith, l))
distinct_at (t ∷ ts) h zero zero l m e = refl
distinct_at (t ∷ ts) h zero (suc j) l m e = absurd (each_at (Apart t) ts h.0 j (omega (arith, m)) e)
distinct_at (t ∷ ts) h (suc i) zero l m e = absurd (each_at (Apart t) ts h.0 i (omega (arith, l)) (sym e))
distinct_at (t ∷ ts) h (suc i) (suc j) l m e =
    ap suc (distinct_at ts h.1 i j (omega (arith, l)) (omega (arith, m)) e)
