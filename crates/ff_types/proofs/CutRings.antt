-- The two lists of corners on either side of a chord from i to j.
use Rattle.std.proofs.Common.{◌≡◌, ℕ, ◌+◌, ◌-◌, ◌<◌, ◌≤◌, ◌⊎◌, inl, inr, sym, ◌∙◌, ap, subst, arith, length}
use Rattle.std.specs.List.{range_with_len}
use Rattle.std.proofs.lemmas.Bool.{cases_lt}
use Rattle.std.proofs.lemmas.Bool.Decides.{nat_tests}
use Rattle.std.proofs.lemmas.List.{length-append, get_or_append_left, get_or-append_right}
use Rattle.std.proofs.lemmas.List.FromFn.{get_or-range_with_len, length-range_with_len}
use Rattle.ff_whole.specs.Convex.{next}
use Rattle.ff_types.specs.Rings.{corner, Goes}
use Rattle.ff_types.specs.OneCrease.{inner, outer}
use Rattle.ff_types.proofs.SubRings.{Rises}

range_at : (a m k : ℕ) → k < m → corner (range_with_len a m) k ≡ a + k
range_at a m k h = get_or-range_with_len a m k 0 h

module _ (n i j : ℕ) (far : i + 1 < j) (jn : j < n) where
  inner_size : length (inner i j) ≡ j + 1 - i
  inner_size = length-range_with_len i (j + 1 - i)

  outer_size : length (outer n i j) ≡ i + 1 + (n - j)
  outer_size = length-append (range_with_len 0 (i + 1)) (range_with_len j (n - j)) ∙ sum (length-range_with_len 0 (i + 1)) (length-range_with_len j (n - j)) where
    sum : {a b c d : ℕ} → a ≡ c → b ≡ d → a + b ≡ c + d
    sum {a} {b} {c} {d} e f = omega (arith, e, f)

  pub outer_length : length (outer n i j) ≡ i + 1 + (n - j)
  outer_length = outer_size

  inner_at : (a : ℕ) → a < length (inner i j) → corner (inner i j) a ≡ i + a
  inner_at a h = range_at i (j + 1 - i) a (subst (λ m. a < m) inner_size h)

  outer_front : (a : ℕ) → a < i + 1 → corner (outer n i j) a ≡ a
  outer_front a h = get_or_append_left (range_with_len 0 (i + 1)) (range_with_len j (n - j)) 0 a (subst (λ m. a < m) (sym (length-range_with_len 0 (i + 1))) h) ∙ (range_at 0 (i + 1) a h ∙ none a) where
    none : (a : ℕ) → 0 + a ≡ a
    none a = omega arith

  outer_back : (a : ℕ) → i + 1 ≤ a → a < length (outer n i j) → corner (outer n i j) a ≡ j + (a - (i + 1))
  outer_back a h l = get_or-append_right (range_with_len 0 (i + 1)) (range_with_len j (n - j)) (i + 1) a 0 (length-range_with_len 0 (i + 1)) h ∙ range_at j (n - j) (a - (i + 1)) (omega (arith, h, l, outer_size))

  pub outer_first : (a : ℕ) → a < i + 1 → corner (outer n i j) a ≡ a
  outer_first a h = outer_front a h

  pub outer_second : i ≡ 0 → corner (outer n i j) 1 ≡ j
  outer_second e = outer_back 1 (omega (arith, e)) (omega (arith, outer_size, e, jn)) ∙ first e where
    first : i ≡ 0 → j + (1 - (i + 1)) ≡ j
    first e = omega (arith, e)

  -- ---- they rise

  pub inner_rises : Rises n (inner i j)
  inner_rises = record {
    low = λ a h. let e = inner_at a h in omega (arith, e, h, inner_size, jn, far);
    rising = λ a b h l. let e = inner_at a (omega (arith, h, l)) in let f = inner_at b l in omega (arith, e, f, h);
  }

  place_of : (a : ℕ) → a < length (outer n i j) → ((a < i + 1) × (corner (outer n i j) a ≡ a)) ⊎ ((i + 1 ≤ a) × (corner (outer n i j) a ≡ j + (a - (i + 1))))
  place_of a h = elim (cases_lt a (i + 1)) [ inl l ↦ inl (l, outer_front a l) | inr l ↦ inr (l, outer_back a l h) ]

  pub outer_rises : Rises n (outer n i j)
  outer_rises = record {
    low = λ a h. elim (place_of a h) [ inl x ↦ omega (arith, x.0, x.1, far, jn) | inr x ↦ omega (arith, x.0, x.1, h, outer_size, jn) ];
    rising = rising;
  } where
    rising : (a b : ℕ) → a < b → b < length (outer n i j) → corner (outer n i j) a < corner (outer n i j) b
    rising a b h l = elim (place_of a (omega (arith, h, l))) [
      | inl x ↦ elim (place_of b l) [ inl y ↦ omega (arith, x.1, y.1, h) | inr y ↦ omega (arith, x.0, x.1, y.0, y.1, far) ]
      | inr x ↦ elim (place_of b l) [ inl y ↦ absurd (omega (arith, x.0, y.0, h)) | inr y ↦ omega (arith, x.0, x.1, y.0, y.1, h) ]
    ]

  -- ---- which steps they take

  inside_next : (m a : ℕ) → a + 1 < m → next m a ≡ a + 1
  inside_next m a h = grind (arith, nat_tests, h)

  last_next : (m a : ℕ) → a < m → m ≤ a + 1 → next m a ≡ 0
  last_next m a h l = grind (arith, nat_tests, h, l)

  pub inner_goes : (k : ℕ) → i ≤ k → k < j → Goes (inner i j) k (next n k)
  inner_goes k h l = record {
    place = k - i;
    inside = omega (arith, inner_size, h, l);
    from = inner_at (k - i) (omega (arith, inner_size, h, l)) ∙ whole k h;
    to = ap (λ x. corner (inner i j) x) (inside_next (length (inner i j)) (k - i) (omega (arith, inner_size, h, l))) ∙ (inner_at (k - i + 1) (omega (arith, inner_size, h, l)) ∙ (more k h ∙ sym (inside_next n k (omega (arith, l, jn)))));
  } where
    whole : (k : ℕ) → i ≤ k → i + (k - i) ≡ k
    whole k h = omega (arith, h)

    more : (k : ℕ) → i ≤ k → i + (k - i + 1) ≡ k + 1
    more k h = omega (arith, h)

  pub inner_closes : Goes (inner i j) j i
  inner_closes = record {
    place = j - i;
    inside = omega (arith, inner_size, far);
    from = inner_at (j - i) (omega (arith, inner_size, far)) ∙ whole;
    to = ap (λ x. corner (inner i j) x) (last_next (length (inner i j)) (j - i) (omega (arith, inner_size, far)) (omega (arith, inner_size, far))) ∙ (inner_at 0 (omega (arith, inner_size, far)) ∙ first);
  } where
    whole : i + (j - i) ≡ j
    whole = omega (arith, far)

    first : i + 0 ≡ i
    first = omega arith

  pub inner_steps : (u v : ℕ) → Goes (inner i j) u v → ((i ≤ u) × (u < j) × (v ≡ next n u)) ⊎ ((u ≡ j) × (v ≡ i))
  inner_steps u v g = elim (cases_lt (g.place + 1) (length (inner i j))) [
    | inl l ↦ (let e = inner_at g.place g.inside in let f = inner_at (g.place + 1) l in let x = inside_next (length (inner i j)) g.place l in
        let gf = g.from in
        let low : i ≤ u = omega (arith, e, gf) in
        let high : u < j = omega (arith, e, gf, l, inner_size, far) in
        inl (low, high, sym g.to ∙ (ap (λ y. corner (inner i j) y) x ∙ (f ∙ (step e gf ∙ sym (inside_next n u (omega (arith, high, jn))))))))
    | inr l ↦ (let e = inner_at g.place g.inside in let gf = g.from in let gi = g.inside in
        inr (omega (arith, e, gf, gi, l, inner_size, far), sym g.to ∙ (ap (λ y. corner (inner i j) y) (last_next (length (inner i j)) g.place gi l) ∙ (inner_at 0 (omega (arith, gi)) ∙ first))))
  ] where
    step : corner (inner i j) g.place ≡ i + g.place → corner (inner i j) g.place ≡ u → i + (g.place + 1) ≡ u + 1
    step e f = omega (arith, e, f)

    first : i + 0 ≡ i
    first = omega arith

  -- the last before the chord is followed by its other end
  over : corner (outer n i j) (next (length (outer n i j)) i) ≡ j
  over = ap (λ x. corner (outer n i j) x) (inside_next (length (outer n i j)) i (omega (arith, outer_size, jn))) ∙ (outer_back (i + 1) (omega arith) (omega (arith, outer_size, jn)) ∙ first) where
    first : j + (i + 1 - (i + 1)) ≡ j
    first = omega arith

  pub outer_crosses : Goes (outer n i j) i j
  outer_crosses = record { place = i; inside = omega (arith, outer_size, jn); from = outer_front i (omega arith); to = over }

  pub outer_goes : (k : ℕ) → (k < i) ⊎ (j ≤ k) → k < n → Goes (outer n i j) k (next n k)
  outer_goes k (inl h) l = record {
    place = k;
    inside = omega (arith, outer_size, h);
    from = outer_front k (omega (arith, h));
    to = ap (λ x. corner (outer n i j) x) (inside_next (length (outer n i j)) k (omega (arith, outer_size, h))) ∙ (outer_front (k + 1) (omega (arith, h)) ∙ sym (inside_next n k (omega (arith, h, far, jn))));
  }
  outer_goes k (inr h) l = record {
    place = k - j + (i + 1);
    inside = omega (arith, outer_size, h, l);
    from = outer_back (k - j + (i + 1)) (omega arith) (omega (arith, outer_size, h, l)) ∙ whole;
    to = elim (cases_lt (k + 1) n) [
      | inl m ↦ ap (λ x. corner (outer n i j) x) (inside_next (length (outer n i j)) (k - j + (i + 1)) (omega (arith, outer_size, h, m))) ∙ (outer_back (k - j + (i + 1) + 1) (omega arith) (omega (arith, outer_size, h, m)) ∙ (more ∙ sym (inside_next n k m)))
      | inr m ↦ ap (λ x. corner (outer n i j) x) (last_next (length (outer n i j)) (k - j + (i + 1)) (omega (arith, outer_size, h, l)) (omega (arith, outer_size, h, l, m))) ∙ (outer_front 0 (omega arith) ∙ sym (last_next n k l (omega (arith, m))))
    ];
  } where
    whole : j + (k - j + (i + 1) - (i + 1)) ≡ k
    whole = omega (arith, h)

    more : j + (k - j + (i + 1) + 1 - (i + 1)) ≡ k + 1
    more = omega (arith, h)

  pub outer_steps : (u v : ℕ) → Goes (outer n i j) u v → (((u < i) ⊎ (j ≤ u)) × (u < n) × (v ≡ next n u)) ⊎ ((u ≡ i) × (v ≡ j))
  outer_steps u v g = elim (cases_lt g.place i) [
    | inl l ↦ (let e = outer_front g.place (omega (arith, l)) in let gf = g.from in
        inl (inl (omega (arith, e, gf, l)), omega (arith, e, gf, l, far, jn), sym g.to ∙ (ap (λ y. corner (outer n i j) y) (inside_next (length (outer n i j)) g.place (omega (arith, l, outer_size))) ∙ (outer_front (g.place + 1) (omega (arith, l)) ∙ (front e gf ∙ sym (inside_next n u (omega (arith, e, gf, l, far, jn))))))))
    | inr l ↦ elim (cases_lt i g.place) [
      | inl m ↦ back m
      | inr m ↦ (let p : g.place ≡ i = omega (arith, l, m) in inr (sym g.from ∙ (ap (λ y. corner (outer n i j) y) p ∙ outer_front i (omega arith)), sym g.to ∙ (ap (λ y. corner (outer n i j) (next (length (outer n i j)) y)) p ∙ over)))
    ]
  ] where
    front : corner (outer n i j) g.place ≡ g.place → corner (outer n i j) g.place ≡ u → g.place + 1 ≡ u + 1
    front e f = omega (arith, e, f)

    one_place : (a b : ℕ) → a < length (outer n i j) → b < length (outer n i j) → corner (outer n i j) a ≡ corner (outer n i j) b → a ≡ b
    one_place a b h l e = elim (cases_lt a b) [
      | inl m ↦ absurd (omega (arith, outer_rises.rising a b m l, e))
      | inr m ↦ elim (cases_lt b a) [ inl o ↦ absurd (omega (arith, outer_rises.rising b a o h, e)) | inr o ↦ omega (arith, m, o) ]
    ]

    back : i < g.place → (((u < i) ⊎ (j ≤ u)) × (u < n) × (v ≡ next n u)) ⊎ ((u ≡ i) × (v ≡ j))
    back m =
        let gi = g.inside in
        let gf = g.from in
        let e = outer_back g.place (omega (arith, m)) gi in
        let high : j ≤ u = omega (arith, e, gf) in
        let low : u < n = omega (arith, e, gf, gi, m, outer_size, jn) in
        let o = outer_goes u (inr high) low in
        let same : o.place ≡ g.place = one_place o.place g.place o.inside gi (o.from ∙ sym gf) in
        inl (inr high, low, sym g.to ∙ (ap (λ y. corner (outer n i j) (next (length (outer n i j)) y)) (sym same) ∙ o.to))
