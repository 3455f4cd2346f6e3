-- Pairs listed from a table of flags, one after the other.
use Rattle.std.proofs.Common.{◌≡◌, ℕ, zero, suc, ◌+◌, ◌<◌, ◌==◌, ◌&&◌, ◌||◌, ◌⊎◌, Bool, true, false, List, [], ◌∷◌, ◌++◌, length, refl, sym, ◌∙◌, ap, subst, inl, inr, arith, IsTrue, Some, slice_get, nat_lt}
use Rattle.std.proofs.lemmas.Bool.{lt-ltb}
use Rattle.std.proofs.lemmas.Option.{slice_get_within, same_Some}
use Rattle.ff_basics.proofs.Numbers.{same_number}
use Rattle.ff_basics.proofs.Lists.{get_before, get_either, get_last}
use Rattle.ff_types.specs.Pairs.{is_before}
use Rattle.ff_pairs.specs.Together.{IsListed}
use Rattle.ff_pairs.specs.Tables.{is_marked, IsPrior, AreMarked, IsListedTo}

before_by : (p q : ℕ × ℕ) → IsPrior p q.0 q.1 → IsTrue (is_before p q)
before_by p q (inl h) = rw (lt-ltb p.0 q.0 h) refl
before_by p q (inr (e, h)) = by (nat_lt p.0 q.0) where
  same : IsTrue (p.0 == q.0 && nat_lt p.1 q.1)
  same = rw (e, same_number q.0, lt-ltb p.1 q.1 h) refl

  by : (b : Bool) → IsTrue (b || (p.0 == q.0 && nat_lt p.1 q.1))
  by true = refl
  by false = same

-- ---- a list with one more

-- ---- the steps

module _ (w : ℕ) (table : List Bool) where
  pub listed_none : IsListedTo w table 0 0 []
  listed_none = record {
    sorted = record { rising = λ n p e. absurd (omega (arith, slice_get_within [] n p e)); sorted = λ m n p q l a b. absurd (omega (arith, slice_get_within [] m p a)) };
    only = λ n p e. absurd (omega (arith, slice_get_within [] n p e));
    all = λ a b l m h. absurd (no a b h);
  } where
    no : (a b : ℕ) → IsPrior (a, b) 0 0 → ⊥
    no a b (inl h) = omega (arith, h)
    no a b (inr h) = omega (arith, h.1)

  -- a place that no later pair can have is passed by
  move : (f h f' h' : ℕ) (list : List (ℕ × ℕ)) → ((p : ℕ × ℕ) → IsPrior p f h → IsPrior p f' h')
      → ((a b : ℕ) → a < b → AreMarked w table a b → IsPrior (a, b) f' h' → IsPrior (a, b) f h)
      → IsListedTo w table f h list → IsListedTo w table f' h' list
  move f h f' h' list on back s = record {
    sorted = s.sorted;
    only = λ n p e. let o = s.only n p e in (o.0, on p o.1);
    all = λ a b l m k. s.all a b l m (back a b l m k);
  }

  -- a row begins with the face after its own
  pub row_begins : (f : ℕ) (list : List (ℕ × ℕ)) → IsListedTo w table f 0 list → IsListedTo w table f (f + 1) list
  row_begins f list s = move f 0 f (f + 1) list on back s where
    on : (p : ℕ × ℕ) → IsPrior p f 0 → IsPrior p f (f + 1)
    on p (inl h) = inl h
    on p (inr h) = absurd (omega (arith, h.1))

    back : (a b : ℕ) → a < b → AreMarked w table a b → IsPrior (a, b) f (f + 1) → IsPrior (a, b) f 0
    back a b l m (inl h) = inl h
    back a b l m (inr h) = absurd (omega (arith, l, h.0, h.1))

  -- and ends before the next
  pub row_ends : (f : ℕ) (list : List (ℕ × ℕ)) (h : ℕ) → ((b : ℕ) → AreMarked w table f b → b < h) → IsListedTo w table f h list → IsListedTo w table (f + 1) 0 list
  row_ends f list h far s = move f h (f + 1) 0 list on back s where
    on : (p : ℕ × ℕ) → IsPrior p f h → IsPrior p (f + 1) 0
    on p (inl k) = inl (omega (arith, k))
    on p (inr k) = inl (omega (arith, k.0))

    either : (a : ℕ) → a < f + 1 → (a < f) ⊎ (a ≡ f)
    either a l = grind (arith, l)

    back : (a b : ℕ) → a < b → AreMarked w table a b → IsPrior (a, b) (f + 1) 0 → IsPrior (a, b) f h
    back a b l m (inr k) = absurd (omega (arith, k.1))
    back a b l m (inl k) = elim (either a k) [ inl e ↦ inl e | inr e ↦ inr (e, far b (subst (λ x. AreMarked w table x b) e m)) ]

  next_prior : (p : ℕ × ℕ) (f h : ℕ) → IsPrior p f h → IsPrior p f (h + 1)
  next_prior p f h (inl k) = inl k
  next_prior p f h (inr k) = inr (k.0, omega (arith, k.1))

  either_prior : (a b f h : ℕ) → IsPrior (a, b) f (h + 1) → IsPrior (a, b) f h ⊎ ((a ≡ f) × (b ≡ h))
  either_prior a b f h (inl k) = inl (inl k)
  either_prior a b f h (inr k) = by (either k.1) where
    either : b < h + 1 → (b < h) ⊎ (b ≡ h)
    either l = grind (arith, l)

    by : (b < h) ⊎ (b ≡ h) → IsPrior (a, b) f h ⊎ ((a ≡ f) × (b ≡ h))
    by (inl l) = inl (inr (k.0, l))
    by (inr e) = inr (k.0, e)

  -- a pair that isn't marked is passed by
  pub skip : (f h : ℕ) (list : List (ℕ × ℕ)) → (IsTrue (is_marked w table f h) → ⊥) → IsListedTo w table f h list → IsListedTo w table f (h + 1) list
  skip f h list unmarked s = move f h f (h + 1) list (λ p k. next_prior p f h k) back s where
    back : (a b : ℕ) → a < b → AreMarked w table a b → IsPrior (a, b) f (h + 1) → IsPrior (a, b) f h
    back a b l m k = elim (either_prior a b f h k) [ inl e ↦ e | inr e ↦ absurd (unmarked (subst (λ x. IsTrue (is_marked w table x h)) e.0 (subst (λ y. IsTrue (is_marked w table a y)) e.1 m.2))) ]

  -- a marked pair is appended
  pub take : (f h : ℕ) (list : List (ℕ × ℕ)) → f < h → AreMarked w table f h → IsListedTo w table f h list → IsListedTo w table f (h + 1) (list ++ (f, h) ∷ [])
  take f h list lt m s = record { sorted = record { rising = rising; sorted = sorted }; only = only; all = all } where
    rising : (n : ℕ) (p : ℕ × ℕ) → slice_get (list ++ (f, h) ∷ []) n ≡ Some p → p.0 < p.1
    rising n p e = elim (get_either list (f, h) p n e) [ inl d ↦ s.sorted.rising n p d | inr d ↦ subst (λ (q : ℕ × ℕ). q.0 < q.1) (sym d.1) lt ]

    sorted : (i j : ℕ) (p q : ℕ × ℕ) → i < j → slice_get (list ++ (f, h) ∷ []) i ≡ Some p → slice_get (list ++ (f, h) ∷ []) j ≡ Some q → IsTrue (is_before p q)
    sorted i j p q l a b = by (get_either list (f, h) p i a) (get_either list (f, h) q j b) where
      by : (slice_get list i ≡ Some p) ⊎ ((i ≡ length list) × (p ≡ (f, h))) → (slice_get list j ≡ Some q) ⊎ ((j ≡ length list) × (q ≡ (f, h))) → IsTrue (is_before p q)
      by (inl c) (inl d) = s.sorted.sorted i j p q l c d
      by (inl c) (inr d) = subst (λ r. IsTrue (is_before p r)) (sym d.1) (before_by p (f, h) (s.only i p c).1)
      by (inr c) (inl d) = absurd (omega (arith, l, c.0, slice_get_within list j q d))
      by (inr c) (inr d) = absurd (omega (arith, l, c.0, d.0))

    only : (n : ℕ) (p : ℕ × ℕ) → slice_get (list ++ (f, h) ∷ []) n ≡ Some p → AreMarked w table p.0 p.1 × IsPrior p f (h + 1)
    only n p e = elim (get_either list (f, h) p n e) [
      | inl d ↦ (let o = s.only n p d in (o.0, next_prior p f h o.1))
      | inr d ↦ subst (λ (q : ℕ × ℕ). AreMarked w table q.0 q.1 × IsPrior q f (h + 1)) (sym d.1) (m, inr (refl, omega arith))
    ]

    all : (a b : ℕ) → a < b → AreMarked w table a b → IsPrior (a, b) f (h + 1) → IsListed (list ++ (f, h) ∷ []) a b
    all a b l n k = elim (either_prior a b f h k) [
      | inl e ↦ (let r = s.all a b l n e in (r.0, get_before list (f, h) (a, b) r.0 r.1))
      | inr e ↦ (length list, get_last list (f, h) ∙ ap Some (λ i. (sym e.0 i, sym e.1 i)))
    ]
