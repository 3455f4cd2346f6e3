-- A list that is made row by row, item by item; and that it can always be finished.
use Rattle.std.proofs.Common.{◌≡◌, ℕ, zero, suc, ◌+◌, ◌-◌, ◌<◌, ◌≤◌, ◌==◌, ◌&&◌, ◌||◌, ◌⊎◌, Bool, true, false, List, [], ◌∷◌, ◌++◌, length, refl, sym, ◌∙◌, ap, subst, inl, inr, arith, IsTrue, Some, slice_get, nat_lt}
use Rattle.std.proofs.lemmas.Bool.{cases_lt, lt-ltb}
use Rattle.std.proofs.lemmas.Option.{slice_get_within, same_Some}
use Rattle.ff_basics.proofs.Numbers.{same_number}
use Rattle.ff_basics.proofs.Lists.{get_before, get_either, get_last}
use Rattle.ff_types.specs.Pairs.{is_before}
use Rattle.ff_edges.specs.Listing.{IsPrior, HasKey, IsListedTo}

before_by : (p q : ℕ × ℕ) → IsPrior p q.0 q.1 → IsTrue (is_before p q)
before_by p q (inl h) = rw (lt-ltb p.0 q.0 h) refl
before_by p q (inr (e, h)) = by (nat_lt p.0 q.0) where
  same : IsTrue (p.0 == q.0 && nat_lt p.1 q.1)
  same = rw (e, same_number q.0, lt-ltb p.1 q.1 h) refl

  by : (b : Bool) → IsTrue (b || (p.0 == q.0 && nat_lt p.1 q.1))
  by true = refl
  by false = same

-- ---- a list with one more

pub one_longer : {A : Type 0} (xs : List A) (y : A) → length (xs ++ y ∷ []) ≡ length xs + 1
one_longer [] y = refl
one_longer (z ∷ xs) y = let e = one_longer xs y in omega (arith, e)

module _ {X : Type 0} (key : X → ℕ × ℕ) (Good : X → Type 0) (Wanted : ℕ → ℕ → Type 0) where
  abbrev Listed : ℕ → ℕ → List X → Type 0
  Listed i j list = IsListedTo key Good Wanted i j list

  pub listed_none : Listed 0 0 []
  listed_none = record {
    sorted = λ m n x y l a b. absurd (omega (arith, slice_get_within [] m x a));
    only = λ n x e. absurd (omega (arith, slice_get_within [] n x e));
    all = λ a b w h. absurd (none a b h);
  } where
    none : (a b : ℕ) → IsPrior (a, b) 0 0 → ⊥
    none a b (inl h) = omega (arith, h)
    none a b (inr h) = omega (arith, h.1)

  move : (i j i' j' : ℕ) (list : List X) → ((p : ℕ × ℕ) → IsPrior p i j → IsPrior p i' j')
      → ((a b : ℕ) → Wanted a b → IsPrior (a, b) i' j' → IsPrior (a, b) i j) → Listed i j list → Listed i' j' list
  move i j i' j' list on back s = record {
    sorted = s.sorted;
    only = λ n x e. let o = s.only n x e in (o.0, on (key x) o.1);
    all = λ a b w k. s.all a b w (back a b w k);
  }

  -- a row ends where no later column is wanted
  pub row_ends : (i : ℕ) (list : List X) (j : ℕ) → ((b : ℕ) → Wanted i b → b < j) → Listed i j list → Listed (i + 1) 0 list
  row_ends i list j last s = move i j (i + 1) 0 list on back s where
    on : (p : ℕ × ℕ) → IsPrior p i j → IsPrior p (i + 1) 0
    on p (inl k) = inl (omega (arith, k))
    on p (inr k) = inl (omega (arith, k.0))

    either : (a : ℕ) → a < i + 1 → (a < i) ⊎ (a ≡ i)
    either a l = grind (arith, l)

    back : (a b : ℕ) → Wanted a b → IsPrior (a, b) (i + 1) 0 → IsPrior (a, b) i j
    back a b w (inr k) = absurd (omega (arith, k.1))
    back a b w (inl k) = elim (either a k) [ inl e ↦ inl e | inr e ↦ inr (e, last b (subst (λ n. Wanted n b) e w)) ]

  next_prior : (p : ℕ × ℕ) (i j : ℕ) → IsPrior p i j → IsPrior p i (j + 1)
  next_prior p i j (inl k) = inl k
  next_prior p i j (inr k) = inr (k.0, omega (arith, k.1))

  either_prior : (a b i j : ℕ) → IsPrior (a, b) i (j + 1) → IsPrior (a, b) i j ⊎ ((a ≡ i) × (b ≡ j))
  either_prior a b i j (inl k) = inl (inl k)
  either_prior a b i j (inr k) = by (either k.1) where
    either : b < j + 1 → (b < j) ⊎ (b ≡ j)
    either l = grind (arith, l)

    by : (b < j) ⊎ (b ≡ j) → IsPrior (a, b) i j ⊎ ((a ≡ i) × (b ≡ j))
    by (inl l) = inl (inr (k.0, l))
    by (inr e) = inr (k.0, e)

  pub skip : (i j : ℕ) (list : List X) → (Wanted i j → ⊥) → Listed i j list → Listed i (j + 1) list
  skip i j list unwanted s = move i j i (j + 1) list (λ p k. next_prior p i j k) back s where
    back : (a b : ℕ) → Wanted a b → IsPrior (a, b) i (j + 1) → IsPrior (a, b) i j
    back a b w k = elim (either_prior a b i j k) [ inl e ↦ e | inr e ↦ absurd (unwanted (subst (λ x. Wanted x j) e.0 (subst (λ y. Wanted a y) e.1 w))) ]

  -- from one column up to another none is wanted
  pub skip_to : (i j k : ℕ) (list : List X) → j ≤ k → ((b : ℕ) → j ≤ b → b < k → Wanted i b → ⊥) → Listed i j list → Listed i k list
  skip_to i j k list up unwanted s = move i j i k list on back s where
    on : (p : ℕ × ℕ) → IsPrior p i j → IsPrior p i k
    on p (inl l) = inl l
    on p (inr l) = inr (l.0, omega (arith, l.1, up))

    either : (b : ℕ) → b < k → (b < j) ⊎ ((j ≤ b) × (b < k))
    either b l = elim (cases_lt b j) [ inl m ↦ inl m | inr m ↦ inr (m, l) ]

    back : (a b : ℕ) → Wanted a b → IsPrior (a, b) i k → IsPrior (a, b) i j
    back a b w (inl l) = inl l
    back a b w (inr (e, l)) = elim (either b l) [ inl m ↦ inr (e, m) | inr m ↦ absurd (unwanted b m.0 m.1 (subst (λ x. Wanted x b) e w)) ]

  pub take : (i j : ℕ) (list : List X) (x : X) → key x ≡ (i, j) → Good x → Listed i j list → Listed i (j + 1) (list ++ x ∷ [])
  take i j list x at good s = record { sorted = sorted; only = only; all = all } where
    sorted : (m n : ℕ) (y z : X) → m < n → slice_get (list ++ x ∷ []) m ≡ Some y → slice_get (list ++ x ∷ []) n ≡ Some z → IsTrue (is_before (key y) (key z))
    sorted m n y z l a b = by (get_either list x y m a) (get_either list x z n b) where
      by : (slice_get list m ≡ Some y) ⊎ ((m ≡ length list) × (y ≡ x)) → (slice_get list n ≡ Some z) ⊎ ((n ≡ length list) × (z ≡ x)) → IsTrue (is_before (key y) (key z))
      by (inl c) (inl d) = s.sorted m n y z l c d
      by (inl c) (inr d) = subst (λ r. IsTrue (is_before (key y) r)) (sym (ap key d.1 ∙ at)) (before_by (key y) (i, j) (s.only m y c).1)
      by (inr c) (inl d) = absurd (omega (arith, l, c.0, slice_get_within list n z d))
      by (inr c) (inr d) = absurd (omega (arith, l, c.0, d.0))

    only : (n : ℕ) (y : X) → slice_get (list ++ x ∷ []) n ≡ Some y → Good y × IsPrior (key y) i (j + 1)
    only n y e = elim (get_either list x y n e) [
      | inl d ↦ (let o = s.only n y d in (o.0, next_prior (key y) i j o.1))
      | inr d ↦ subst (λ z. Good z × IsPrior (key z) i (j + 1)) (sym d.1) (good, subst (λ p. IsPrior p i (j + 1)) (sym at) (inr (refl, omega arith)))
    ]

    all : (a b : ℕ) → Wanted a b → IsPrior (a, b) i (j + 1) → HasKey key (list ++ x ∷ []) (a, b)
    all a b w k = elim (either_prior a b i j k) [
      | inl e ↦ (let r = s.all a b w e in (r.0, r.1, get_before list x r.1 r.0 r.2, r.3))
      | inr e ↦ (length list, x, get_last list x, at ∙ (λ n. (sym e.0 n, sym e.1 n)))
    ]

  -- ---- a list that is begun can be finished

  module _ (rows columns : ℕ) (few : (a b : ℕ) → Wanted a b → (a < rows) × (b < columns))
      (decided : (i j : ℕ) → ((x : X) × (key x ≡ (i, j)) × Good x) ⊎ (Wanted i j → ⊥)) where
    step : (i j : ℕ) (list : List X) → Listed i j list → (more : List X) × Listed i (j + 1) more × (length list ≤ length more)
    step i j list s = elim (decided i j) [
      | inl (x, at, good) ↦ (list ++ x ∷ [], take i j list x at good s, (let e = one_longer list x in omega (arith, e)))
      | inr unwanted ↦ (list, skip i j list unwanted s, omega arith)
    ]

    finish_row : (m i j : ℕ) (list : List X) → columns ≤ j + m → Listed i j list → (more : List X) × Listed (i + 1) 0 more × (length list ≤ length more)
    finish_row zero i j list far s = (list, row_ends i list j (λ b w. let l = (few i b w).1 in omega (arith, l, far)) s, omega arith)
    finish_row (suc m) i j list far s =
        let a = step i j list s in
        let b = finish_row m i (j + 1) a.0 (omega (arith, far)) a.1 in
        let u = a.2 in let v = b.2 in
        (b.0, b.1, omega (arith, u, v))

    finish_rows : (m i : ℕ) (list : List X) → i + m ≡ rows → Listed i 0 list → (more : List X) × Listed rows 0 more × (length list ≤ length more)
    finish_rows zero i list all s = (list, subst (λ n. Listed n 0 list) (omega (arith, all)) s, omega arith)
    finish_rows (suc m) i list all s =
        let a = finish_row columns i 0 list (omega arith) s in
        let b = finish_rows m (i + 1) a.0 (omega (arith, all)) a.1 in
        let u = a.2 in let v = b.2 in
        (b.0, b.1, omega (arith, u, v))

    pub finish : (i j : ℕ) (list : List X) → i < rows → Listed i j list → (more : List X) × Listed rows 0 more × (length list ≤ length more)
    finish i j list l s =
        let a = finish_row columns i j list (omega arith) s in
        let b = finish_rows (rows - (i + 1)) (i + 1) a.0 (omega (arith, l)) a.1 in
        let u = a.2 in let v = b.2 in
        (b.0, b.1, omega (arith, u, v))
