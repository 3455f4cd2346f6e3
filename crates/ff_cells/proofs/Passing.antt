-- A number put into rising numbers, or taken out.
use Rattle.std.proofs.Common.{ℕ, zero, suc, ◌≡◌, ◌≢◌, ◌⊎◌, ◌↔◌, inl, inr, ◌+◌, ◌-◌, ◌<◌, ◌≤◌, List, length, get_or, arith, sym, ap, subst, ◌∙◌, Bool, true, false}
use Rattle.std.proofs.Common.Result.{Ok, Err}
use Rattle.std.specs.Ordering.{nat_cmp}
use Rattle.std.specs.List.Sorted.{IsBinarySearchResult}
use Rattle.std.proofs.lemmas.List.Sorted.{searched}
use Rattle.std.specs.List.{Contains, insert, remove}
use Rattle.std.specs.List.Sorted.{IsStrictlyIncreasing}
use Rattle.std.proofs.lemmas.List.{get_or_default}
use Rattle.std.proofs.lemmas.List.Edits.{get_or-insert_at, get_or-insert_below, get_or-insert_above, length-insert, get_or-remove_below, get_or-remove_above, length-remove}
use Rattle.ff_cells.specs.Pass.{IsPassed}

far : (xs : List ℕ) → IsStrictlyIncreasing xs → (n i : ℕ) → i + n + 1 < length xs
    → get_or xs i 0 < get_or xs (i + n + 1) 0
far xs up zero i lt = let e : i + 0 + 1 ≡ i + 1 = omega arith in
    subst (λ k. get_or xs i 0 < get_or xs k 0) (sym e) (up i (omega arith))
far xs up (suc n) i lt =
    let e : i + suc n + 1 ≡ i + n + 1 + 1 = omega arith in
    let h = far xs up n i (omega arith) in
    let s = up (i + n + 1) (omega arith) in
    subst (λ k. get_or xs i 0 < get_or xs k 0) (sym e) (omega arith)

pub rises : (xs : List ℕ) → IsStrictlyIncreasing xs → (i j : ℕ) → i < j → j < length xs
    → get_or xs i 0 < get_or xs j 0
rises xs up i j l lt = let e : i + (j - i - 1) + 1 ≡ j = omega arith in
    subst (λ k. get_or xs i 0 < get_or xs k 0) e (far xs up (j - i - 1) i (omega arith))

pub mono : (xs : List ℕ) → IsStrictlyIncreasing xs → (i j : ℕ) → i ≤ j → j < length xs
    → get_or xs i 0 ≤ get_or xs j 0
mono xs up i j l lt = elim (split i j l) [
  | inl h ↦ (let r = rises xs up i j h lt in
      omega arith)
  | inr e ↦ subst (λ k. get_or xs i 0 ≤ get_or xs k 0) e (le_same (get_or xs i 0))
]
  where
    split : (i j : ℕ) → i ≤ j → (i < j) ⊎ (i ≡ j)
    split i j l = grind arith

    le_same : (n : ℕ) → n ≤ n
    le_same n = omega arith

-- where y goes in xs
pub record IsSpot (xs : List ℕ) (i y : ℕ) : Type 0 where
  pub within : i ≤ length xs
  pub before : (k : ℕ) → k < i → get_or xs k 0 < y
  pub after : (k : ℕ) → i ≤ k → k < length xs → y < get_or xs k 0

pub insert_rising : (xs : List ℕ) (i y : ℕ) → IsStrictlyIncreasing xs → IsSpot xs i y
    → IsStrictlyIncreasing (insert xs i y)
insert_rising xs i y up s k lt = by_cases (split k i)
  where
    split : (k i : ℕ) → (k + 1 < i) ⊎ ((k + 1 ≡ i) ⊎ ((k ≡ i) ⊎ (i < k)))
    split k i = grind arith

    len : length (insert xs i y) ≡ length xs + 1
    len = length-insert xs i y s.within

    by_cases : (k + 1 < i) ⊎ ((k + 1 ≡ i) ⊎ ((k ≡ i) ⊎ (i < k)))
        → get_or (insert xs i y) k 0 < get_or (insert xs i y) (k + 1) 0
    by_cases (inl a) =
        let w = s.within in
        let p = get_or-insert_below xs i y 0 k (omega arith) w in
        let q = get_or-insert_below xs i y 0 (k + 1) a w in
        let u = up k (omega arith) in omega arith
    by_cases (inr (inl e)) =
        let w = s.within in
        let p = get_or-insert_below xs i y 0 k (omega arith) w in
        let q : get_or (insert xs i y) (k + 1) 0 ≡ y = ap (λ j. get_or (insert xs i y) j 0) e
        ∙ get_or-insert_at xs i y 0 w in
        let u = s.before k (omega arith) in omega arith
    by_cases (inr (inr (inl e))) =
        let w = s.within in let l = len in
        let p : get_or (insert xs i y) k 0 ≡ y = ap (λ j. get_or (insert xs i y) j 0) e
        ∙ get_or-insert_at xs i y 0 w in
        let q = get_or-insert_above xs i y 0 k (omega arith) w in
        let u = s.after k (omega arith) (omega arith) in omega arith
    by_cases (inr (inr (inr a))) =
        let w = s.within in let l = len in
        let back : (k - 1) + 1 ≡ k = omega arith in
        let p : get_or (insert xs i y) k 0 ≡ get_or xs (k - 1) 0 = ap (λ j. get_or (insert xs i y) j 0)
        (sym back) ∙ get_or-insert_above xs i y 0 (k - 1) (omega arith) w in
        let q = get_or-insert_above xs i y 0 k (omega arith) w in
        let u : get_or xs (k - 1) 0 < get_or xs k 0 = rises xs up (k - 1) k (omega arith) (omega arith) in
        omega arith

pub insert_members : (xs : List ℕ) (i y : ℕ) → i ≤ length xs → (f : ℕ)
    → Contains (insert xs i y) f ↔ IsPassed y true xs f
insert_members xs i y w f = (out, back)
  where
    len : length (insert xs i y) ≡ length xs + 1
    len = length-insert xs i y w

    split : (k i : ℕ) → (k < i) ⊎ ((k ≡ i) ⊎ (i < k))
    split k i = grind arith

    out : Contains (insert xs i y) f → (f ≡ y) ⊎ Contains xs f
    out (k, lt, e) = by_cases (split k i)
      where
        by_cases : (k < i) ⊎ ((k ≡ i) ⊎ (i < k)) → (f ≡ y) ⊎ Contains xs f
        by_cases (inl a) = inr (k, omega arith, sym (get_or-insert_below xs i y f k a w) ∙ e)
        by_cases (inr (inl a)) = inl (sym e ∙ ap (λ j. get_or (insert xs i y) j f) a
            ∙ get_or-insert_at xs i y f w)
        by_cases (inr (inr a)) =
            let l = len in
            let one : (k - 1) + 1 ≡ k = omega arith in
            inr (
              k - 1,
              omega arith,
              sym (get_or-insert_above xs i y f (k - 1) (omega arith) w)
                  ∙ ap (λ j. get_or (insert xs i y) j f) one ∙ e,
            )

    back : (f ≡ y) ⊎ Contains xs f → Contains (insert xs i y) f
    back (inl e) = let l = len in (i, omega arith, get_or-insert_at xs i y f w ∙ sym e)
    back (inr (k, lt, e)) = by_cases (either k i)
      where
        either : (k i : ℕ) → (k < i) ⊎ (i ≤ k)
        either k i = grind arith

        by_cases : (k < i) ⊎ (i ≤ k) → Contains (insert xs i y) f
        by_cases (inl a) = let l = len in (k, omega arith, get_or-insert_below xs i y f k a w ∙ e)
        by_cases (inr a) = let l = len in (k + 1, omega arith, get_or-insert_above xs i y f k a w ∙ e)

pub remove_members : (xs : List ℕ) (i y : ℕ) → IsStrictlyIncreasing xs → i < length xs → get_or xs i 0 ≡ y
    → (f : ℕ) → Contains (remove xs i) f ↔ IsPassed y false xs f
remove_members xs i y up w is f = (out, back)
  where
    len : length (remove xs i) + 1 ≡ length xs
    len = length-remove xs i w

    either : (k i : ℕ) → (k < i) ⊎ (i ≤ k)
    either k i = grind arith

    order : (k i : ℕ) → (k < i) ⊎ ((k ≡ i) ⊎ (i < k))
    order k i = grind arith

    -- an element elsewhere is another number
    other : (k : ℕ) → k < length xs → k ≢ i → get_or xs k f ≡ f → f ≢ y
    other k lt n e z = by_cases (order k i)
      where
        at_zero : get_or xs k 0 ≡ f
        at_zero = get_or_default xs k 0 f lt ∙ e

        by_cases : (k < i) ⊎ ((k ≡ i) ⊎ (i < k)) → ⊥
        by_cases (inl a) = let r = rises xs up k i a w in let z0 = at_zero in let s = is in omega arith
        by_cases (inr (inl a)) = n a
        by_cases (inr (inr a)) = let r = rises xs up i k a lt in let z0 = at_zero in let s = is in omega arith

    out : Contains (remove xs i) f → Contains xs f × (f ≢ y)
    out (k, lt, e) = by_cases (either k i)
      where
        by_cases : (k < i) ⊎ (i ≤ k) → Contains xs f × (f ≢ y)
        by_cases (inl a) =
            let l = len in
            let g : get_or xs k f ≡ f = sym (get_or-remove_below xs i f k a w) ∙ e in
            ((k, omega arith, g), other k (omega arith) (omega arith) g)
        by_cases (inr a) =
            let l = len in
            let g : get_or xs (k + 1) f ≡ f = sym (get_or-remove_above xs i f k a w) ∙ e in
            ((k + 1, omega arith, g), other (k + 1) (omega arith) (omega arith) g)

    back : Contains xs f × (f ≢ y) → Contains (remove xs i) f
    back ((k, lt, e), n) = by_cases (order k i)
      where
        by_cases : (k < i) ⊎ ((k ≡ i) ⊎ (i < k)) → Contains (remove xs i) f
        by_cases (inl a) = let l = len in (k, omega arith, get_or-remove_below xs i f k a w ∙ e)
        by_cases (inr (inl a)) = absurd (n (sym e ∙ ap (λ j. get_or xs j f) a ∙ get_or_default xs i f 0 w
            ∙ is))
        by_cases (inr (inr a)) =
            let l = len in
            let one : (k - 1) + 1 ≡ k = omega arith in (
              k - 1,
              omega arith,
              get_or-remove_above xs i f (k - 1) (omega arith) w
                  ∙ ap (λ j. get_or xs j f) one ∙ e,
            )

pub same_found : (xs : List ℕ) (i y : ℕ) → i < length xs → get_or xs i 0 ≡ y → (f : ℕ)
    → Contains xs f ↔ IsPassed y true xs f
same_found xs i y w is f = (inr, back)
  where
    back : (f ≡ y) ⊎ Contains xs f → Contains xs f
    back (inl e) = (i, w, get_or_default xs i f 0 w ∙ is ∙ sym e)
    back (inr m) = m

pub same_missing : (xs : List ℕ) (i y : ℕ) → IsSpot xs i y → (f : ℕ) → Contains xs f ↔ IsPassed y false xs f
same_missing xs i y s f = (out, λ p. p.0)
  where
    either : (k i : ℕ) → (k < i) ⊎ (i ≤ k)
    either k i = grind arith

    out : Contains xs f → Contains xs f × (f ≢ y)
    out (k, lt, e) = ((k, lt, e), λ z. by_cases z (either k i))
      where
        at_zero : get_or xs k 0 ≡ f
        at_zero = get_or_default xs k 0 f lt ∙ e

        by_cases : f ≡ y → (k < i) ⊎ (i ≤ k) → ⊥
        by_cases z (inl a) = let b = s.before k a in let q = at_zero in omega arith
        by_cases z (inr a) = let b = s.after k a lt in let q = at_zero in omega arith

-- the same with what the code knows
pub passed_by : (y : ℕ) (b c : Bool) (xs zs us : List ℕ) → b ≡ c → zs ≡ us
    → ((f : ℕ) → Contains us f ↔ IsPassed y c xs f) → (f : ℕ) → Contains zs f ↔ IsPassed y b xs f
passed_by y b c xs zs us e g h = subst (λ d. (f : ℕ) → Contains zs f ↔ IsPassed y d xs f) (sym e)
    (subst (λ ws. (f : ℕ) → Contains ws f ↔ IsPassed y c xs f) (sym g) h)

-- what `binary_search` says, of the list as it is given it
pub found : (xs us : List ℕ) (x i : ℕ) → IsStrictlyIncreasing xs → us ≡ xs
    → IsBinarySearchResult (λ y. nat_cmp y x) us (Ok i) → (i < length xs) × (get_or xs i 0 ≡ x)
found xs us x i up e h = searched xs x (Ok i) (subst (λ ws. IsBinarySearchResult (λ y. nat_cmp y x) ws (Ok i))
    e h) (mono xs up)

pub missing : (xs us : List ℕ) (x i : ℕ) → IsStrictlyIncreasing xs → us ≡ xs
    → IsBinarySearchResult (λ y. nat_cmp y x) us (Err i) → IsSpot xs i x
missing xs us x i up e h = let s = searched xs x (Err i) (subst
    (λ ws. IsBinarySearchResult (λ y. nat_cmp y x) ws (Err i)) e h) (mono xs up) in
    record { within = s.0; before = s.1; after = s.2 }
