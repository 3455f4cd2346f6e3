-- Members of mapped and filtered lists, and of ranges.
use Rattle.std.proofs.Common.{◌≡◌, ℕ, zero, suc, ◌+◌, ◌<◌, ◌≤◌, ◌==◌, Bool, true, false, List, [], ◌∷◌, map, refl, sym, ◌∙◌, subst, arith, IsTrue, cond}
use Rattle.std.specs.List.{Contains, filter, range_with_len}
use Rattle.std.proofs.lemmas.Bool.{false≢true, eqb-true, eqb-false}

pub no_member : {A : Type 0} (x : A) → Contains [] x → ⊥
no_member x m = omega (arith, m.1)

-- the first, or one of the rest
pub by_member {ℓ} : {A : Type 0} {P : Type ℓ} (y : A) (ys : List A) (x : A) → (y ≡ x → P) → (Contains ys x → P) → Contains (y ∷ ys) x → P
by_member y ys x f g (zero, h, e) = f e
by_member y ys x f g (suc k, h, e) = g (k, omega (arith, h), e)

pub first_member : {A : Type 0} (y : A) (ys : List A) (x : A) → y ≡ x → Contains (y ∷ ys) x
first_member y ys x e = (0, omega arith, e)

pub later_member : {A : Type 0} (y : A) (ys : List A) (x : A) → Contains ys x → Contains (y ∷ ys) x
later_member y ys x m = (suc m.0, omega (arith, m.1), m.2)

pub in_map : {A B : Type 0} (f : A → B) (xs : List A) (y : B) → Contains (map f xs) y → (x : A) × Contains xs x × (f x ≡ y)
in_map f [] y m = absurd (no_member y m)
in_map f (x ∷ xs) y m = by_member (f x) (map f xs) y
    (λ e. (x, first_member x xs x refl, e))
    (λ n. let r = in_map f xs y n in (r.0, later_member x xs r.0 r.1, r.2)) m

pub in_filter : {A : Type 0} (p : A → Bool) (xs : List A) (y : A) → Contains (filter p xs) y → Contains xs y × IsTrue (p y)
in_filter p [] y m = absurd (no_member y m)
in_filter p (x ∷ xs) y m = by (p x) refl (λ n. in_filter p xs y n) m where
  by : (b : Bool) → p x ≡ b → (Contains (filter p xs) y → Contains xs y × IsTrue (p y)) → Contains (cond b (x ∷ filter p xs) (filter p xs)) y → Contains (x ∷ xs) y × IsTrue (p y)
  by true e f n = by_member x (filter p xs) y (λ d. (first_member x xs y d, subst (λ z. IsTrue (p z)) d e)) (λ n. let r = f n in (later_member x xs y r.0, r.1)) n
  by false e f n = let r = f n in (later_member x xs y r.0, r.1)

pub filter_in : {A : Type 0} (p : A → Bool) (xs : List A) (y : A) → Contains xs y → IsTrue (p y) → Contains (filter p xs) y
filter_in p [] y m t = absurd (no_member y m)
filter_in p (x ∷ xs) y m t = by (p x) refl (λ n. filter_in p xs y n t) where
  by : (b : Bool) → p x ≡ b → (Contains xs y → Contains (filter p xs) y) → Contains (cond b (x ∷ filter p xs) (filter p xs)) y
  by true e f = by_member x xs y (λ d. first_member x (filter p xs) y d) (λ n. later_member x (filter p xs) y (f n)) m
  by false e f = by_member x xs y (λ d. absurd (false≢true (sym e ∙ subst (λ z. IsTrue (p z)) (sym d) t))) f m

pub in_range : (a n x : ℕ) → Contains (range_with_len a n) x → (a ≤ x) × (x < a + n)
in_range a zero x m = absurd (no_member x m)
in_range a (suc n) x m = by_member a (range_with_len (a + 1) n) x
    (λ e. (omega (arith, e), omega (arith, e)))
    (λ k. let r = in_range (a + 1) n x k in (omega (arith, r.0), omega (arith, r.1))) m

pub range_in : (a n x : ℕ) → a ≤ x → x < a + n → Contains (range_with_len a n) x
range_in a zero x h l = absurd (omega (arith, h, l))
range_in a (suc n) x h l = by (x == a) refl (λ d. range_in (a + 1) n x (grind (arith, h, d)) (omega (arith, l))) where
  by : (b : Bool) → (x == a) ≡ b → ((x ≡ a → ⊥) → Contains (range_with_len (a + 1) n) x) → Contains (a ∷ range_with_len (a + 1) n) x
  by true e f = first_member a (range_with_len (a + 1) n) x (sym (eqb-true x a e))
  by false e f = later_member a (range_with_len (a + 1) n) x (f (eqb-false x a e))
