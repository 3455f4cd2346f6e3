-- Lists that are strictly in order and have the same members are the same.
use Rattle.std.proofs.Common.{◌≡◌, ◌≢◌, ℕ, zero, suc, ◌<◌, ◌↔◌, ◌∙◌, List, [], ◌∷◌, slice_get, Some, None, refl, ap, sym, subst, arith, length, ◌≤◌}
use Rattle.std.proofs.lemmas.Option.{none-some, same_Some}

-- each is before those that come after it
unfoldable pub InOrder : {A : Type 0} → (A → A → Type 0) → List A → Type 0
InOrder {A} R xs = (m n : ℕ) (x y : A) → m < n → slice_get xs m ≡ Some x → slice_get xs n ≡ Some y → R x y

-- it stands somewhere in the list
abbrev pub Stands : {A : Type 0} → List A → A → Type 0
Stands xs x = (n : ℕ) × (slice_get xs n ≡ Some x)

tail_order : {A : Type 0} (R : A → A → Type 0) (x : A) (xs : List A) → InOrder R (x ∷ xs) → InOrder R xs
unfolding InOrder
tail_order R x xs o m n y z l a b = o (suc m) (suc n) y z (omega (arith, l)) a b

head_order : {A : Type 0} (R : A → A → Type 0) (x : A) (xs : List A) → InOrder R (x ∷ xs) → (n : ℕ) (y : A) → slice_get xs n ≡ Some y → R x y
unfolding InOrder
head_order R x xs o n y a = o 0 (suc n) x y (omega arith) refl a

pub same_lists : {A : Type 0} (R : A → A → Type 0) → ((x y : A) → R x y → R y x → ⊥) → (xs ys : List A) → InOrder R xs → InOrder R ys
    → ((x : A) → Stands xs x ↔ Stands ys x) → xs ≡ ys
same_lists R apart [] [] a b s = refl
same_lists R apart [] (y ∷ ys) a b s = let h = (s y).1 (0, refl) in absurd (none-some y h.1)
same_lists R apart (x ∷ xs) [] a b s = let h = (s x).0 (0, refl) in absurd (none-some x h.1)
same_lists {A} R apart (x ∷ xs) (y ∷ ys) a b s = ap (λ z. z ∷ xs) heads ∙ ap (λ zs. y ∷ zs) (same_lists R apart xs ys (tail_order R x xs a) (tail_order R y ys b) tails) where
  -- the heads are the same
  first : Stands (y ∷ ys) x → Stands (x ∷ xs) y → x ≡ y
  first (zero, e) t = sym (same_Some y x e)
  first (suc n, e) (zero, f) = same_Some x y f
  first (suc n, e) (suc m, f) = absurd (apart x y (head_order R x xs a m y f) (head_order R y ys b n x e))

  heads : x ≡ y
  heads = first ((s x).0 (0, refl)) ((s y).1 (0, refl))

  -- nothing later is the head
  later : (z : A) (n : ℕ) → slice_get xs n ≡ Some z → x ≡ z → ⊥
  later z n e q = let r = head_order R x xs a n z e in apart x z r (subst (λ w. R w x) q (subst (λ w. R x w) (sym q) r))

  later2 : (z : A) (n : ℕ) → slice_get ys n ≡ Some z → y ≡ z → ⊥
  later2 z n e q = let r = head_order R y ys b n z e in apart y z r (subst (λ w. R w y) q (subst (λ w. R y w) (sym q) r))

  tails : (z : A) → Stands xs z ↔ Stands ys z
  tails z = ((λ (n, e). down n e ((s z).0 (suc n, e))), (λ (n, e). up n e ((s z).1 (suc n, e)))) where
    down : (n : ℕ) → slice_get xs n ≡ Some z → Stands (y ∷ ys) z → Stands ys z
    down n e (zero, f) = absurd (later z n e (heads ∙ same_Some y z f))
    down n e (suc m, f) = (m, f)

    up : (n : ℕ) → slice_get ys n ≡ Some z → Stands (x ∷ xs) z → Stands xs z
    up n e (zero, f) = absurd (later2 z n e (sym heads ∙ same_Some x z f))
    up n e (suc m, f) = (m, f)

-- a list of members of another is no longer
pub no_longer : {A : Type 0} (R : A → A → Type 0) → ((x y : A) → R x y → R y x → ⊥) → (xs ys : List A) → InOrder R xs → InOrder R ys → ((x : A) → Stands xs x → Stands ys x) → length xs ≤ length ys
no_longer R apart [] ys a b s = omega arith
no_longer R apart (x ∷ xs) [] a b s = let h = s x (0, refl) in absurd (none-some x h.1)
no_longer {A} R apart (x ∷ xs) (y ∷ ys) a b s = by (s x (0, refl))
    (λ f. no_longer R apart xs ys (tail_order R x xs a) (tail_order R y ys b) f) (λ f. no_longer R apart (x ∷ xs) ys a (tail_order R y ys b) f) where
      by : Stands (y ∷ ys) x → (((z : A) → Stands xs z → Stands ys z) → length xs ≤ length ys) → (((z : A) → Stands (x ∷ xs) z → Stands ys z) → length (x ∷ xs) ≤ length ys)
          → length (x ∷ xs) ≤ length (y ∷ ys)
      by (zero, e) first rest = let l = first (λ z (n, f). tails z n f (s z (suc n, f))) in omega (arith, l) where
        tails : (z : A) (n : ℕ) → slice_get xs n ≡ Some z → Stands (y ∷ ys) z → Stands ys z
        tails z n f (suc m, g) = (m, g)
        tails z n f (zero, g) =
            let same : x ≡ z = sym (same_Some y x e) ∙ same_Some y z g in
            let r = head_order R x xs a n z f in
            absurd (apart x z r (subst (λ w. R w x) same (subst (λ w. R x w) (sym same) r)))
      by (suc i, e) first rest = let l = rest (λ z (n, f). later z n f (s z (n, f))) in omega (arith, l) where
        before : R y x
        before = head_order R y ys b i x e

        later : (z : A) (n : ℕ) → slice_get (x ∷ xs) n ≡ Some z → Stands (y ∷ ys) z → Stands ys z
        later z n f (suc m, g) = (m, g)
        later z zero f (zero, g) =
            let same : x ≡ y = same_Some x z f ∙ sym (same_Some y z g) in
            absurd (apart y x before (subst (λ w. R w y) (sym same) (subst (λ w. R y w) same before)))
        later z (suc n) f (zero, g) = absurd (apart y x before (subst (λ w. R x w) (sym (same_Some y z g)) (head_order R x xs a n z f)))

-- ---- different items

-- no item stands twice
unfoldable pub Apart : {A : Type 0} → List A → Type 0
Apart {A} xs = (m n : ℕ) (x y : A) → m < n → slice_get xs m ≡ Some x → slice_get xs n ≡ Some y → x ≢ y

-- the list without the item at a place
removing : {A : Type 0} → List A → ℕ → List A
removing [] i = []
removing (y ∷ ys) zero = ys
removing (y ∷ ys) (suc i) = y ∷ removing ys i

removed_length : {A : Type 0} (ys : List A) (i : ℕ) (x : A) → slice_get ys i ≡ Some x → length ys ≡ suc (length (removing ys i))
unfolding removing
removed_length [] i x e = absurd (none-some x e)
removed_length (y ∷ ys) zero x e = refl
removed_length (y ∷ ys) (suc i) x e = ap suc (removed_length ys i x e)

removed_there : {A : Type 0} (ys : List A) (i j : ℕ) (x z : A) → slice_get ys i ≡ Some x → slice_get ys j ≡ Some z → x ≢ z → Stands (removing ys i) z
unfolding removing
removed_there [] i j x z e f d = absurd (none-some x e)
removed_there (y ∷ ys) zero zero x z e f d = absurd (d (sym (same_Some y x e) ∙ same_Some y z f))
removed_there (y ∷ ys) zero (suc j) x z e f d = (j, f)
removed_there (y ∷ ys) (suc i) zero x z e f d = (0, f)
removed_there (y ∷ ys) (suc i) (suc j) x z e f d = let h = removed_there ys i j x z e f d in (suc h.0, h.1)

-- different members of a list are no more than its items
pub no_more : {A : Type 0} (xs ys : List A) → Apart xs → ((x : A) → Stands xs x → Stands ys x) → length xs ≤ length ys
unfolding Apart
no_more [] ys a s = omega arith
no_more (x ∷ xs) ys a s =
    let h = s x (0, refl) in
    let l = no_more xs (removing ys h.0) (λ m n y z k e f. a (suc m) (suc n) y z (omega (arith, k)) e f)
    (λ z (n, e). let j = s z (suc n, e) in removed_there ys h.0 j.0 x z h.1 j.1 (a 0 (suc n) x z (omega arith) refl e)) in
    omega (arith, l, removed_length ys h.0 x h.1)
