-- Lists in which each item comes before every later one.
use Rattle.std.proofs.Common.{◌≡◌, ℕ, zero, suc, ◌<◌, refl, sym, ◌∙◌, subst, ap, arith, List, [], ◌∷◌, ◌++◌, Option, Some, None, slice_get}
use Rattle.std.specs.List.{Contains, filter_map, cons_option}
use Rattle.std.proofs.lemmas.Option.{slice_get_within, get_or_from_slice_get, slice_get-get_or, same_Some}
use Rattle.ff_basics.proofs.Memberships.{by_member, first_member, later_member, no_member}
use Rattle.ff_basics.proofs.Lists.{filter_map_in, in_filter_map, place_of_member}

abbrev pub Rising : {X : Type 0} → (X → X → Type 0) → List X → Type 0
Rising R [] = Unit {0}
Rising {X} R (x ∷ xs) = ((y : X) → Contains xs y → R x y) × Rising R xs

-- ---- an item at a place is a member

pub at_place : {X : Type 0} (xs : List X) (n : ℕ) (x : X) → slice_get xs n ≡ Some x → Contains xs x
at_place xs n x e = (n, slice_get_within xs n x e, get_or_from_slice_get xs n x x e)

pub rising_at : {X : Type 0} (R : X → X → Type 0) (xs : List X) → Rising R xs → (m n : ℕ) (x y : X) → m < n
    → slice_get xs m ≡ Some x → slice_get xs n ≡ Some y → R x y
rising_at R [] h m n x y l a b = absurd (omega (arith, slice_get_within [] m x a))
rising_at R (z ∷ xs) h zero zero x y l a b = absurd (omega (arith, l))
rising_at R (z ∷ xs) h zero (suc n) x y l a b = subst (λ w. R w y) (same_Some z x a) (h.0 y (at_place xs n y b))
rising_at R (z ∷ xs) h (suc m) zero x y l a b = absurd (omega (arith, l))
rising_at R (z ∷ xs) h (suc m) (suc n) x y l a b = rising_at R xs h.1 m n x y (omega (arith, l)) a b

pub rising_from : {X : Type 0} (R : X → X → Type 0) (xs : List X)
    → ((m n : ℕ) (x y : X) → m < n → slice_get xs m ≡ Some x → slice_get xs n ≡ Some y → R x y) → Rising R xs
rising_from R [] h = tt
rising_from R (z ∷ xs) h = (
  λ y c. let p = place_of_member xs y c in h 0 (suc p.0) z y (omega arith) refl p.1,
  rising_from R xs (λ m n x y l a b. h (suc m) (suc n) x y (omega (arith, l)) a b),
)

-- ---- members of lists that are made

pub member_either : {X : Type 0} {P : Type 0} (xs ys : List X) (z : X) → (Contains xs z → P)
    → (Contains ys z → P) → Contains (xs ++ ys) z → P
member_either [] ys z f g m = g m
member_either (x ∷ xs) ys z f g m =
    by_member x (xs ++ ys) z (λ e. f (first_member x xs z e))
    (λ n. member_either xs ys z (λ k. f (later_member x xs z k)) g n) m

pub member_left : {X : Type 0} (xs ys : List X) (z : X) → Contains xs z → Contains (xs ++ ys) z
member_left [] ys z m = absurd (no_member z m)
member_left (x ∷ xs) ys z m = by_member x xs z (λ e. first_member x (xs ++ ys) z e)
    (λ n. later_member x (xs ++ ys) z (member_left xs ys z n)) m

pub member_right : {X : Type 0} (xs ys : List X) (z : X) → Contains ys z → Contains (xs ++ ys) z
member_right [] ys z m = m
member_right (x ∷ xs) ys z m = later_member x (xs ++ ys) z (member_right xs ys z m)

-- ---- rising lists that are made

pub rising_append : {X : Type 0} (R : X → X → Type 0) (xs ys : List X) → Rising R xs → Rising R ys
    → ((x y : X) → Contains xs x → Contains ys y → R x y) → Rising R (xs ++ ys)
rising_append R [] ys h k between = k
rising_append R (x ∷ xs) ys h k between = (
  λ y m. member_either xs ys y (h.0 y) (between x y (first_member x xs x refl)) m,
  rising_append R xs ys h.1 k (λ z y a b. between z y (later_member x xs z a) b),
)

pub rising_filter_map : {A B : Type 0} (R : A → A → Type 0) (S : B → B → Type 0) (h : A → Option B)
    → ((x y : A) (a b : B) → R x y → h x ≡ Some a → h y ≡ Some b → S a b)
    → (xs : List A) → Rising R xs → Rising S (filter_map h xs)
rising_filter_map R S h step [] k = tt
rising_filter_map {A} {B} R S h step (x ∷ xs) k = by (h x) refl (rising_filter_map R S h step xs k.1) where
  by : (o : Option B) → h x ≡ o → Rising S (filter_map h xs) → Rising S (cons_option o (filter_map h xs))
  by None e rest = rest
  by (Some a) e rest = (λ b m. (let r = in_filter_map h xs b m in step x r.0 a b (k.0 r.0 r.1) e r.2), rest)
