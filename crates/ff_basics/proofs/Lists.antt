-- Lists: what holds of each element or of some, filtered lists, and lists with one element more.
use Rattle.std.proofs.Common.{◌≡◌, ℕ, zero, suc, ◌<◌, ◌⊎◌, inl, inr, refl, sym, ◌∙◌, ap, subst, arith, Bool, IsTrue, List, [], ◌∷◌, ◌++◌, length, Some, None, Option, slice_get}
use Rattle.std.specs.List.{list_all, list_any, Contains, All, filter_map, cons_option}
use Rattle.std.proofs.lemmas.Bool.{false≢true}
use Rattle.std.proofs.lemmas.Option.{slice_get_within, slice_get-get_or}
use Rattle.std.proofs.lemmas.List.Elements.{All-nil, All-cons}
use Rattle.ff_basics.proofs.Memberships.{no_member, by_member, first_member, later_member}
use Rattle.ff_basics.proofs.Options.{some_same}
use Rattle.ff_basics.proofs.Tests.{both_of, of_both, either_of, of_first, of_second}

-- ---- tests of lists

pub all_from : {A : Type 0} (p : A → Bool) (l : List A) → ((x : A) → Contains l x → IsTrue (p x))
    → IsTrue (list_all p l)
all_from p [] f = refl
all_from p (y ∷ l) f = of_both (p y) (list_all p l) (f y (first_member y l y refl))
    (all_from p l (λ x m. f x (later_member y l x m)))

pub all_at : {A : Type 0} (p : A → Bool) (l : List A) → IsTrue (list_all p l) → (x : A) → Contains l x
    → IsTrue (p x)
all_at p [] t x c = absurd (no_member x c)
all_at p (y ∷ l) t x c = by_member y l x (λ e. subst (λ z. IsTrue (p z)) e (both_of (p y) (list_all p l) t).0)
    (λ n. all_at p l (both_of (p y) (list_all p l) t).1 x n) c

pub some_at : {A : Type 0} (p : A → Bool) (l : List A) → IsTrue (list_any p l)
    → (x : A) × Contains l x × IsTrue (p x)
some_at p [] t = absurd (false≢true t)
some_at p (y ∷ l) t = elim (either_of (p y) (list_any p l) t) [
  | inl u ↦ (y, first_member y l y refl, u)
  | inr u ↦ let r = some_at p l u in (r.0, later_member y l r.0 r.1, r.2)
]

pub some_from : {A : Type 0} (p : A → Bool) (l : List A) (x : A) → Contains l x → IsTrue (p x)
    → IsTrue (list_any p l)
some_from p [] x c t = absurd (no_member x c)
some_from p (y ∷ l) x c t = by_member y l x
    (λ e. of_first (p y) (list_any p l) (subst (λ z. IsTrue (p z)) (sym e) t))
    (λ n. of_second (p y) (list_any p l) (some_from p l x n t)) c

-- ---- members

pub each_from : {A : Type 0} (P : A → Type 0) (xs : List A) → ((x : A) → Contains xs x → P x) → All P xs
each_from P [] h = All-nil P
each_from P (x ∷ xs) h = All-cons P x xs (h x (first_member x xs x refl)) (each_from P xs (λ y m. h y (later_member x xs y m)))

pub place_of_member : {A : Type 0} (xs : List A) (x : A) → Contains xs x → (n : ℕ) × (slice_get xs n ≡ Some x)
place_of_member xs x (k, l, e) = (k, slice_get-get_or xs k x l ∙ ap Some e)

pub member_some : (xs : List ℕ) (f : ℕ) → Contains xs f → 0 < length xs
member_some [] f c = absurd (no_member f c)
member_some (x ∷ xs) f c = omega arith

-- ---- filtered lists

pub in_filter_map : {A B : Type 0} (h : A → Option B) (xs : List A) (y : B) → Contains (filter_map h xs) y → (x : A) × Contains xs x × (h x ≡ Some y)
in_filter_map h [] y m = absurd (no_member y m)
in_filter_map {A} {B} h (x ∷ xs) y m = by (h x) refl (λ n. in_filter_map h xs y n) m where
  by : (o : Option B) → h x ≡ o → (Contains (filter_map h xs) y → (z : A) × Contains xs z × (h z ≡ Some y)) → Contains (cons_option o (filter_map h xs)) y
      → (z : A) × Contains (x ∷ xs) z × (h z ≡ Some y)
  by None e f n = let r = f n in (r.0, later_member x xs r.0 r.1, r.2)
  by (Some z) e f n = by_member z (filter_map h xs) y (λ d. (x, first_member x xs x refl, e ∙ ap Some d)) (λ k. let r = f k in (r.0, later_member x xs r.0 r.1, r.2)) n

pub filter_map_in : {A B : Type 0} (h : A → Option B) (xs : List A) (x : A) (y : B) → Contains xs x → h x ≡ Some y → Contains (filter_map h xs) y
filter_map_in h [] x y m e = absurd (no_member x m)
filter_map_in {A} {B} h (z ∷ xs) x y m e = by (h z) refl (λ n. filter_map_in h xs x y n e) where
  by : (o : Option B) → h z ≡ o → (Contains xs x → Contains (filter_map h xs) y) → Contains (cons_option o (filter_map h xs)) y
  by None d f = by_member z xs x (λ same. absurd (none_some (sym d ∙ ap h same ∙ e))) f m where
    none_some : None ≡ Some y → ⊥
    none_some q = cc
  by (Some w) d f = by_member z xs x (λ same. first_member w (filter_map h xs) y (the (sym d ∙ ap h same ∙ e))) (λ k. later_member w (filter_map h xs) y (f k)) m where
    the : Some w ≡ Some y → w ≡ y
    the q = cc

-- ---- one element more

pub get_before : {A : Type 0} (xs : List A) (y x : A) (n : ℕ) → slice_get xs n ≡ Some x → slice_get (xs ++ y ∷ []) n ≡ Some x
get_before [] y x n e = absurd (omega (arith, slice_get_within [] n x e))
get_before (z ∷ xs) y x zero e = e
get_before (z ∷ xs) y x (suc n) e = get_before xs y x n e

pub get_last : {A : Type 0} (xs : List A) (y : A) → slice_get (xs ++ y ∷ []) (length xs) ≡ Some y
get_last [] y = refl
get_last (z ∷ xs) y = get_last xs y

pub get_either : {A : Type 0} (xs : List A) (y x : A) (n : ℕ) → slice_get (xs ++ y ∷ []) n ≡ Some x → (slice_get xs n ≡ Some x) ⊎ ((n ≡ length xs) × (x ≡ y))
get_either [] y x zero e = inr (refl, sym (some_same e))
get_either [] y x (suc n) e = absurd (omega (arith, slice_get_within [] n x e))
get_either (z ∷ xs) y x zero e = inl e
get_either (z ∷ xs) y x (suc n) e = elim (get_either xs y x n e) [ inl d ↦ inl d | inr d ↦ inr (ap suc d.0, d.1) ]
