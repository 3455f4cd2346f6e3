-- The items of an array of JSON.
use Rattle.std.proofs.Common.{◌≡◌, ◌∙◌, ◌<◌, ◌≤◌, ◌+◌, ◌⊎◌, ℕ, zero, suc, List, [], ◌∷◌, ◌++◌, length, take, slice_get, get_or, Option, None, Some, option_and_then, map, refl, ap, sym, subst, arith}
use Rattle.std.proofs.lemmas.List.{length-map}
use Rattle.serde_json.specs.Data.{Data}
use Rattle.serde_json.specs.Find.{as_array}
use Rattle.serde_json.specs.View.{items_of, items_view, view}
use Rattle.serde_json.specs.declared.value.Value.{Value}
use Rattle.std.specs.Option.{option_map}
use Rattle.std.proofs.lemmas.Option.{none-some, same_Some}
use Rattle.ff_read.specs.Spelling.{listed, list_of, point_in, all_of}

pub listed-items_of : (ds : List Data) → listed (items_of ds) ≡ ds
listed-items_of [] = refl
listed-items_of (d ∷ ds) = ap (λ xs. d ∷ xs) (listed-items_of ds)

-- the items of an array, seen as its data
pub list_of_array : (vs : List Value) (d : Data) → Some (items_view vs) ≡ as_array d → Some (map view vs) ≡ list_of d
list_of_array vs d e = sym (ap Some (listed-items_of (map view vs))) ∙ ap (option_map listed) e

-- neither two nor three values are no point
pub short : (vs : List Value) → (length vs < 2) ⊎ ((2 ≤ length vs) × (3 < length vs)) → None ≡ point_in (map view vs)
short [] h = refl
short (a ∷ []) h = refl
short (a ∷ b ∷ []) h = absurd (omega (arith, h))
short (a ∷ b ∷ c ∷ []) h = absurd (omega (arith, h))
short (a ∷ b ∷ c ∷ d ∷ vs) h = refl

-- an item, seen as its data
pub get_view : (vs : List Value) (i : ℕ) (v : Value) → i < length vs → v ≡ get_or vs i v → slice_get (map view vs) i ≡ Some (view v)
get_view [] i v l e = absurd (omega (arith, l))
get_view (w ∷ vs) zero v l e = rw e refl
get_view (w ∷ vs) (suc i) v l e = get_view vs i v (omega (arith, l)) e

more : {B A : Type 0} (f : B → Option A) (xs : List A) (a : A) → (o : Option (List A)) (p : Option (List A)) (b : A)
    → ((ys : List A) → o ≡ Some ys → p ≡ Some (ys ++ a ∷ [])) → option_map (λ rest. b ∷ rest) o ≡ Some xs → option_map (λ rest. b ∷ rest) p ≡ Some (xs ++ a ∷ [])
more f xs a None p b h e = absurd (none-some xs e)
more f xs a (Some ys) p b h e = ap (option_map (λ rest. b ∷ rest)) (h ys refl) ∙ ap (λ zs. Some (zs ++ a ∷ [])) (same_Some (b ∷ ys) xs e)

more_at : {B A : Type 0} (f : B → Option A) (xs : List A) (a : A) (o p : Option (List A)) (b : Option A)
    → ((ys : List A) → o ≡ Some ys → p ≡ Some (ys ++ a ∷ [])) → option_and_then (λ c. option_map (λ rest. c ∷ rest) o) b ≡ Some xs → option_and_then (λ c. option_map (λ rest. c ∷ rest) p) b ≡ Some (xs ++ a ∷ [])
more_at f xs a o p None h e = absurd (none-some xs e)
more_at f xs a o p (Some b) h e = more f xs a o p b h e

suc_more : {B A : Type 0} (f : B → Option A) (ds : List B) (i : ℕ) (xs : List A) (d : B) (a : A)
    → all_of f (take i ds) ≡ Some xs → slice_get ds i ≡ Some d → f d ≡ Some a → all_of f (take (suc i) ds) ≡ Some (xs ++ a ∷ [])
suc_more f [] i xs d a e g h = absurd (none-some d g)
suc_more f (c ∷ ds) zero xs d a e g h = rw (same_Some c d g, h, ← same_Some [] xs e) refl
suc_more f (c ∷ ds) (suc i) xs d a e g h = more_at f xs a (all_of f (take i ds)) (all_of f (take (suc i) ds)) (f c) (λ ys s. suc_more f ds i ys d a s g h) e

-- one item more
pub all_of-more : {B A : Type 0} (f : B → Option A) (ds : List B) (i : ℕ) (xs : List A) (d : B) (a : A)
    → all_of f (take i ds) ≡ Some xs → slice_get ds i ≡ Some d → Some a ≡ f d → all_of f (take (i + 1) ds) ≡ Some (xs ++ a ∷ [])
all_of-more f ds i xs d a e g h =
    let next : suc i ≡ i + 1 = omega arith in
    subst (λ (n : ℕ). all_of f (take n ds) ≡ Some (xs ++ a ∷ [])) next (suc_more f ds i xs d a e g (sym h))

-- ---- as many as there are items

one_longer : {A : Type 0} (o : Option (List A)) (b : A) (xs : List A) (n : ℕ) → ((ys : List A) → o ≡ Some ys → length ys ≡ n) → option_map (λ rest. b ∷ rest) o ≡ Some xs → length xs ≡ suc n
one_longer None b xs n h e = absurd (none-some xs e)
one_longer (Some ys) b xs n h e = ap length (sym (same_Some (b ∷ ys) xs e)) ∙ ap suc (h ys refl)

longer_at : {A : Type 0} (o : Option (List A)) (b : Option A) (xs : List A) (n : ℕ) → ((ys : List A) → o ≡ Some ys → length ys ≡ n) → option_and_then (λ a. option_map (λ rest. a ∷ rest) o) b ≡ Some xs
    → length xs ≡ suc n
longer_at o None xs n h e = absurd (none-some xs e)
longer_at o (Some b) xs n h e = one_longer o b xs n h e

pub as_many : {B A : Type 0} (f : B → Option A) (ds : List B) (xs : List A) → all_of f ds ≡ Some xs → length xs ≡ length ds
as_many f [] xs e = ap length (sym (same_Some [] xs e))
as_many f (d ∷ ds) xs e = longer_at (all_of f ds) (f d) xs (length ds) (λ ys s. as_many f ds ys s) e

pub as_many_views : {A : Type 0} (f : Data → Option A) (vs : List Value) (xs : List A) → all_of f (map view vs) ≡ Some xs → length xs ≡ length vs
as_many_views f vs xs e = as_many f (map view vs) xs e ∙ length-map vs view
