-- Lists without what stands earlier in them.
use Rattle.std.proofs.Common.{◌≡◌, ℕ, zero, suc, ◌<◌, ◌==◌, arith, refl, sym, ap, ◌∙◌, true, false, Bool, List, [], ◌∷◌, ◌++◌, length, cond, slice_index_or}
use Rattle.std.proofs.lemmas.Bool.{eqb-true, eqb-false, false≢true}
use Rattle.std.proofs.lemmas.List.Elements.{Contains-get_or}
use Rattle.std.specs.List.{Contains}
use Rattle.ff_basics.proofs.Memberships.{by_member, first_member, later_member, no_member}
use Rattle.ff_types.specs.Placing.{Meeting, has_number, firsts}
use Rattle.ff_reflect.specs.Trees.{first_meetings, faces_across}
use Rattle.ff_reflect.proofs.Cases.{by_test, by_same}

-- ---- whether a number stands in a list

pub has_from_contains : (x : ℕ) (xs : List ℕ) → Contains xs x → has_number x xs ≡ true
has_from_contains x [] m = absurd (no_member x m)
has_from_contains x (y ∷ ys) m = by (x == y) refl (λ n. has_from_contains x ys n) where
  by : (b : Bool) → (x == y) ≡ b → (Contains ys x → has_number x ys ≡ true) → cond b true (has_number x ys) ≡ true
  by true e f = refl
  by false e f = by_member y ys x (λ d. absurd (eqb-false x y e (sym d))) f m

pub contains_from_has : (x : ℕ) (xs : List ℕ) → has_number x xs ≡ true → Contains xs x
contains_from_has x [] e = absurd (false≢true e)
contains_from_has x (y ∷ ys) e = by (x == y) refl (λ f. contains_from_has x ys f) e where
  by : (b : Bool) → (x == y) ≡ b → (has_number x ys ≡ true → Contains ys x) → cond b true (has_number x ys) ≡ true → Contains (y ∷ ys) x
  by true d g f = first_member y ys x (sym (eqb-true x y d))
  by false d g f = later_member y ys x (g f)

-- two lists with the same members have the same numbers
pub same_tests : (a b : Bool) → (a ≡ true → b ≡ true) → (b ≡ true → a ≡ true) → a ≡ b
same_tests true b f g = sym (f refl)
same_tests false true f g = absurd (false≢true (g refl))
same_tests false false f g = refl

abbrev pub HaveSame : List ℕ → List ℕ → Type 0
HaveSame s t = (x : ℕ) → has_number x s ≡ has_number x t

pub firsts-same : (s t xs : List ℕ) → HaveSame s t → firsts s xs ≡ firsts t xs
firsts-same s t [] h = refl
firsts-same s t (x ∷ xs) h =
    ap (λ b. cond b (firsts s xs) (x ∷ firsts (x ∷ s) xs)) (h x)
    ∙ by (has_number x t) (firsts-same s t xs h) (firsts-same (x ∷ s) (x ∷ t) xs (λ y. ap (λ b. cond (y == x) true b) (h y)))
  where
    by : (b : Bool) → firsts s xs ≡ firsts t xs → firsts (x ∷ s) xs ≡ firsts (x ∷ t) xs
        → cond b (firsts s xs) (x ∷ firsts (x ∷ s) xs) ≡ cond b (firsts t xs) (x ∷ firsts (x ∷ t) xs)
    by true e f = e
    by false e f = ap (λ r. x ∷ r) f

pub has-append : (x : ℕ) (xs ys : List ℕ) → has_number x (xs ++ ys) ≡ cond (has_number x xs) true (has_number x ys)
has-append x [] ys = refl
has-append x (y ∷ xs) ys = by (x == y) (has-append x xs ys) where
  by : (b : Bool) → has_number x (xs ++ ys) ≡ cond (has_number x xs) true (has_number x ys)
      → cond b true (has_number x (xs ++ ys)) ≡ cond (cond b true (has_number x xs)) true (has_number x ys)
  by true e = refl
  by false e = e

-- what was seen already changes nothing, seen again
pub again : (x : ℕ) (s : List ℕ) → has_number x s ≡ true → (xs : List ℕ) → HaveSame (xs ++ s) (x ∷ xs ++ s)
again x s e xs y = by_test (y == x)
    (λ d. let same = eqb-true y x d in
    has-append y xs s ∙ ap (λ b. cond (has_number y xs) true b) (ap (λ z. has_number z s) same ∙ e) ∙ or_true (has_number y xs)
    ∙ sym (ap (λ b. cond b true (has_number y (xs ++ s))) d))
    (λ d. sym (ap (λ b. cond b true (has_number y (xs ++ s))) d))
  where
    or_true : (b : Bool) → cond b true true ≡ true
    or_true true = refl
    or_true false = refl

-- it does not matter where a number stands
pub moved : (x : ℕ) (xs s : List ℕ) → HaveSame (xs ++ x ∷ s) (x ∷ xs ++ s)
moved x xs s y =
    has-append y xs (x ∷ s) ∙ by (has_number y xs) (y == x) (has_number y s) ∙ ap (λ b. cond (y == x) true b) (sym (has-append y xs s))
  where
    by : (a b c : Bool) → cond a true (cond b true c) ≡ cond b true (cond a true c)
    by true true c = refl
    by true false c = refl
    by false b c = refl

-- of a list in two pieces, the second piece's firsts are those that stand nowhere in the first
pub firsts-append : (s xs ys : List ℕ) → firsts s (xs ++ ys) ≡ firsts s xs ++ firsts (xs ++ s) ys
firsts-append s [] ys = refl
firsts-append s (x ∷ xs) ys = by (has_number x s) refl (firsts-append s xs ys) (firsts-append (x ∷ s) xs ys) where
  by : (b : Bool) → has_number x s ≡ b → firsts s (xs ++ ys) ≡ firsts s xs ++ firsts (xs ++ s) ys
      → firsts (x ∷ s) (xs ++ ys) ≡ firsts (x ∷ s) xs ++ firsts (xs ++ x ∷ s) ys
      → cond b (firsts s (xs ++ ys)) (x ∷ firsts (x ∷ s) (xs ++ ys)) ≡ cond b (firsts s xs) (x ∷ firsts (x ∷ s) xs) ++ firsts (x ∷ xs ++ s) ys
  by true e f g = f ∙ ap (λ r. firsts s xs ++ r) (firsts-same (xs ++ s) (x ∷ xs ++ s) ys (again x s e xs))
  by false e f g = ap (λ r. x ∷ r) (g ∙ ap (λ r. firsts (x ∷ s) xs ++ r) (firsts-same (xs ++ x ∷ s) (x ∷ xs ++ s) ys (moved x xs s)))

-- ---- members

pub in_firsts : (s xs : List ℕ) (y : ℕ) → Contains (firsts s xs) y → Contains xs y × (has_number y s ≡ false)
in_firsts s [] y m = absurd (no_member y m)
in_firsts s (x ∷ xs) y m = by (has_number x s) refl (λ n. in_firsts s xs y n) (λ n. in_firsts (x ∷ s) xs y n) m where
  second : (a b : Bool) → cond a true b ≡ false → b ≡ false
  second true b e = absurd (false≢true (sym e))
  second false b e = e

  by : (b : Bool) → has_number x s ≡ b → (Contains (firsts s xs) y → Contains xs y × (has_number y s ≡ false))
      → (Contains (firsts (x ∷ s) xs) y → Contains xs y × (has_number y (x ∷ s) ≡ false))
      → Contains (cond b (firsts s xs) (x ∷ firsts (x ∷ s) xs)) y → Contains (x ∷ xs) y × (has_number y s ≡ false)
  by true e f g n = let r = f n in (later_member x xs y r.0, r.1)
  by false e f g n = by_member x (firsts (x ∷ s) xs) y (λ d. (first_member x xs y d, ap (λ z. has_number z s) (sym d) ∙ e))
      (λ k. let r = g k in (later_member x xs y r.0, second (y == x) (has_number y s) r.1)) n

pub firsts_in : (s xs : List ℕ) (y : ℕ) → Contains xs y → has_number y s ≡ false → Contains (firsts s xs) y
firsts_in s [] y m n = absurd (no_member y m)
firsts_in s (x ∷ xs) y m n = by (has_number x s) refl (λ k. firsts_in s xs y k n) (λ k l. firsts_in (x ∷ s) xs y k l) where
  differ : (a b : ℕ) → (a ≡ b → ⊥) → (a == b) ≡ false
  differ a b f = by_test (a == b) (λ e. absurd (f (eqb-true a b e))) (λ e. e)

  by : (b : Bool) → has_number x s ≡ b → (Contains xs y → Contains (firsts s xs) y)
      → (Contains xs y → has_number y (x ∷ s) ≡ false → Contains (firsts (x ∷ s) xs) y) → Contains (cond b (firsts s xs) (x ∷ firsts (x ∷ s) xs)) y
  by true e f g = by_member x xs y (λ d. absurd (false≢true (sym n ∙ ap (λ z. has_number z s) (sym d) ∙ e))) f m
  by false e f g = by_member x xs y (λ d. first_member x (firsts (x ∷ s) xs) y d)
      (λ k. by_same x y (λ d. first_member x (firsts (x ∷ s) xs) y d)
      (λ d. later_member x (firsts (x ∷ s) xs) y (g k (ap (λ b. cond b true (has_number y s)) (differ y x (λ f. d (sym f))) ∙ n)))) m

-- no number comes twice: at its place nothing of what follows, or stands before, is the same
pub firsts_differ : (s xs : List ℕ) (i j : ℕ) → i < j → j < length (firsts s xs) → slice_index_or (firsts s xs) i 0 ≡ slice_index_or (firsts s xs) j 0 → ⊥
firsts_differ s [] i j l h e = omega (arith, h)
firsts_differ s (x ∷ xs) i j l h e = by (has_number x s) refl (λ i j l h e. firsts_differ s xs i j l h e) (λ i j l h e. firsts_differ (x ∷ s) xs i j l h e) i j l h e where
  first : (t : List ℕ) → (n : ℕ) → n < length (firsts (x ∷ s) t) → x ≡ slice_index_or (firsts (x ∷ s) t) n 0 → ⊥
  first t n h e =
      let r = in_firsts (x ∷ s) t (slice_index_or (firsts (x ∷ s) t) n 0) (Contains-get_or (firsts (x ∷ s) t) n 0 h) in
      false≢true (sym r.1 ∙ ap (λ z. has_number z (x ∷ s)) (sym e) ∙ has_from_contains x (x ∷ s) (first_member x s x refl))

  by : (b : Bool) → has_number x s ≡ b
      → ((i j : ℕ) → i < j → j < length (firsts s xs) → slice_index_or (firsts s xs) i 0 ≡ slice_index_or (firsts s xs) j 0 → ⊥)
      → ((i j : ℕ) → i < j → j < length (firsts (x ∷ s) xs) → slice_index_or (firsts (x ∷ s) xs) i 0 ≡ slice_index_or (firsts (x ∷ s) xs) j 0 → ⊥)
      → (i j : ℕ) → i < j → j < length (cond b (firsts s xs) (x ∷ firsts (x ∷ s) xs))
      → slice_index_or (cond b (firsts s xs) (x ∷ firsts (x ∷ s) xs)) i 0 ≡ slice_index_or (cond b (firsts s xs) (x ∷ firsts (x ∷ s) xs)) j 0 → ⊥
  by true d f g i j l h e = f i j l h e
  by false d f g i zero l h e = omega (arith, l)
  by false d f g zero (suc j) l h e = first xs j (omega (arith, h)) e
  by false d f g (suc i) (suc j) l h e = g i j (omega (arith, l)) (omega (arith, h)) e

-- ---- meetings

pub across_firsts : (s : List ℕ) (ms : List Meeting) → faces_across (first_meetings s ms) ≡ firsts s (faces_across ms)
across_firsts s [] = refl
across_firsts s (m ∷ ms) = by (has_number m.across s) (across_firsts s ms) (across_firsts (m.across ∷ s) ms) where
  by : (b : Bool) → faces_across (first_meetings s ms) ≡ firsts s (faces_across ms)
      → faces_across (first_meetings (m.across ∷ s) ms) ≡ firsts (m.across ∷ s) (faces_across ms)
      → faces_across (cond b (first_meetings s ms) (m ∷ first_meetings (m.across ∷ s) ms)) ≡ cond b (firsts s (faces_across ms)) (m.across ∷ firsts (m.across ∷ s) (faces_across ms))
  by true e f = e
  by false e f = ap (λ r. m.across ∷ r) f
