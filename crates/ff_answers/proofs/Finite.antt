-- Of things of finitely many kinds it can't be that there is no list, in order, with one of each kind that there is.
use Rattle.std.proofs.Common.{◌≡◌, ◌⊎◌, inl, inr, ℕ, zero, suc, ◌<◌, List, [], ◌∷◌, slice_get, Some, refl, sym, ap, subst, ◌∙◌, arith}
use Rattle.std.specs.List.{All, Contains}
use Rattle.std.proofs.lemmas.List.Elements.{All-nil, All-cons, All-head, All-tail}
use Rattle.std.proofs.lemmas.Option.{slice_get_within, slice_get-get_or, get_or_from_slice_get, same_Some}
use Rattle.ff_basics.proofs.Memberships.{by_member, first_member, later_member, no_member}
use Rattle.ff_basics.proofs.Numbers.{below_or_last}
use Rattle.ff_basics.proofs.Lists.{each_from, place_of_member}

-- a proposition holds or doesn't, where nothing is to be shown but that something can't be
pub either_way : (P : Type 0) → ((P ⊎ (P → ⊥)) → ⊥) → ⊥
either_way P k = k (inr (λ p. k (inl p)))

pub member_of : {A : Type 0} (P : A → Type 0) (xs : List A) → All P xs → (x : A) → Contains xs x → P x
member_of P xs h x (k, l, e) = subst P e (h k x l)

-- what can't fail to hold of each can't fail to hold of all
pub of_all : {A : Type 0} (P : A → Type 0) (xs : List A) → ((x : A) → Contains xs x → (P x → ⊥) → ⊥) → (All P xs → ⊥) → ⊥
of_all P [] h k = k (All-nil P)
of_all P (x ∷ xs) h k = h x (first_member x xs x refl)
    (λ p. of_all P xs (λ y m. h y (later_member x xs y m)) (λ all. k (All-cons P x xs p all)))

-- ---- short lists of small numbers

-- at most n numbers below m
abbrev pub IsWord : ℕ → ℕ → List ℕ → Type 0
IsWord m n [] = Unit {0}
IsWord m zero (x ∷ word) = ⊥
IsWord m (suc n) (x ∷ word) = (x < m) × IsWord m n word

abbrev prefixed : ℕ → List (List ℕ) → List (List ℕ) → List (List ℕ)
prefixed x [] rest = rest
prefixed x (word ∷ words) rest = (x ∷ word) ∷ prefixed x words rest

abbrev spread : ℕ → List (List ℕ) → List (List ℕ)
spread zero words = []
spread (suc x) words = prefixed x words (spread x words)

abbrev words_of : ℕ → ℕ → List (List ℕ)
words_of m zero = [] ∷ []
words_of m (suc n) = [] ∷ spread m (words_of m n)

in_prefixed : (x : ℕ) (words rest : List (List ℕ)) (word : List ℕ) → Contains words word
    → Contains (prefixed x words rest) (x ∷ word)
in_prefixed x [] rest word m = absurd (no_member word m)
in_prefixed x (w ∷ words) rest word m = by_member w words word
    (λ e. first_member (x ∷ w) (prefixed x words rest) (x ∷ word) (ap (λ z. x ∷ z) e))
    (λ c. later_member (x ∷ w) (prefixed x words rest) (x ∷ word) (in_prefixed x words rest word c)) m

behind_prefixed : (x : ℕ) (words rest : List (List ℕ)) (word : List ℕ) → Contains rest word
    → Contains (prefixed x words rest) word
behind_prefixed x [] rest word m = m
behind_prefixed x (w ∷ words) rest word m = later_member (x ∷ w) (prefixed x words rest) word
    (behind_prefixed x words rest word m)

in_spread : (m x : ℕ) (words : List (List ℕ)) (word : List ℕ) → x < m → Contains words word → Contains (spread m words) (x ∷ word)
in_spread zero x words word l c = absurd (omega (arith, l))
in_spread (suc m) x words word l c = elim (below_or_last m x l) [
  | inl b ↦ behind_prefixed m words (spread m words) (x ∷ word) (in_spread m x words word b c)
  | inr e ↦ subst (λ y. Contains (prefixed m words (spread m words)) (y ∷ word)) (sym e)
      (in_prefixed m words (spread m words) word c)
]

in_words : (m n : ℕ) (word : List ℕ) → IsWord m n word → Contains (words_of m n) word
in_words m zero [] w = first_member [] [] [] refl
in_words m zero (x ∷ word) w = absurd w
in_words m (suc n) [] w = first_member [] (spread m (words_of m n)) [] refl
in_words m (suc n) (x ∷ word) w = later_member [] (spread m (words_of m n)) (x ∷ word)
    (in_spread m x (words_of m n) word w.0 (in_words m n word w.1))

-- ---- one of each kind

module _ {A : Type 0} (Is : A → Type 0) (code : A → List ℕ) where
  abbrev HasKind : List A → A → Type 0
  HasKind xs x = (y : A) × Contains xs y × (code y ≡ code x)

  of_words : (words : List (List ℕ)) → ((xs : List A) → All Is xs
      → ((x : A) → Is x → Contains words (code x) → HasKind xs x) → ⊥) → ⊥
  of_words [] k = k [] (All-nil Is) (λ x is c. absurd (no_member (code x) c))
  of_words (word ∷ words) k = of_words words (λ xs all has. either_way ((x : A) × Is x × (code x ≡ word)) (more xs all has)) where
    more : (xs : List A) → All Is xs → ((x : A) → Is x → Contains words (code x) → HasKind xs x)
        → ((x : A) × Is x × (code x ≡ word)) ⊎ (((x : A) × Is x × (code x ≡ word)) → ⊥) → ⊥
    more xs all has (inl (x, is, e)) = k (x ∷ xs) (All-cons Is x xs is all) (λ y p c. by_member word words (code y)
        (λ d. (x, first_member x xs x refl, e ∙ d))
        (λ d. let h = has y p d in (h.0, later_member x xs h.0 h.1, h.2)) c)
    more xs all has (inr none) = k xs all (λ y p c. by_member word words (code y)
        (λ d. absurd (none (y, p, sym d))) (λ d. has y p d) c)

-- ---- in order

-- each is before all that follow it
abbrev pub AreInRow : {A : Type 0} → (A → A → Type 0) → List A → Type 0
AreInRow Before [] = Unit {0}
AreInRow Before (x ∷ xs) = All (Before x) xs × AreInRow Before xs

-- What is to be so of an order: of two things of different kinds one is before the other.
pub record IsOrder {A : Type 0} (Is : A → Type 0) (Before Same : A → A → Type 0) : Type 0 where
  pub compare : (x y : A) → Is x → Is y → ((Before x y ⊎ (Before y x ⊎ Same x y)) → ⊥) → ⊥
  pub later : (x y z : A) → Is x → Is y → Is z → Before x y → Before y z → (Before x z → ⊥) → ⊥
  pub self : (x : A) → Is x → Same x x
  pub join : (x y z : A) → Is x → Is y → Is z → Same x y → Same y z → Same x z

module _ {A : Type 0} (Is : A → Type 0) (Before Same : A → A → Type 0) (order : IsOrder Is Before Same) where
  -- some thing of the list is like it
  abbrev HasSame : List A → A → Type 0
  HasSame xs x = (y : A) × Contains xs y × Same x y

  -- the list with one thing more, in its place
  record IsIn (x : A) (xs ys : List A) : Type 0 where
    pub are : All Is ys
    pub in_row : AreInRow Before ys
    pub same : HasSame ys x
    pub keeps : (y : A) → Contains xs y → Contains ys y
    pub only : (y : A) → Contains ys y → (x ≡ y) ⊎ Contains xs y

  put_in : (x : A) → Is x → (xs : List A) → All Is xs → AreInRow Before xs → ((ys : List A) → IsIn x xs ys → ⊥) → ⊥
  put_in x is [] all row k = k (x ∷ []) (record {
    are = All-cons Is x [] is (All-nil Is);
    in_row = (All-nil (Before x), tt);
    same = (x, first_member x [] x refl, order.self x is);
    keeps = λ y m. absurd (no_member y m);
    only = λ y m. by_member x [] y (λ e. inl e) (λ c. inr c) m;
  })
  put_in x is (z ∷ zs) all row k = order.compare x z is (All-head Is z zs all)
      (at (put_in x is zs (All-tail Is z zs all) row.1)) where
        rest : All Is zs
        rest = All-tail Is z zs all

        at : (((ys : List A) → IsIn x zs ys → ⊥) → ⊥) → (Before x z ⊎ (Before z x ⊎ Same x z)) → ⊥
        at again (inl before) = of_all (Before x) (z ∷ zs) each (λ first. k (x ∷ z ∷ zs) (record {
          are = All-cons Is x (z ∷ zs) is all;
          in_row = (first, row);
          same = (x, first_member x (z ∷ zs) x refl, order.self x is);
          keeps = λ y m. later_member x (z ∷ zs) y m;
          only = λ y m. by_member x (z ∷ zs) y (λ e. inl e) (λ c. inr c) m;
        })) where
          each : (y : A) → Contains (z ∷ zs) y → (Before x y → ⊥) → ⊥
          each y m n = by_member z zs y (λ e. n (subst (Before x) e before))
              (λ c. order.later x z y is (All-head Is z zs all) (member_of Is zs rest y c) before
              (member_of (Before z) zs row.0 y c) n) m
        at again (inr (inr same)) = k (z ∷ zs) (record {
          are = all;
          in_row = row;
          same = (z, first_member z zs z refl, same);
          keeps = λ y m. m;
          only = λ y m. inr m;
        })
        at again (inr (inl before)) = again (λ ys i. k (z ∷ ys) (record {
          are = All-cons Is z ys (All-head Is z zs all) i.are;
          in_row = (
            each_from (Before z) ys (λ y m. elim (i.only y m) [
              | inl e ↦ subst (Before z) e before
              | inr c ↦ member_of (Before z) zs row.0 y c
            ]),
            i.in_row,
          );
          same = (i.same.0, later_member z ys i.same.0 i.same.1, i.same.2);
          keeps = λ y m. by_member z zs y (λ e. first_member z ys y e) (λ c. later_member z ys y (i.keeps y c)) m;
          only = λ y m. by_member z ys y (λ e. inr (first_member z zs y e))
              (λ c. elim (i.only y c) [ inl e ↦ inl e | inr d ↦ inr (later_member z zs y d) ]) m;
        }))

  -- all of the list, in order
  record IsSorted (xs ys : List A) : Type 0 where
    pub are : All Is ys
    pub in_row : AreInRow Before ys
    pub same : (x : A) → Contains xs x → HasSame ys x

  sorted : (xs : List A) → All Is xs → ((ys : List A) → IsSorted xs ys → ⊥) → ⊥
  sorted [] all k = k [] (record { are = All-nil Is; in_row = tt; same = λ x m. absurd (no_member x m) })
  sorted (x ∷ xs) all k = sorted xs (All-tail Is x xs all)
      (λ ys s. put_in x (All-head Is x xs all) ys s.are s.in_row (λ zs i. k zs (record {
        are = i.are;
        in_row = i.in_row;
        same = λ y m. by_member x xs y (λ e. subst (HasSame zs) e i.same)
            (λ c. let h = s.same y c in (h.0, i.keeps h.0 h.1, h.2)) m;
      })))

  -- there can't fail to be a list in order with one of each kind
  pub in_order : (m n : ℕ) (code : A → List ℕ) → ((x : A) → Is x → IsWord m n (code x))
      → ((x y : A) → Is x → Is y → code x ≡ code y → Same x y)
      → ((ys : List A) → All Is ys → AreInRow Before ys → ((x : A) → Is x → (y : A) × Contains ys y × Same x y) → ⊥) → ⊥
  in_order m n code word alike k = of_words Is code (words_of m n)
      (λ xs all has. sorted xs all (λ ys s. k ys s.are s.in_row (λ x is.
      let h = has x is (in_words m n (code x) (word x is)) in
      let t = s.same h.0 h.1 in
      let i = member_of Is xs all h.0 h.1 in
      (t.0, t.1, order.join x h.0 t.0 is i (member_of Is ys s.are t.0 t.1) (alike x h.0 is i (sym h.2)) t.2))))

-- ---- by places

pub is_at : {A : Type 0} (P : A → Type 0) (xs : List A) → All P xs → (n : ℕ) (x : A) → slice_get xs n ≡ Some x → P x
is_at P xs all n x e = subst P (get_or_from_slice_get xs n x x e) (all n x (slice_get_within xs n x e))

pub in_row_at : {A : Type 0} (R : A → A → Type 0) (xs : List A) → AreInRow R xs → (m n : ℕ) (x y : A) → m < n
    → slice_get xs m ≡ Some x → slice_get xs n ≡ Some y → R x y
in_row_at R [] row m n x y l e f = absurd (omega (arith, slice_get_within [] m x e))
in_row_at R (z ∷ zs) row m zero x y l e f = absurd (omega (arith, l))
in_row_at R (z ∷ zs) row zero (suc n) x y l e f = is_at (R x) zs (subst (λ w. All (R w) zs) (same_Some z x e) row.0) n y f
in_row_at R (z ∷ zs) row (suc m) (suc n) x y l e f = in_row_at R zs row.1 m n x y (omega (arith, l)) e f
