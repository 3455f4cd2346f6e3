-- What is read is written so, and what is written is read.
use Rattle.std.proofs.Common.{◌≡◌, ◌≢◌, ◌∙◌, ◌+◌, ◌*◌, ◌/◌, ◌%◌, ◌<◌, ◌≤◌, ◌^◌, ◌&&◌, ℕ, ℤ, pos, negsuc, Bool, cond, true, false, not, zero, suc, refl, sym, ap, ap₂, subst, arith, List, [], ◌∷◌, ◌++◌, length, slice_index, drop, Option, Some, None, Result, Ok, Err, true≢false, length-append, ne_eqb}
use Rattle.std.proofs.lemmas.Bool.{eqb-true, le-leb, ltb-true, lt-ltb}
use Rattle.std.proofs.lemmas.Bool.Decides.{nat_tests}
use Rattle.std.proofs.lemmas.Str.{digit_value_digit}
use Rattle.std.proofs.lemmas.Fmt.{decimal_digit, decimal_step_wide, decimal_by_steps_wide}
use Rattle.std.proofs.lemmas.Int.Digits.{digits_value_push}
use Rattle.std.proofs.lemmas.List.{append-nil, append_assoc}
use Rattle.std.specs.Fmt.{decimal, signed_decimal}
use Rattle.std.specs.Prelude.{nat_lt, ◌==◌, option_map, option_and_then}
use Rattle.std.specs.List.{list_all}
use Rattle.std.specs.Int.{IsInRange}
use Rattle.std.specs.Char.{encode_utf8, is_ascii_digit, digit_value}
use Rattle.std.specs.Str.Parse.{ParsesUnsigned, IsNumeral, AllDigits, digits_value, digits_value_after, without_leading_plus}
use Rattle.ff_log.specs.Numbers.{has_no_zero, is_decimal, number_of, below_zero, signed_of}

pub both : (a b : Bool) → (a && b) ≡ true → (a ≡ true) × (b ≡ true)
both true b h = (refl, h)
both false b h = absurd (true≢false (sym h))

pub digit_in : (c : ℕ) → is_ascii_digit c ≡ true → IsInRange 48 57 c
digit_in c h = grind (arith, nat_tests)

pub in_digit : (c : ℕ) → 48 ≤ c → c ≤ 57 → is_ascii_digit c ≡ true
in_digit c h k = rw (le-leb 48 c h, le-leb c 57 k) refl

pub digits_plain : (t : List ℕ) → list_all is_ascii_digit t ≡ true → without_leading_plus t ≡ t
digits_plain [] h = refl
digits_plain (x ∷ xs) h = go (x == 43) refl
  where
    go : (b : Bool) → (x == 43) ≡ b → drop (cond b 1 0) (x ∷ xs) ≡ x ∷ xs
    go false e = refl
    go true e = let d = digit_in x (both (is_ascii_digit x) (list_all is_ascii_digit xs) h).0 in let n : x ≡ 43 = eqb-true x 43 e in absurd (omega arith)

pub digits_all : (t : List ℕ) → list_all is_ascii_digit t ≡ true → AllDigits 10 t
digits_all [] h = tt
digits_all (x ∷ xs) h =
    let hs = both (is_ascii_digit x) (list_all is_ascii_digit xs) h in
    let d = digit_in x hs.0 in
    let e = digit_value_digit x d in
    (omega arith, digits_all xs hs.1)

pub first_digit : (t : List ℕ) → 2 ≤ length t → not (slice_index t 0 == 48) ≡ has_no_zero t
first_digit [] l = absurd (omega arith)
first_digit (x ∷ []) l = absurd (omega arith)
first_digit (x ∷ y ∷ ys) l = refl

pub first_digit_of : (s t : List ℕ) → s ≡ t → 2 ≤ length s → not (slice_index s 0 == 48) ≡ has_no_zero t
first_digit_of s t e l = first_digit s l ∙ ap has_no_zero e

-- ---- digits after a number

module _ (bound : ℕ) (wide : bound ≤ 10 ^ 64) where
  -- the digits go on after n
  goes_on : (n : ℕ) (ds : List ℕ) → 0 < n → list_all is_ascii_digit ds ≡ true → digits_value_after 10 n ds < bound → decimal (digits_value_after 10 n ds) ≡ decimal n ++ ds
  goes_on n [] some h lt = sym (append-nil (decimal n))
  goes_on n (c ∷ cs) some h lt =
      let hs = both (is_ascii_digit c) (list_all is_ascii_digit cs) h in
      let d = digit_in c hs.0 in
      let e = digit_value_digit c d in
      let m : ℕ = n * 10 + digit_value c in
      let le = grows m cs in
      let quotient : m / 10 ≡ n = omega arith in
      let rest : 48 + m % 10 ≡ c = omega arith in
      let step : decimal m ≡ decimal n ++ (c ∷ []) = decimal_step_wide m (omega arith) (omega arith) ∙ ap₂ (λ q r. decimal q ++ (r ∷ [])) quotient rest in
      goes_on m cs (omega arith) hs.1 lt ∙ ap (λ (t : List ℕ). t ++ cs) step ∙ append_assoc (decimal n) (c ∷ []) cs
    where
      grows : (k : ℕ) (ds : List ℕ) → k ≤ digits_value_after 10 k ds
      grows k [] = omega arith
      grows k (x ∷ xs) = let h = grows (k * 10 + digit_value x) xs in omega arith

  pub decimal_of : (t : List ℕ) → is_decimal t ≡ true → digits_value 10 t < bound → decimal (digits_value 10 t) ≡ t
  decimal_of [] h lt = absurd (true≢false (sym h))
  decimal_of (x ∷ []) h lt =
      let hs = both (is_ascii_digit x) true (both (is_ascii_digit x && true) true h).0 in
      let d = digit_in x hs.0 in
      let e = digit_value_digit x d in
      let v : digits_value 10 (x ∷ []) ≡ digit_value x = omega arith in
      let c : 48 + digit_value x ≡ x = omega arith in
      ap decimal v ∙ decimal_digit (digit_value x) (omega arith) ∙ ap (λ (y : ℕ). y ∷ []) c
  decimal_of (x ∷ y ∷ ys) h lt =
      let hs = both (list_all is_ascii_digit (x ∷ y ∷ ys)) _ h in
      let ds = both (is_ascii_digit x) (list_all is_ascii_digit (y ∷ ys)) hs.0 in
      let d = digit_in x ds.0 in
      let e = digit_value_digit x d in
      let ne : x ≢ 48 = not_zero x hs.1 in
      let first : 0 * 10 + digit_value x ≡ digit_value x = omega arith in
      let c : 48 + digit_value x ≡ x = omega arith in
      let lt' : digits_value_after 10 (digit_value x) (y ∷ ys) < bound = subst (λ (n : ℕ). digits_value_after 10 n (y ∷ ys) < bound) first lt in
      ap (λ (n : ℕ). decimal (digits_value_after 10 n (y ∷ ys))) first ∙ goes_on (digit_value x) (y ∷ ys) (omega arith) ds.1 lt'
      ∙ ap (λ (t : List ℕ). t ++ (y ∷ ys)) (decimal_digit (digit_value x) (omega arith) ∙ ap (λ (z : ℕ). z ∷ []) c)
    where
      not_zero : (z : ℕ) → not (z == 48) ≡ true → z ≢ 48
      not_zero z k e = absurd (true≢false (sym k ∙ ap (λ (n : ℕ). not (n == 48)) e))

pub some_of_map : {A B : Type 0} (f : A → B) (o : Option A) (y : B) → option_map f o ≡ Some y → (x : A) × (o ≡ Some x) × (f x ≡ y)
some_of_map f None y h = cc
some_of_map f (Some x) y h = (x, refl, cc)

pub some_of_then : {A B : Type 0} (f : A → Option B) (o : Option A) (y : B) → option_and_then f o ≡ Some y → (x : A) × (o ≡ Some x) × (f x ≡ Some y)
some_of_then f None y h = cc
some_of_then f (Some x) y h = (x, refl, h)

-- ---- what `decimal` writes

abbrev pub Written : ℕ → List ℕ → Type 0
Written n ds = (list_all is_ascii_digit ds ≡ true) × (digits_value 10 ds ≡ n) × (0 < length ds) × (0 < n → 48 < slice_index ds 0)

all_append : (a b : List ℕ) → list_all is_ascii_digit a ≡ true → list_all is_ascii_digit b ≡ true → list_all is_ascii_digit (a ++ b) ≡ true
all_append [] b h k = k
all_append (x ∷ xs) b h k =
    let hs = both (is_ascii_digit x) (list_all is_ascii_digit xs) h in ap₂ (λ p q. p && q) hs.0 (all_append xs b hs.1 k)

first_kept : (a b : List ℕ) → 0 < length a → slice_index (a ++ b) 0 ≡ slice_index a 0
first_kept [] b h = absurd (omega arith)
first_kept (x ∷ xs) b h = refl

pub written : (n : ℕ) → n < 10 ^ 64 → Written n (decimal n)
written n lt = decimal_by_steps_wide Written
    (λ n small.
    let d = in_digit (48 + n) (omega arith) (omega arith) in
    let e = digit_value_digit (48 + n) (omega arith, omega arith) in
    (ap (λ b. b && true) d, omega arith, omega arith, λ some. omega arith))
    (λ n ds big h.
    let last : ℕ = 48 + n % 10 in
    let d = in_digit last (omega arith) (omega arith) in
    let e = digit_value_digit last (omega arith, omega arith) in
    let v = digits_value_push 10 ds last in
    let value = h.1 in
    let l = length-append ds (last ∷ []) in
    let some = h.2 in
    let first = first_kept ds (last ∷ []) some in
    let above = h.3 (omega arith) in
    (all_append ds (last ∷ []) h.0 (ap (λ b. b && true) d), omega arith, omega arith, λ _. omega arith))
    n lt

is_decimal_written : (n : ℕ) (t : List ℕ) → Written n t → (n ≡ 0 → t ≡ 48 ∷ []) → is_decimal t ≡ true
is_decimal_written n [] w z = let l = w.2 in absurd (omega arith)
is_decimal_written n (x ∷ []) w z = ap (λ b. b && true) w.0
is_decimal_written zero (x ∷ y ∷ ys) w z = cc (z refl)
is_decimal_written (suc n) (x ∷ y ∷ ys) w z =
    let lt : 48 < x = w.3 (omega arith) in
    ap₂ (λ a b. a && not b) w.0 (ne_eqb x 48 (omega arith))

-- what is written is read
pub number_again : (bound n : ℕ) → n < bound → bound ≤ 10 ^ 64 → number_of bound (decimal n) ≡ Some n
number_again bound n lt wide =
    let w = written n (omega arith) in
    let d = is_decimal_written n (decimal n) w (λ e. ap decimal e ∙ decimal_digit 0 (omega arith)) in
    let v = w.1 in
    let b : nat_lt (digits_value 10 (decimal n)) bound ≡ true = lt-ltb _ bound (omega arith) in
    ap₂ (λ p q. cond (p && q) (Some (digits_value 10 (decimal n))) None) d b ∙ ap Some v

-- what is read is written so
pub number_sound : (bound n : ℕ) (t : List ℕ) → bound ≤ 10 ^ 64 → number_of bound t ≡ Some n → (n < bound) × (t ≡ decimal n)
number_sound bound n t wide h = go (is_decimal t && nat_lt (digits_value 10 t) bound) refl h
  where
    go : (b : Bool) → (is_decimal t && nat_lt (digits_value 10 t) bound) ≡ b → cond b (Some (digits_value 10 t)) None ≡ Some n → (n < bound) × (t ≡ decimal n)
    go false e k = cc
    go true e k =
        let es = both (is_decimal t) (nat_lt (digits_value 10 t) bound) e in
        let lt = ltb-true (digits_value 10 t) bound es.1 in
        let same : digits_value 10 t ≡ n = cc in
        (omega arith, sym (ap decimal (sym same) ∙ decimal_of bound wide t es.0 lt))

-- ---- what `parse` reads

pub number_read : {E : Type 0} (bits bound value : ℕ) (t : List ℕ) (r : Result ℕ E) → bound ≤ 2 ^ bits → is_decimal t ≡ true → ParsesUnsigned bits 10 t r → r ≡ Ok value
    → value < bound → Some value ≡ number_of bound t
number_read bits bound value t r wide d p e lt =
    let q = subst (ParsesUnsigned bits 10 t) e p in
    let digits = (both (list_all is_ascii_digit t) (has_no_zero t) d).0 in
    let same : value ≡ digits_value 10 t = q.1 ∙ ap (digits_value 10) (digits_plain t digits) in
    ap Some same ∙ sym (ap₂ (λ a b. cond (a && b) (Some (digits_value 10 t)) None) d (lt-ltb (digits_value 10 t) bound (omega arith)))

pub number_refused : {E : Type 0} (bits bound : ℕ) (t : List ℕ) (r : Result ℕ E) (e : E) → bound ≤ 2 ^ bits → is_decimal t ≡ true → ParsesUnsigned bits 10 t r → r ≡ Err e → None ≡ number_of bound t
number_refused bits bound t r e wide d p is = go (nat_lt (digits_value 10 t) bound) refl
  where
    some_length : (u : List ℕ) → has_no_zero u ≡ true → 0 < length u
    some_length [] h = absurd (true≢false (sym h))
    some_length (x ∷ xs) h = omega arith

    go : (b : Bool) → nat_lt (digits_value 10 t) bound ≡ b → None ≡ cond (is_decimal t && nat_lt (digits_value 10 t) bound) (Some (digits_value 10 t)) None
    go false h = sym (ap₂ (λ a b. cond (a && b) (Some (digits_value 10 t)) None) d h)
    go true h =
        let q = subst (ParsesUnsigned bits 10 t) is p in
        let ds = both (list_all is_ascii_digit t) (has_no_zero t) d in
        let within = ltb-true (digits_value 10 t) bound h in
        let plain = digits_plain t ds.0 in
        absurd (q (subst (λ (u : List ℕ). IsNumeral 10 u × (digits_value 10 u < 2 ^ bits)) (sym plain) ((some_length t ds.1, digits_all t ds.0), omega arith)))

-- ---- numbers with a sign

abbrev pub IsWithin : ℕ → ℤ → Type 0
IsWithin bound (pos n) = n < bound
IsWithin bound (negsuc n) = suc n < bound

pub below_zero_is : (n : ℕ) (z : ℤ) → below_zero n ≡ Some z → (m : ℕ) × (n ≡ suc m) × (z ≡ negsuc m)
below_zero_is zero z h = cc
below_zero_is (suc m) z h = let e = ap (λ (b : Bool). cond b None (Some (negsuc m))) (ne_eqb (suc m) 0 (omega arith)) in let f = sym e ∙ h in (m, refl, cc)

below_suc : (m : ℕ) → below_zero (suc m) ≡ Some (negsuc m)
below_suc m = ap (λ (b : Bool). cond b None (Some (negsuc m))) (ne_eqb (suc m) 0 (omega arith))

decimal_no_hyphen : (n : ℕ) → n < 10 ^ 64 → slice_index (decimal n) 0 ≢ 45
decimal_no_hyphen n lt e = go (decimal n) (written n lt) e
  where
    go : (t : List ℕ) → Written n t → slice_index t 0 ≢ 45
    go [] w f = let l = w.2 in omega arith
    go (x ∷ xs) w f = let d = digit_in x (both (is_ascii_digit x) (list_all is_ascii_digit xs) w.0).0 in omega arith

pub signed_again : (bound : ℕ) (z : ℤ) → IsWithin bound z → bound ≤ 10 ^ 64 → signed_of bound (signed_decimal z) ≡ Some z
signed_again bound (pos n) lt wide = go (decimal n) refl
  where
    go : (t : List ℕ) → decimal n ≡ t → signed_of bound t ≡ Some (pos n)
    go [] e = let l = (written n (omega arith)).2 in let f = ap length e in absurd (omega arith)
    go (x ∷ xs) e =
        let ne = decimal_no_hyphen n (omega arith) in
        let f : (x == 45) ≡ false = ne_eqb x 45 (λ g. ne (ap (λ (t : List ℕ). slice_index t 0) e ∙ g)) in
        ap (λ b. cond b (option_and_then below_zero (number_of bound xs)) (option_map pos (number_of bound (x ∷ xs)))) f
        ∙ ap (option_map pos) (ap (number_of bound) (sym e) ∙ number_again bound n lt wide)
signed_again bound (negsuc n) lt wide = ap (option_and_then below_zero) (number_again bound (suc n) lt wide) ∙ below_suc n

pub signed_sound : (bound : ℕ) (z : ℤ) (t : List ℕ) → bound ≤ 10 ^ 64 → signed_of bound t ≡ Some z → IsWithin bound z × (t ≡ signed_decimal z)
signed_sound bound z [] wide h = cc
signed_sound bound z (x ∷ xs) wide h = go (x == 45) refl h
  where
    go : (b : Bool) → (x == 45) ≡ b → cond b (option_and_then below_zero (number_of bound xs)) (option_map pos (number_of bound (x ∷ xs))) ≡ Some z → IsWithin bound z × (x ∷ xs ≡ signed_decimal z)
    go true e k =
        let n = some_of_then below_zero (number_of bound xs) z k in
        let m = below_zero_is n.0 z n.2 in
        let s = number_sound bound n.0 xs wide n.1 in
        let here : x ≡ 45 = eqb-true x 45 e in
        (subst (IsWithin bound) (sym m.2) (let q = s.0 in let r = m.1 in omega arith), ap₂ (λ (a : ℕ) (t : List ℕ). a ∷ t) here (s.1 ∙ ap decimal m.1) ∙ ap signed_decimal (sym m.2))
    go false e k =
        let n = some_of_map pos (number_of bound (x ∷ xs)) z k in
        let s = number_sound bound n.0 (x ∷ xs) wide n.1 in
        (subst (IsWithin bound) n.2 s.0, s.1 ∙ ap signed_decimal n.2)

pub plain_is : (bound : ℕ) (t : List ℕ) → ((rest : List ℕ) → t ≡ encode_utf8 45 ++ rest → ⊥) → signed_of bound t ≡ option_map pos (number_of bound t)
unfolding encode_utf8
plain_is bound [] h = refl
plain_is bound (x ∷ xs) h =
    ap (λ b. cond b (option_and_then below_zero (number_of bound xs)) (option_map pos (number_of bound (x ∷ xs))))
    (ne_eqb x 45 (λ e. h xs (ap (λ (a : ℕ). a ∷ xs) e)))

pub below_bound : (bound n : ℕ) (t : List ℕ) → bound ≤ 10 ^ 64 → number_of bound t ≡ Some n → n < bound
below_bound bound n t wide h = (number_sound bound n t wide h).0
