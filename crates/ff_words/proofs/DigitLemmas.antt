-- The numbers of the words.
use Rattle.std.proofs.Common.{◌≡◌, ◌∙◌, ◌<◌, ◌≤◌, ◌^◌, ◌&&◌, ℕ, Bool, cond, true, false, refl, sym, ap, subst, arith, [], ◌∷◌, length, drop, Some, None, Result, Ok, Err, true≢false}
use Rattle.std.proofs.lemmas.Bool.{eqb-true, leb-true, le-leb, lt-ltb}
use Rattle.std.proofs.lemmas.Bool.Decides.{nat_tests}
use Rattle.std.proofs.lemmas.Str.{digit_value_digit}
use Rattle.std.specs.Prelude.{nat_le, nat_lt, ◌==◌}
use Rattle.std.specs.List.{list_all}
use Rattle.std.specs.Int.{IsInRange}
use Rattle.std.specs.Char.{is_ascii_digit}
use Rattle.std.specs.Str.Parse.{ParsesUnsigned, IsNumeral, AllDigits, digits_value, without_leading_plus}
use Rattle.ff_basics.proofs.Tests.{and_true}
use Rattle.ff_words.specs.Form.{Text, is_number, number}

digit_in : (c : ℕ) → is_ascii_digit c ≡ true → IsInRange 48 57 c
digit_in c h = grind (arith, nat_tests)

-- no plus stands before digits
pub digits_plain : (t : Text) → list_all is_ascii_digit t ≡ true → without_leading_plus t ≡ t
digits_plain [] h = refl
digits_plain (x ∷ xs) h = go (x == 43) refl
  where
    go : (b : Bool) → (x == 43) ≡ b → drop (cond b 1 0) (x ∷ xs) ≡ x ∷ xs
    go false e = refl
    go true e = let d = digit_in x (and_true (is_ascii_digit x) (list_all is_ascii_digit xs) h).0 in let n : x ≡ 43 = eqb-true x 43 e in absurd (omega arith)

pub digits_all : (t : Text) → list_all is_ascii_digit t ≡ true → AllDigits 10 t
digits_all [] h = tt
digits_all (x ∷ xs) h =
    let hs = and_true (is_ascii_digit x) (list_all is_ascii_digit xs) h in
    let d = digit_in x hs.0 in
    let e = digit_value_digit x d in
    (omega arith, digits_all xs hs.1)

pub is_number_true : (most : ℕ) (t : Text) → list_all is_ascii_digit t ≡ true → 0 < length t → length t ≤ 10 → 1 ≤ digits_value 10 t → digits_value 10 t ≤ most → is_number most t ≡ true
is_number_true most t d l m a b = rw (lt-ltb 0 (length t) l, le-leb (length t) 10 m, d, le-leb 1 (digits_value 10 t) a, le-leb (digits_value 10 t) most b) refl

pub number_read : {E : Type 0} (most value : ℕ) (t : Text) (r : Result ℕ E) → list_all is_ascii_digit t ≡ true → 0 < length t → length t ≤ 10 → ParsesUnsigned 64 10 t r → r ≡ Ok value
    → 1 ≤ value → value ≤ most → Some value ≡ number most t
number_read most value t r d l m p e a b =
    let q = subst (ParsesUnsigned 64 10 t) e p in
    let same : value ≡ digits_value 10 t = q.1 ∙ ap (digits_value 10) (digits_plain t d) in
    let is = is_number_true most t d l m (omega arith) (omega arith) in
    ap Some same ∙ sym (ap (λ b. cond b (Some (digits_value 10 t)) None) is)

pub number_refused : {E : Type 0} (most : ℕ) (t : Text) (r : Result ℕ E) (e : E) → list_all is_ascii_digit t ≡ true → 0 < length t → ParsesUnsigned 64 10 t r → most < 2 ^ 64
    → r ≡ Err e → None ≡ number most t
number_refused most t r e d l p lt is = go (is_number most t) refl
  where
    go : (b : Bool) → is_number most t ≡ b → None ≡ cond b (Some (digits_value 10 t)) None
    go false h = refl
    go true h =
        let q = subst (ParsesUnsigned 64 10 t) is p in
        let within = leb-true (digits_value 10 t) most (and_true (nat_le 1 (digits_value 10 t)) _ (and_true (list_all is_ascii_digit t) _ (and_true (nat_le (length t) 10) _ (and_true (nat_lt 0 (length t)) _ h).1).1).1).1 in
        let plain = digits_plain t d in
        absurd (q (subst (λ (u : Text). IsNumeral 10 u × (digits_value 10 u < 2 ^ 64)) (sym plain) ((l, digits_all t d), omega arith)))
