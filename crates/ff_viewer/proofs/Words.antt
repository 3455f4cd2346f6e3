-- Words of commands and their numbers.
use Rattle.std.proofs.Common.{◌≡◌, ◌∙◌, ◌+◌, ◌<◌, ◌≤◌, ◌^◌, ℕ, Bool, cond, true, false, zero, suc, refl, sym, ap, subst, arith, List, [], ◌∷◌, ◌++◌, length, map, take, drop, get_or, Option, Some, None, Result, Err, Bor}
use Rattle.std.proofs.lemmas.Bool.{eqb-true, ltb-true}
use Rattle.std.proofs.lemmas.Bool.Decides.{nat_tests}
use Rattle.std.proofs.lemmas.Str.{digit_value_digit, IsUtf8-from_ascii}
use Rattle.std.proofs.lemmas.Str.Parse.{digits_value_short, numerals_by_value, tells_digits}
use Rattle.std.specs.Prelude.{◌==◌, option_map, option_and_then}
use Rattle.std.specs.List.{list_all}
use Rattle.std.specs.Int.{IsInRange}
use Rattle.std.specs.Char.{is_ascii, is_ascii_digit}
use Rattle.std.specs.Str.{IsAscii, IsUtf8}
use Rattle.std.specs.Str.Parse.{ParsesUnsigned, IsNumeral, AllDigits, digits_value, without_leading_plus}
use Rattle.ff_basics.proofs.Tests.{and_true}
use Rattle.ff_viewer.specs.Grammar.{command_by, command_words, number, numbers}

digit_in : (c : ℕ) → is_ascii_digit c ≡ true → IsInRange 48 57 c
digit_in c h = grind (arith, nat_tests)

digits_plain : (t : List ℕ) → list_all is_ascii_digit t ≡ true → without_leading_plus t ≡ t
digits_plain [] h = refl
digits_plain (x ∷ xs) h = go (x == 43) refl
  where
    go : (b : Bool) → (x == 43) ≡ b → drop (cond b 1 0) (x ∷ xs) ≡ x ∷ xs
    go false e = refl
    go true e = let d = digit_in x (and_true (is_ascii_digit x) (list_all is_ascii_digit xs) h).0 in let n : x ≡ 43 = eqb-true x 43 e in absurd (omega arith)

digits_all : (t : List ℕ) → list_all is_ascii_digit t ≡ true → AllDigits 10 t
digits_all [] h = tt
digits_all (x ∷ xs) h =
    let hs = and_true (is_ascii_digit x) (list_all is_ascii_digit xs) h in
    let d = digit_in x hs.0 in
    let e = digit_value_digit x d in
    (omega arith, digits_all xs hs.1)

-- nine digits fit
pub nine_parse : {E : Type 0} (t : List ℕ) (r : Result ℕ E) (e : E) → list_all is_ascii_digit t ≡ true → 0 < length t → length t ≤ 9 → ParsesUnsigned 32 10 t r → r ≡ Err e → ⊥
nine_parse t r e d l m p is =
    let q = subst (ParsesUnsigned 32 10 t) is p in
    let small = digits_value_short (numerals_by_value (AllDigits 10) tells_digits) t 9 (digits_all t d) m in
    q (subst (λ (u : List ℕ). IsNumeral 10 u × (digits_value 10 u < 2 ^ 32)) (sym (digits_plain t d)) ((l, digits_all t d), omega arith))

pub command_more : (xs : List (Bor (List ℕ))) (d : Bor (List ℕ)) → 1 ≤ length xs → command_by (map (λ s. s.now) xs) ≡ command_words (get_or xs 0 d).now (map (λ s. s.now) (drop 1 xs))
command_more [] d h = absurd (omega arith)
command_more (x ∷ xs) d h = refl

-- a word that is no number
pub none_at : (xs : List (Bor (List ℕ))) (i : ℕ) (d : Bor (List ℕ)) → i < length xs → number (get_or xs i d).now ≡ None → numbers (map (λ s. s.now) xs) ≡ None
none_at [] i d h e = absurd (omega arith)
none_at (x ∷ xs) zero d h e = ap (option_and_then (λ n. option_map (λ ns. n ∷ ns) (numbers (map (λ s. s.now) xs)))) e
none_at (x ∷ xs) (suc i) d h e = go (number x.now) (none_at xs i d (omega arith) e)
  where
    go : (o : Option ℕ) → numbers (map (λ s. s.now) xs) ≡ None → option_and_then (λ n. option_map (λ ns. n ∷ ns) (numbers (map (λ s. s.now) xs))) o ≡ None
    go None f = refl
    go (Some n) f = ap (option_map (λ ns. n ∷ ns)) f

-- one number more
pub numbers_more : (xs : List (Bor (List ℕ))) (i : ℕ) (d : Bor (List ℕ)) (ns : List ℕ) (n : ℕ) → i < length xs → numbers (map (λ s. s.now) (take i xs)) ≡ Some ns → number (get_or xs i d).now ≡ Some n
    → numbers (map (λ s. s.now) (take (suc i) xs)) ≡ Some (ns ++ n ∷ [])
numbers_more [] i d ns n lt h e = absurd (omega arith)
numbers_more (x ∷ xs) zero d ns n lt h e =
    let k : [] ≡ ns = cc in ap (option_and_then (λ m. option_map (λ ms. m ∷ ms) (Some []))) e ∙ ap (λ (ms : List ℕ). Some (ms ++ n ∷ [])) k
numbers_more (x ∷ xs) (suc i) d ns n lt h e =
    go (number x.now) (numbers (map (λ s. s.now) (take i xs))) (λ ms f. numbers_more xs i d ms n (omega arith) f e) refl h
  where
    go : (o : Option ℕ) (r : Option (List ℕ)) → ((ms : List ℕ) → numbers (map (λ s. s.now) (take i xs)) ≡ Some ms → numbers (map (λ s. s.now) (take (suc i) xs)) ≡ Some (ms ++ n ∷ []))
        → numbers (map (λ s. s.now) (take i xs)) ≡ r → option_and_then (λ m. option_map (λ ms. m ∷ ms) r) o ≡ Some ns
        → option_and_then (λ m. option_map (λ ms. m ∷ ms) (numbers (map (λ s. s.now) (take (suc i) xs)))) o ≡ Some (ns ++ n ∷ [])
    go None r next f k = cc
    go (Some m) None next f k = cc
    go (Some m) (Some ms) next f k =
        let same : m ∷ ms ≡ ns = cc in
        ap (option_map (λ xs. m ∷ xs)) (next ms f) ∙ ap (λ (xs : List ℕ). Some (xs ++ n ∷ [])) same

pub numbers_step : (xs : List (Bor (List ℕ))) (i : ℕ) (d : Bor (List ℕ)) (ns ms : List ℕ) (n : ℕ) → i < length xs → numbers (map (λ s. s.now) (take i xs)) ≡ Some ns → number (get_or xs i d).now ≡ Some n
    → ms ≡ ns ++ n ∷ [] → numbers (map (λ s. s.now) (take (i + 1) xs)) ≡ Some ms
numbers_step xs i d ns ms n lt h e is =
    let k : i + 1 ≡ suc i = omega arith in
    ap (λ (j : ℕ). numbers (map (λ s. s.now) (take j xs))) k ∙ numbers_more xs i d ns n lt h e ∙ ap Some (sym is)

-- ASCII is UTF-8
pub ascii_utf8 : (t : List ℕ) → list_all is_ascii t ≡ true → IsUtf8 t
ascii_utf8 t h = IsUtf8-from_ascii t (go t h)
  where
    go : (u : List ℕ) → list_all is_ascii u ≡ true → IsAscii u
    go [] k i = omega arith
    go (x ∷ xs) k zero = ltb-true x 128 (and_true (is_ascii x) (list_all is_ascii xs) k).0
    go (x ∷ xs) k (suc i) = go xs (and_true (is_ascii x) (list_all is_ascii xs) k).1 i
