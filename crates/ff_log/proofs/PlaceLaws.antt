-- What places are read from is spelled so, and what is spelled is read.
use Rattle.std.proofs.Common.{◌≡◌, ◌∙◌, ◌<◌, ◌≤◌, ◌^◌, ◌&&◌, ℕ, ℤ, pos, negsuc, Bool, cond, true, false, not, zero, suc, refl, sym, ap, ap₂, subst, arith, List, [], ◌∷◌, ◌++◌, Some, None, true≢false, ne_eqb, lit≤, lit<, eq-eqb}
use Rattle.std.proofs.lemmas.Int.{ints}
use Rattle.std.proofs.lemmas.List.Splits.{join_with_byte-slice_split}
use Rattle.std.specs.Prelude.{◌==◌, ◌<ℤ◌, option_map, option_and_then}
use Rattle.std.specs.List.{list_all, slice_split, onto_first, join_with_byte}
use Rattle.std.specs.Char.{is_ascii_digit}
use Rattle.std.specs.Fmt.{decimal, signed_decimal}
use Rattle.ff_whole.specs.declared.sizes.TheConstants.{PLACE_SIZE, PLACE_WEIGHT}
use Rattle.ff_whole.specs.declared.places.Place.{Place}
use Rattle.ff_whole.specs.Sizes.{IsBelow, IsSmallPlace}
use Rattle.ff_log.specs.Numbers.{number_of, signed_of}
use Rattle.ff_log.specs.Spelling.{place_parts, place_word}
use Rattle.ff_log.specs.Reading.{weight, place_by, place_of}
use Rattle.ff_log.proofs.NumberLemmas.{IsWithin, both, digit_in, written, number_again, number_sound, signed_again, signed_sound, some_of_map, some_of_then}

-- ---- cuts

abbrev pub free : ℕ → List ℕ → Bool
free c = list_all (λ x. not (x == c))

not_true : (b : Bool) → not b ≡ true → b ≡ false
not_true true h = absurd (true≢false (sym h))
not_true false h = refl

pub split_free : (c : ℕ) (w rest : List ℕ) → free c w ≡ true → slice_split (λ b. b == c) (w ++ c ∷ rest) ≡ w ∷ slice_split (λ b. b == c) rest
split_free c [] rest h = ap (λ b. cond b ([] ∷ slice_split (λ b. b == c) rest) (onto_first c (slice_split (λ b. b == c) rest))) (eq-eqb c c refl)
split_free c (x ∷ w) rest h =
    let hs = both (not (x == c)) (free c w) h in
    ap (λ b. cond b ([] ∷ slice_split (λ b. b == c) (w ++ c ∷ rest)) (onto_first x (slice_split (λ b. b == c) (w ++ c ∷ rest)))) (not_true (x == c) hs.0)
    ∙ ap (onto_first x) (split_free c w rest hs.1)

pub split_alone : (c : ℕ) (w : List ℕ) → free c w ≡ true → slice_split (λ b. b == c) w ≡ w ∷ []
split_alone c [] h = refl
split_alone c (x ∷ w) h =
    let hs = both (not (x == c)) (free c w) h in
    ap (λ b. cond b ([] ∷ slice_split (λ b. b == c) w) (onto_first x (slice_split (λ b. b == c) w))) (not_true (x == c) hs.0) ∙ ap (onto_first x) (split_alone c w hs.1)

abbrev pub AllFree : ℕ → List (List ℕ) → Type 0
AllFree c [] = Unit {0}
AllFree c (w ∷ ws) = (free c w ≡ true) × AllFree c ws

pub split_join : (c : ℕ) (w : List ℕ) (ws : List (List ℕ)) → AllFree c (w ∷ ws) → slice_split (λ b. b == c) (join_with_byte c (w ∷ ws)) ≡ w ∷ ws
split_join c w [] h = split_alone c w h.0
split_join c w (v ∷ ws) h = split_free c w (join_with_byte c (v ∷ ws)) h.0 ∙ ap (λ (xs : List (List ℕ)). w ∷ xs) (split_join c v ws h.1)

free_append : (c : ℕ) (a b : List ℕ) → free c a ≡ true → free c b ≡ true → free c (a ++ b) ≡ true
free_append c [] b h k = k
free_append c (x ∷ a) b h k = let hs = both (not (x == c)) (free c a) h in ap₂ (λ p q. p && q) hs.0 (free_append c a b hs.1 k)

free_digits : (c : ℕ) (t : List ℕ) → c < 48 → list_all is_ascii_digit t ≡ true → free c t ≡ true
free_digits c [] lt h = refl
free_digits c (x ∷ xs) lt h =
    let hs = both (is_ascii_digit x) (list_all is_ascii_digit xs) h in
    let d = digit_in x hs.0 in
    ap₂ (λ p q. not p && q) (ne_eqb x c (omega arith)) (free_digits c xs lt hs.1)

pub free_decimal : (c n : ℕ) → c < 48 → n < 10 ^ 64 → free c (decimal n) ≡ true
free_decimal c n lt small = free_digits c (decimal n) lt (written n small).0

free_signed : (c bound : ℕ) (z : ℤ) → c < 45 → bound ≤ 10 ^ 64 → IsWithin bound z → free c (signed_decimal z) ≡ true
free_signed c bound (pos n) lt wide h = free_decimal c n (omega arith) (omega arith)
free_signed c bound (negsuc n) lt wide h = ap₂ (λ p q. not p && q) (ne_eqb 45 c (omega arith)) (free_decimal c (suc n) (omega arith) (omega arith))

-- ---- sizes of numbers and of places

abbrev pub IsWeight : ℤ → Type 0
IsWeight (pos n) = (1 ≤ n) × (n < PLACE_WEIGHT)
IsWeight (negsuc n) = ⊥

pub record IsPlace (p : Place) : Type 0 where
  pub x : IsWithin PLACE_SIZE p.x
  pub y : IsWithin PLACE_SIZE p.y
  pub w : IsWeight p.w

within_below : (m : ℕ) (z : ℤ) → IsBelow m z → IsWithin m z
within_below m (pos n) h = h.below
within_below m (negsuc n) h = h.below

below_within : (m : ℕ) (z : ℤ) → IsWithin m z → IsBelow m z
below_within m (pos n) h = record { below = h }
below_within m (negsuc n) h = record { below = h }

weight_of_small : (z : ℤ) → IsBelow PLACE_WEIGHT z → pos 0 <ℤ z → IsWeight z
weight_of_small (pos n) h p = (omega (arith, ints, p), h.below)
weight_of_small (negsuc n) h p = absurd (omega (arith, ints, p))

weight_below : (z : ℤ) → IsWeight z → IsBelow PLACE_WEIGHT z
weight_below (pos n) h = record { below = h.1 }
weight_below (negsuc n) h = absurd h

weight_positive : (z : ℤ) → IsWeight z → pos 0 <ℤ z
weight_positive (pos n) h = omega (arith, ints, h.0)
weight_positive (negsuc n) h = absurd h

pub of_small : (p : Place) → IsSmallPlace p → IsPlace p
of_small p h = record { x = within_below PLACE_SIZE p.x h.x_below; y = within_below PLACE_SIZE p.y h.y_below; w = weight_of_small p.w h.w_below h.positive }

pub small_of : (p : Place) → IsPlace p → IsSmallPlace p
small_of p h = record {
  x_below = below_within PLACE_SIZE p.x h.x;
  y_below = below_within PLACE_SIZE p.y h.y;
  w_below = weight_below p.w h.w;
  positive = weight_positive p.w h.w;
}

weight_within : (z : ℤ) → IsWeight z → IsWithin PLACE_WEIGHT z
weight_within (pos n) h = h.1
weight_within (negsuc n) h = absurd h

-- ---- places

wide_size : PLACE_SIZE ≤ 10 ^ 64
wide_size = lit≤ tt

wide_weight : PLACE_WEIGHT ≤ 10 ^ 64
wide_weight = lit≤ tt

weight_again : (z : ℤ) → IsWeight z → weight (signed_decimal z) ≡ Some z
weight_again (pos n) h =
    let lt = h.0 in
    ap (option_and_then (λ m. cond (m == 0) None (Some (pos m)))) (number_again PLACE_WEIGHT n h.1 wide_weight) ∙ ap (λ b. cond b None (Some (pos n))) (ne_eqb n 0 (omega arith))
weight_again (negsuc n) h = absurd h

weight_sound : (z : ℤ) (t : List ℕ) → weight t ≡ Some z → IsWeight z × (t ≡ signed_decimal z)
weight_sound z t h =
    let n = some_of_then (λ m. cond (m == 0) None (Some (pos m))) (number_of PLACE_WEIGHT t) z h in
    let s = number_sound PLACE_WEIGHT n.0 t wide_weight n.1 in
    go n.0 (n.0 == 0) refl n.2 s
  where
    go : (n : ℕ) (b : Bool) → (n == 0) ≡ b → cond b None (Some (pos n)) ≡ Some z → (n < PLACE_WEIGHT) × (t ≡ decimal n) → IsWeight z × (t ≡ signed_decimal z)
    go zero b e k s = let f = ap (λ (b : Bool). cond b None (Some (pos 0))) e ∙ k in cc
    go (suc n) true e k s = cc
    go (suc n) false e k s =
        let q : pos (suc n) ≡ z = cc in
        (subst IsWeight q (omega arith, s.0), s.1 ∙ ap signed_decimal q)

free_place : (p : Place) → IsPlace p → AllFree 44 (place_parts p)
free_place p h = (free_signed 44 PLACE_SIZE p.x (lit< tt) wide_size h.x, (free_signed 44 PLACE_SIZE p.y (lit< tt) wide_size h.y, (free_signed 44 PLACE_WEIGHT p.w (lit< tt) wide_weight (weight_within p.w h.w), tt)))

pub place_again : (p : Place) → IsPlace p → place_of (place_word p) ≡ Some p
place_again p h =
    ap place_by (split_join 44 (signed_decimal p.x) (signed_decimal p.y ∷ signed_decimal p.w ∷ []) (free_place p h))
    ∙ ap (option_and_then (λ a. option_and_then (λ b. option_map (λ c. let q : Place = record { x = a; y = b; w = c } in q) (weight (signed_decimal p.w))) (signed_of PLACE_SIZE (signed_decimal p.y)))) (signed_again PLACE_SIZE p.x h.x wide_size)
    ∙ ap (option_and_then (λ b. option_map (λ c. let q : Place = record { x = p.x; y = b; w = c } in q) (weight (signed_decimal p.w)))) (signed_again PLACE_SIZE p.y h.y wide_size)
    ∙ ap (option_map (λ c. let q : Place = record { x = p.x; y = p.y; w = c } in q)) (weight_again p.w h.w)

place_by_sound : (ts : List (List ℕ)) (p : Place) → place_by ts ≡ Some p → IsPlace p × (ts ≡ place_parts p)
place_by_sound [] p h = cc
place_by_sound (x ∷ []) p h = cc
place_by_sound (x ∷ y ∷ []) p h = cc
place_by_sound (x ∷ y ∷ w ∷ []) p h =
    let a = some_of_then _ (signed_of PLACE_SIZE x) p h in
    let b = some_of_then _ (signed_of PLACE_SIZE y) p a.2 in
    let c = some_of_map _ (weight w) p b.2 in
    let sx = signed_sound PLACE_SIZE a.0 x wide_size a.1 in
    let sy = signed_sound PLACE_SIZE b.0 y wide_size b.1 in
    let sw = weight_sound c.0 w c.1 in
    let made : Place = record { x = a.0; y = b.0; w = c.0 } in
    let ok : IsPlace made = record { x = sx.0; y = sy.0; w = sw.0 } in
    (subst IsPlace c.2 ok, ap₂ (λ (s : List ℕ) (t : List ℕ × List ℕ). s ∷ t.0 ∷ t.1 ∷ []) sx.1 (λ i. (sy.1 i, sw.1 i)) ∙ ap place_parts c.2)
place_by_sound (x ∷ y ∷ w ∷ z ∷ ts) p h = cc

pub place_sound : (t : List ℕ) (p : Place) → place_of t ≡ Some p → IsPlace p × (t ≡ place_word p)
place_sound t p h =
    let s = place_by_sound (slice_split (λ b. b == 44) t) p h in
    (s.0, sym (join_with_byte-slice_split 44 t) ∙ ap (join_with_byte 44) s.1)

pub free_place_word : (p : Place) → IsPlace p → free 32 (place_word p) ≡ true
free_place_word p h =
    let x = free_signed 32 PLACE_SIZE p.x (lit< tt) wide_size h.x in
    let y = free_signed 32 PLACE_SIZE p.y (lit< tt) wide_size h.y in
    let w = free_signed 32 PLACE_WEIGHT p.w (lit< tt) wide_weight (weight_within p.w h.w) in
    free_append 32 (signed_decimal p.x) (44 ∷ signed_decimal p.y ++ 44 ∷ signed_decimal p.w) x (free_append 32 (signed_decimal p.y) (44 ∷ signed_decimal p.w) y w)
