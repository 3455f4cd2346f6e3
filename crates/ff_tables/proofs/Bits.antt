-- Tests as bits.
use Rattle.std.proofs.Common.{◌≡◌, ℕ, zero, suc, ◌+◌, ◌*◌, ◌<◌, ◌&&◌, Bool, true, false, List, [], ◌∷◌, map, slice_get, bit_and, refl, ap, ◌∙◌, subst, arith, Some}
use Rattle.std.specs.Prelude.{if◌then◌else◌}
use Rattle.std.proofs.lemmas.Nat.{and_block}
use Rattle.ff_tables.specs.Masks.{bits}

pub by_bool : {C : Type 0} (b : Bool) → (b ≡ true → C) → (b ≡ false → C) → C
by_bool true t f = t refl
by_bool false t f = f refl

pub true_false : {C : Type 0} {b : Bool} → b ≡ true → b ≡ false → C
true_false p q = cc

abbrev bit : Bool → ℕ
bit b = if b then 1 else 0

bit_and_bits : (a b : Bool) → bit_and (bit a) (bit b) ≡ bit (a && b)
bit_and_bits true true = refl
bit_and_bits true false = refl
bit_and_bits false true = refl
bit_and_bits false false = refl

bit_lt : (a : Bool) → bit a < 2
bit_lt true = omega arith
bit_lt false = omega arith

pub bits-cons : (b : Bool) (bs : List Bool) → bits (b ∷ bs) ≡ bits bs * 2 + bit b
unfolding bits
bits-cons b bs = refl

pub bits-nil : bits [] ≡ 0
unfolding bits
bits-nil = refl

pub bits-and : {A : Type 0} (f g : A → Bool) (xs : List A)
    → bit_and (bits (map f xs)) (bits (map g xs)) ≡ bits (map (λ x. f x && g x) xs)
unfolding bits
bits-and f g [] = refl
bits-and f g (x ∷ xs) =
    and_block 1 (bits (map f xs)) (bits (map g xs)) (bit (f x)) (bit (g x)) (bit_lt (f x)) (bit_lt (g x))
    ∙ ap (λ n. n * 2 + bit_and (bit (f x)) (bit (g x))) (bits-and f g xs)
    ∙ ap (λ n. bits (map (λ y. f y && g y) xs) * 2 + n) (bit_and_bits (f x) (g x))

pub bits-same : {A : Type 0} (f g : A → Bool) (xs : List A) → ((x : A) → f x ≡ g x)
    → bits (map f xs) ≡ bits (map g xs)
unfolding bits
bits-same f g [] h = refl
bits-same f g (x ∷ xs) h = ap (λ n. n * 2 + bit (f x)) (bits-same f g xs h)
    ∙ ap (λ b. bits (map g xs) * 2 + bit b) (h x)

is_bit : (a : Bool) → bit a ≡ 0 → a ≡ false
is_bit true h = absurd (omega arith)
is_bit false h = refl

pub bits-zero : {A : Type 0} (f : A → Bool) (xs : List A) → bits (map f xs) ≡ 0 → (k : ℕ) (x : A)
    → slice_get xs k ≡ Some x → f x ≡ false
unfolding bits
bits-zero f [] h k x at = cc
bits-zero f (y ∷ ys) h zero x at = let e : y ≡ x = cc in subst (λ z. f z ≡ false) e (is_bit (f y) (omega arith))
bits-zero f (y ∷ ys) h (suc k) x at = bits-zero f ys (omega arith) k x at

pub bits-some : {A : Type 0} (f : A → Bool) (xs : List A) → 0 < bits (map f xs) → (k : ℕ) × (x : A)
    × (slice_get xs k ≡ Some x) × (f x ≡ true)
unfolding bits
bits-some f [] h = absurd (omega arith)
bits-some f (y ∷ ys) h = by_bool (f y)
    (λ t. (0, y, refl, t))
    (λ e. let n : bit (f y) ≡ 0 = ap bit e in let r = bits-some f ys (omega arith) in (suc r.0, r.1, r.2, r.3))
