-- What tests say.
use Rattle.std.proofs.Common.{◌≡◌, ◌⊎◌, inl, inr, Ordering, Less, Equal, Greater, refl, sym, ◌∙◌, arith, ℤ, pos, ◌<ℤ◌, ◌≤ℤ◌, Bool, true, false, ◌&&◌, ◌||◌, IsTrue}
use Rattle.std.specs.Prelude.{int_lt, int_le}
use Rattle.std.specs.Ordering.{int_eq, is_eq}
use Rattle.std.proofs.lemmas.Int.{ints}
use Rattle.std.proofs.lemmas.Bool.{false≢true}
use Rattle.std.proofs.lemmas.Bool.Decides.{Decides-int_eq}

-- ---- both and either

pub both_of : (a b : Bool) → IsTrue (a && b) → IsTrue a × IsTrue b
both_of true b t = (refl, t)
both_of false b t = absurd (false≢true t)

pub of_both : (a b : Bool) → IsTrue a → IsTrue b → IsTrue (a && b)
of_both true b s t = t
of_both false b s t = absurd (false≢true s)

pub either_of : (a b : Bool) → IsTrue (a || b) → IsTrue a ⊎ IsTrue b
either_of true b t = inl refl
either_of false b t = inr t

pub of_first : (a b : Bool) → IsTrue a → IsTrue (a || b)
of_first true b t = refl
of_first false b t = absurd (false≢true t)

pub of_second : (a b : Bool) → IsTrue b → IsTrue (a || b)
of_second true b t = refl
of_second false b t = t

pub by_test {ℓ} : {P : Type ℓ} (b : Bool) → (IsTrue b → P) → (b ≡ false → P) → P
by_test true f g = f refl
by_test false f g = g refl

pub not_true : (b : Bool) → (IsTrue b → ⊥) → b ≡ false
not_true true f = absurd (f refl)
not_true false f = refl

pub not_false : (b : Bool) → b ≡ false → IsTrue b → ⊥
not_false b e t = false≢true (sym e ∙ t)

pub same_truth : (a b : Bool) → (IsTrue a → IsTrue b) → (IsTrue b → IsTrue a) → a ≡ b
same_truth true true f g = refl
same_truth true false f g = sym (f refl)
same_truth false true f g = g refl
same_truth false false f g = refl

pub and_true : (a b : Bool) → (a && b) ≡ true → (a ≡ true) × (b ≡ true)
and_true true b h = (refl, h)
and_true false b h = cc

pub true_and : (a b : Bool) → a ≡ true → b ≡ true → (a && b) ≡ true
true_and true b g h = h
true_and false b g h = cc

pub first_true : (a b : Bool) → (a && b) ≡ true → a ≡ true
first_true a b h = (and_true a b h).0

pub second_true : (a b : Bool) → (a && b) ≡ true → b ≡ true
second_true a b h = (and_true a b h).1

-- ---- whole numbers and orders

pub lt_from : (z : ℤ) → IsTrue (int_lt (pos 0) z) → pos 0 <ℤ z
lt_from z t = omega (arith, ints, t)

pub to_lt : (z : ℤ) → pos 0 <ℤ z → IsTrue (int_lt (pos 0) z)
to_lt z h = grind (arith, ints)

pub le_from : (z : ℤ) → IsTrue (int_le (pos 0) z) → pos 0 ≤ℤ z
le_from z t = omega (arith, ints, t)

pub to_le : (z : ℤ) → pos 0 ≤ℤ z → IsTrue (int_le (pos 0) z)
to_le z h = grind (arith, ints)

pub at_most_from : (z : ℤ) → IsTrue (int_le z (pos 0)) → z ≤ℤ pos 0
at_most_from z t = omega (arith, ints, t)

pub to_at_most : (z : ℤ) → z ≤ℤ pos 0 → IsTrue (int_le z (pos 0))
to_at_most z h = grind (arith, ints)

pub eq_from : (z : ℤ) → IsTrue (int_eq z (pos 0)) → z ≡ pos 0
eq_from z t = (Decides-int_eq z (pos 0)).0 t

pub to_eq : (z : ℤ) → z ≡ pos 0 → IsTrue (int_eq z (pos 0))
to_eq z h = (Decides-int_eq z (pos 0)).1 h

pub equal_of : (o : Ordering) → is_eq o ≡ true → o ≡ Equal
equal_of Less h = absurd (false≢true h)
equal_of Equal h = refl
equal_of Greater h = absurd (false≢true h)
