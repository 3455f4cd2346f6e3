-- A word gives back the fact that it was made of.
use Rattle.std.proofs.Common.{◌≡◌, ℕ, ◌+◌, ◌*◌, ◌/◌, ◌%◌, ◌<◌, ◌≢◌, ◌==◌, nat_eq, Bool, true, false, cond, refl, sym, ap, ◌∙◌, arith, Option, Some, None, eq-eqb, ne_eqb, if◌then◌else◌}
use native.Mathlib.Decide.{ℕ_discrete}
use Rattle.ff_propagate.specs.declared.facts.Reason.TheVariants as by
use Rattle.ff_propagate.specs.declared.words.Held.{Held}
use Rattle.ff_propagate.specs.Words.{held_of, unpack, order_of, reason_of, number_of, IsPackable}

pub held_zero : held_of 0 ≡ None
unfolding held_of
held_zero = refl

pub packs : (v f : ℕ) (m i l : ℕ) → v < 2 → f < 2 → m < 64 → i < 4194304 → l < 1073741824 → (w : ℕ) → w ≡ 1 + 2 * v + 4 * f + 8 * m + 512 * i + 2147483648 * l
    → ((w / 2) % 2 ≡ v) × ((w / 4) % 2 ≡ f) × ((w / 8) % 64 ≡ m) × ((w / 512) % 4194304 ≡ i) × ((w / 2147483648) % 1073741824 ≡ l)
packs v f m i l a b c d e w h = (omega arith, omega arith, omega arith, omega arith, omega arith)

pub packed : (h : Held) (v f i w : ℕ) → v < 2 → f < 2 → order_of (nat_eq v 1) ≡ h.fact.value → reason_of (nat_eq f 1) i ≡ h.fact.reason → h.marks < 64 → i < 4194304 → h.fact.level < 1073741824
    → w ≡ 1 + 2 * v + 4 * f + 8 * h.marks + 512 * i + 2147483648 * h.fact.level → held_of w ≡ Some h
unfolding held_of
packed h v f i w a b is_v is_f c d e is =
    let p = packs v f h.marks i h.fact.level a b c d e w is in
    let some_word : w ≢ 0 = omega arith in
    let same : unpack w ≡ h = λ k. record {
      fact = record {
        value = (ap (λ n. order_of (nat_eq n 1)) p.0 ∙ is_v) k;
        level = p.4 k;
        reason = (ap (λ n. reason_of (nat_eq n 1) ((w / 512) % 4194304)) p.1 ∙ (ap (reason_of (nat_eq f 1)) p.3 ∙ is_f)) k;
      };
      marks = p.2 k;
    } in
    rw (ne_eqb w 0 some_word) (ap Some same)

number_is : (b : Bool) (n : ℕ) → number_of (reason_of b n) ≡ n
number_is true n = refl
number_is false n = refl

pub numbers : (h : Held) (f i : ℕ) → IsPackable h → reason_of (nat_eq f 1) i ≡ h.fact.reason → i < 4194304
numbers h f i p is = let e : i ≡ number_of h.fact.reason = sym (number_is (nat_eq f 1) i) ∙ ap number_of is in omega (arith, p.1)

some_none : (h : Held) → Some h ≡ None → ⊥
some_none h e = cc

by_test : (w : ℕ) → Dec (w ≡ 0) → held_of w ≡ None → w ≡ 0
unfolding held_of
by_test w (yes z) e = z
by_test w (no n) e = absurd (some_none (unpack w) (sym (rw (ne_eqb w 0 n) refl) ∙ e))

-- a word with no fact is 0
pub unset : (w : ℕ) → held_of w ≡ None → w ≡ 0
unset w e = by_test w (ℕ_discrete w 0) e

pub some_of : (w : ℕ) → w ≢ 0 → (h : Held) × (held_of w ≡ Some h)
unfolding held_of
some_of w n = (unpack w, rw (ne_eqb w 0 n) refl)
