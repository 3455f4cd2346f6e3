-- What a test tells that is made of two tests, and tests of two ranges.
use Rattle.std.proofs.Common.{◌≡◌, ◌⊎◌, ◌↔◌, inl, inr, sym, ◌∙◌, subst, ℤ, ◌≤ℤ◌, Bool, true, false, IsTrue, to_z, of_z}
use Rattle.std.proofs.lemmas.Bool.{false≢true}
use mir.Syntax.{w64}
use Rattle.ff_whole.specs.declared.sizes.TheConstants.{POINT_SIZE}
use Rattle.ff_whole.specs.Sizes.{IsBelow}
use Rattle.ff_whole.proofs.Bounds.{read}

pub first_tells : (x : Bool) (P Q : Type 0) → IsTrue x ↔ P → x ≡ true → IsTrue x ↔ (P ⊎ Q)
first_tells x P Q h t = (λ u. inl (h.0 u), λ u. t)

pub second_tells : (x y : Bool) (P Q : Type 0) → IsTrue x ↔ P → IsTrue y ↔ Q → x ≡ false → IsTrue y ↔ (P ⊎ Q)
second_tells x y P Q h k f = (λ u. inr (k.0 u), λ u. elim u [ inl p ↦ absurd (false≢true (sym f ∙ h.1 p)) | inr q ↦ k.1 q ])

-- one of two ranges ends where the other one begins, or before that
abbrev pub Ends : ℤ → ℤ → ℤ → ℤ → Type 0
Ends a_low a_high b_low b_high = (a_high ≤ℤ b_low) ⊎ (b_high ≤ℤ a_low)

abbrev stored : ℤ → ℤ
stored z = to_z w64 (of_z w64 z)

-- the same of their numbers as they are stored
pub ends_tell : {a b c d : ℤ} (x : Bool) → IsBelow POINT_SIZE a → IsBelow POINT_SIZE b → IsBelow POINT_SIZE c → IsBelow POINT_SIZE d
    → IsTrue x ↔ Ends (stored a) (stored b) (stored c) (stored d) → IsTrue x ↔ Ends a b c d
ends_tell x h k l m t = subst (λ z. z) (λ i. IsTrue x ↔ Ends ((read w64 h tt).is i) ((read w64 k tt).is i) ((read w64 l tt).is i) ((read w64 m tt).is i)) t

pub both_tell : (x y : Bool) (P Q : Type 0) → IsTrue x ↔ P → IsTrue y ↔ Q → x ≡ true → IsTrue y ↔ (P × Q)
both_tell x y P Q h k t = (λ u. (h.0 t, k.0 u), λ u. k.1 u.1)

pub first_fails : (x : Bool) (P Q : Type 0) → IsTrue x ↔ P → x ≡ false → IsTrue x ↔ (P × Q)
first_fails x P Q h f = (λ u. absurd (false≢true (sym f ∙ u)), λ u. h.1 u.0)

-- neither ends before the other one begins
abbrev pub Touch : ℤ → ℤ → ℤ → ℤ → Type 0
Touch a_low a_high b_low b_high = (b_low ≤ℤ a_high) × (a_low ≤ℤ b_high)

pub touch_tells : {a b c d : ℤ} (x : Bool) → IsBelow POINT_SIZE a → IsBelow POINT_SIZE b → IsBelow POINT_SIZE c → IsBelow POINT_SIZE d
    → IsTrue x ↔ Touch (stored a) (stored b) (stored c) (stored d) → IsTrue x ↔ Touch a b c d
touch_tells x h k l m t = subst (λ z. z) (λ i. IsTrue x ↔ Touch ((read w64 h tt).is i) ((read w64 k tt).is i) ((read w64 l tt).is i) ((read w64 m tt).is i)) t
