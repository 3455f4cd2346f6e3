-- A test of one thing or another.
use Rattle.std.proofs.Common.{◌⊎◌, inl, inr, refl, sym, ◌∙◌, ◌≡◌, Bool, true, false, IsTrue}
use Rattle.std.specs.Prelude.{◌↔◌}
use Rattle.std.proofs.lemmas.Bool.{false≢true}

-- the first of two holds
pub first_holds : (P Q : Type 0) (b : Bool) → b ≡ true → (IsTrue b ↔ P) → IsTrue true ↔ (P ⊎ Q)
first_holds P Q b e h = (λ _. inl (h.0 e), λ _. refl)

-- the first doesn't, and the second is tested
pub second_tells : (P Q : Type 0) (b c : Bool) → b ≡ false → (IsTrue b ↔ P) → (IsTrue c ↔ Q) → IsTrue c ↔ (P ⊎ Q)
second_tells P Q b c e h k = (λ t. inr (k.0 t), λ o. elim o [ inl p ↦ absurd (false≢true (sym e ∙ h.1 p)) | inr q ↦ k.1 q ])
