-- Rows of seats, by `slice_get`.
use Rattle.std.proofs.Common.{◌≡◌, ℕ, zero, suc, ◌⊎◌, List, [], ◌∷◌, ◌++◌, length, slice_get, ⊎_elim, inl, inr, refl, sym, ap, ◌∙◌, Some, None}
use mathlib.Core.Option as maybe
use lib.ListN.{get_elem?}

module _ {X : Type 0} where
  none_some : (a : X) → None ≡ Some a → ⊥
  none_some a e = cc

  pub same_some : (a b : X) → Some a ≡ Some b → a ≡ b
  same_some a b e = cc

  pub got_longer : (l m : List X) (k : ℕ) (d : X) → slice_get l k ≡ Some d → slice_get (l ++ m) k ≡ Some d
  got_longer [] m k d e = absurd (none_some d e)
  got_longer (x ∷ xs) m zero d e = e
  got_longer (x ∷ xs) m (suc k) d e = got_longer xs m k d e

  pub got_last : (l : List X) (d : X) → slice_get (l ++ d ∷ []) (length l) ≡ Some d
  got_last [] d = refl
  got_last (x ∷ xs) d = got_last xs d

  pub got_end : (l : List X) (x d : X) (k : ℕ) → slice_get (l ++ x ∷ []) k ≡ Some d → (slice_get l k ≡ Some d) ⊎ ((k ≡ length l) × (x ≡ d))
  got_end [] x d zero e = inr (refl, same_some x d e)
  got_end [] x d (suc k) e = absurd (none_some d e)
  got_end (y ∷ ys) x d zero e = inl e
  got_end (y ∷ ys) x d (suc k) e = ⊎_elim inl (λ t. inr (ap suc t.0, t.1)) (got_end ys x d k e)

  pub same_there : (l : List X) (i : ℕ) (a b : X) → get_elem? l i ≡ maybe.some a → get_elem? l i ≡ maybe.some b → a ≡ b
  same_there l i a b p q = maybe.some-injective a b (sym p ∙ q)
