-- One term more of an area.
use Rattle.std.proofs.Common.{◌≡◌, ℕ, ◌+◌, ◌*◌, ◌^◌, ◌<◌, ◌≤◌, arith, sym, ap, ◌∙◌, subst, ℤ, ◌+ℤ◌, to_z, of_z, suc}
use mir.Syntax.{w64}
use Rattle.ff_whole.proofs.Searches.{sum as sum_of}
use Rattle.ff_whole.proofs.Bounds.{back, below-add}
use Rattle.ff_whole.specs.Sizes.{IsBelow}
use Rattle.ff_whole.specs.declared.sizes.TheConstants.{AREA_SIZE}

pub wide_below : {m n : ℕ} {a : ℤ} → IsBelow m a → m ≤ n → IsBelow n a
wide_below h l = let b = h.below in record { below = omega (arith, b, l) }

-- what the sum is, and that it is small
pub record IsSum (i : ℕ) (f : ℕ → ℤ) (a : ℤ) : Type 0 where
  pub value : a ≡ sum_of i f
  pub size : IsBelow (i * AREA_SIZE + 1) a

pub one_more : (i : ℕ) (f : ℕ → ℤ) (a s : ℤ) → IsSum i f a → i < 2 ^ 15 → s ≡ f i → IsBelow (AREA_SIZE) s → IsSum (i + 1) f (to_z w64 (of_z w64 (a +ℤ to_z w64 (of_z w64 s))))
one_more i f a s h l e b =
    let whole : IsBelow ((i * AREA_SIZE + 1) + AREA_SIZE) (a +ℤ s) = below-add h.size b in
    let small : IsBelow (2 ^ 63) (a +ℤ s) = wide_below whole (omega (arith, l)) in
    let same : to_z w64 (of_z w64 (a +ℤ to_z w64 (of_z w64 s))) ≡ a +ℤ s = ap (λ t. to_z w64 (of_z w64 (a +ℤ t))) (back w64 b tt) ∙ back w64 small tt in
    let n : i + 1 ≡ suc i = omega arith in
    record {
      value = same ∙ ap (λ t. t +ℤ s) h.value ∙ ap (λ t. sum_of i f +ℤ t) e ∙ ap (λ k. sum_of k f) (sym n);
      size = subst (IsBelow ((i + 1) * AREA_SIZE + 1)) (sym same) (wide_below whole (omega arith));
    }
