-- Extents that reach farther, and lists with one extent more.
use Rattle.std.proofs.Common.{◌≡◌, ◌⊎◌, inl, inr, ℕ, ◌+◌, ◌<◌, List, [], ◌∷◌, ◌++◌, arith, sym, ◌∙◌, ap, subst}
use Rattle.std.proofs.lemmas.List.{get_or_append_left, get_or_push, length_push}
use Rattle.ff_basics.proofs.Numbers.{last_or}
use Rattle.ff_whole.specs.declared.points.Pt.{Pt}
use Rattle.ff_whole.specs.Convex.{point_at}
use Rattle.ff_types.specs.Rings.{corner}
use Rattle.ff_edges.specs.declared.extents.Extent.{Extent}
use Rattle.ff_edges.specs.Extents.{IsExtent, IsAround, IsWithin, AreRound, extent_at, AreExtents, IsRoundAll}

pub round_more : (points : List Pt) (ring : List ℕ) (n : ℕ) (a b : Extent) → AreRound points ring n a → IsWithin a b → IsAround (point_at points (corner ring n)) b → AreRound points ring (n + 1) b
round_more points ring n a b h on here k l = elim (last_or k n l) [
  | inl m ↦ on _ (h k m)
  | inr e ↦ subst (λ i. IsAround (point_at points (corner ring i)) b) (sym e) here
]

pub all_more : (list : List Extent) (from n : ℕ) (a b : Extent) → IsRoundAll list from n a → IsWithin a b → IsWithin (extent_at list n) b → IsRoundAll list from (n + 1) b
all_more list from n a b h on here k low l m = elim (last_or k n l) [
  | inl o ↦ λ p q. on p (h k low o m p q)
  | inr e ↦ subst (λ i. IsWithin (extent_at list i) b) (sym e) here
]

module _ (IsRound : ℕ → Extent → Type 0) where
  pub extents_more : (n : ℕ) (list : List Extent) (a : Extent) → AreExtents IsRound n list → IsExtent a → IsRound n a → AreExtents IsRound (n + 1) (list ++ a ∷ [])
  extents_more n list a h x r = record {
    count = length_push list a ∙ ap (λ k. k + 1) h.count;
    within = λ k l. each IsExtent k (last_or k n l) (h.within k) (λ e. x);
    round = λ k l. each (IsRound k) k (last_or k n l) (h.round k) (λ e. subst (λ i. IsRound i a) (sym e) r);
  } where
    each : (P : Extent → Type 0) (k : ℕ) → (k < n) ⊎ (k ≡ n) → (k < n → P (extent_at list k)) → (k ≡ n → P a) → P (extent_at (list ++ a ∷ []) k)
    each P k (inl l) old new = let e = h.count in subst P (sym (get_or_append_left list (a ∷ []) _ k (omega (arith, l, e)))) (old l)
    each P k (inr l) old new = subst P (sym (get_or_push list a _ k (h.count ∙ sym l))) (new l)
