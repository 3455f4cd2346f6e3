-- A number above all faces of the cells.
use Rattle.std.proofs.Common.{◌≡◌, ℕ, zero, suc, ◌+◌, ◌-◌, ◌<◌, ◌≤◌, ◌⊎◌, List, length, get_or, sym, ◌∙◌, ap, subst, inl, inr, arith, Some, slice_get}
use Rattle.std.specs.List.{All}
use Rattle.std.specs.List.Sorted.{IsStrictlyIncreasing}
use Rattle.std.proofs.lemmas.List.{get_or_default}
use Rattle.std.proofs.lemmas.Option.{slice_get-get_or, same_Some}
use Rattle.ff_types.specs.declared.limits.TheConstants.{MOST_FACES}
use Rattle.ff_cells.specs.declared.cell.Cell.{Cell}

-- the faces of the first k cells are below w
abbrev pub AreBelow : List Cell → ℕ → ℕ → Type 0
AreBelow cells k w = (i : ℕ) (c : Cell) → i < k → slice_get cells i ≡ Some c → All (λ f. f < w) c.faces

-- the greatest face of the first k cells is below w, which isn't too large
pub record IsWidth (cells : List Cell) (k w : ℕ) : Type 0 where
  pub few : w ≤ MOST_FACES
  pub faces : AreBelow cells k w

-- a rising list ends with its greatest
pub below_last : (xs : List ℕ) → IsStrictlyIncreasing xs → 0 < length xs → (w : ℕ) → get_or xs (length xs - 1) 0 < w → All (λ f. f < w) xs
below_last xs up some w last k d l = subst (λ x. x < w) (get_or_default xs k 0 d l) (far (length xs - 1 - k) k l (omega (arith, l))) where
  far : (n k : ℕ) → k < length xs → k + n ≡ length xs - 1 → get_or xs k 0 < w
  far zero k l e = subst (λ i. get_or xs i 0 < w) (omega (arith, e)) last
  far (suc n) k l e =
      let next = far n (k + 1) (omega (arith, l, e)) (omega (arith, e)) in
      let step = up k (omega (arith, l, e)) in
      omega (arith, next, step)

pub wider : (w v : ℕ) (xs : List ℕ) → w ≤ v → All (λ f. f < w) xs → All (λ f. f < v) xs
wider w v xs le all k d l = let a = all k d l in omega (arith, le, a)

pub one_more : (cells : List Cell) (k w v : ℕ) (c : Cell) → slice_get cells k ≡ Some c → w ≤ v → All (λ f. f < v) c.faces → AreBelow cells k w → AreBelow cells (k + 1) v
one_more cells k w v c at le this before i d l e = elim (either l) [
  | inl m ↦ wider w v d.faces le (before i d m e)
  | inr m ↦ subst (λ (z : Cell). All (λ f. f < v) z.faces) (same_Some c d (sym at ∙ ap (slice_get cells) (sym m) ∙ e)) this
] where
  either : i < k + 1 → (i < k) ⊎ (i ≡ k)
  either l = grind (arith, l)

pub all_below : (cells : List Cell) (k w : ℕ) → length cells ≤ k → AreBelow cells k w → All (λ c. All (λ f. f < w) c.faces) cells
all_below cells k w le below i d l = below i (get_or cells i d) (omega (arith, le, l)) (slice_get-get_or cells i d l)
