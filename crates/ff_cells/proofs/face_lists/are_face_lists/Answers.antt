use Rattle.std.proofs.Common.{ℕ, List, ◌<◌, ◌+◌, ◌≡◌, ◌⊎◌, inl, inr, refl, sym, ◌∙◌, subst, arith, length, get_or}
use Rattle.std.proofs.lemmas.Bool.{false≢true}
use Rattle.std.proofs.lemmas.List.{get_or_default}
use Rattle.ff_cells.specs.declared.cell.Cell.{Cell}
use Rattle.ff_cells.specs.FaceSets.{IsFaceList}
use Rattle.ff_cells.proofs.face_lists.are_face_lists.Goals as goal

pub returns-then-not-is_face_list : goal.returns-then-not-is_face_list
returns-then-not-is_face_list c = (
  λ t. absurd (false≢true t),
  λ all. sym c.if-not-is_face_list.true ∙ c.is_face_list.ensures.1
      (subst IsFaceList (sym c.index-cells-k.is) (all c.loop-k.k c.index-cells-k.result c.loop-k-test.true)),
)

step : (cells : List Cell) (k : ℕ) (cell : Cell) → cell ≡ get_or cells k cell → k < length cells
    → IsFaceList cell
    → ((i : ℕ) (d : Cell) → i < k → IsFaceList (get_or cells i d)) → (i : ℕ) (d : Cell) → i < k + 1
    → IsFaceList (get_or cells i d)
step cells k cell is lt this before i d l = elim (either i l) [
  | inl m ↦ before i d m
  | inr e ↦ subst (λ n. IsFaceList (get_or cells n d)) (sym e)
      (subst IsFaceList (is ∙ get_or_default cells k cell d lt) this)
] where
  either : (i : ℕ) → i < k + 1 → (i < k) ⊎ (i ≡ k)
  either i l = grind (arith, l)

pub loop-k-preserved : goal.loop-k-preserved
loop-k-preserved c = step c.args.cells.now c.loop-k.k c.index-cells-k.result c.index-cells-k.is
    c.loop-k-test.true (c.is_face_list.ensures.0 c.if-not-is_face_list.false) c.loop-k.invariant

pub returns : goal.returns
returns c = (
  λ t k d l. c.loop-k.invariant k d (let e = c.loop-k-test.false in omega (arith, l, e)),
  λ all. refl,
)
