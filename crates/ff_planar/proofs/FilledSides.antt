-- Sides given to darts one after the other.
use Rattle.std.proofs.Common.{◌≡◌, ◌≢◌, ◌⊎◌, inl, inr, ℕ, ◌+◌, ◌<◌, ◌≤◌, List, length, slice_index, slice_set, arith, refl, sym, ap, ◌∙◌}
use Rattle.std.proofs.lemmas.List.{get_or-set_same, get_or-set_other, length-set}
use Rattle.ff_basics.proofs.Numbers.{last_or, same_or}
use Rattle.ff_planar.specs.declared.traces.Side.{Side}
use Rattle.ff_planar.specs.declared.traces.Side.TheVariants.{Unmet}
use Rattle.ff_planar.specs.Traces.{side_at, Fills}

-- the first n have been given it
pub record FillsTo (old : List Side) (orbit : List ℕ) (n : ℕ) (side : Side) (new : List Side) : Type 0 where
  pub as_many : length new ≡ length old
  pub on : (i : ℕ) → i < n → side_at new (slice_index orbit i) ≡ side
  pub off : (d : ℕ) → ((i : ℕ) → i < n → slice_index orbit i ≡ d → ⊥) → side_at new d ≡ side_at old d

pub fill_more : (old : List Side) (orbit : List ℕ) (n : ℕ) (side : Side) (new : List Side) → FillsTo old orbit n side new → slice_index orbit n < length old
    → FillsTo old orbit (n + 1) side (slice_set new (slice_index orbit n) side)
fill_more old orbit n side new f l =
    let k = slice_index orbit n in
    let many = f.as_many in
    let here : side_at (slice_set new k side) k ≡ side = get_or-set_same new k side Unmet (omega (arith, l, many)) in
    record {
      as_many = length-set new k side ∙ many;
      on = λ i m. elim (last_or i n m) [
        | inl o ↦ elim (same_or (slice_index orbit i) k) [
          | inl x ↦ get_or-set_other new k (slice_index orbit i) side Unmet x ∙ f.on i o
          | inr x ↦ ap (side_at (slice_set new k side)) x ∙ here
        ]
        | inr o ↦ ap (λ j. side_at (slice_set new k side) (slice_index orbit j)) o ∙ here
      ];
      off = λ d h. get_or-set_other new k d side Unmet (λ e. h n (omega arith) (sym e)) ∙ f.off d (λ i m. h i (omega (arith, m)));
    }

pub fill_none : (old : List Side) (orbit : List ℕ) (side : Side) → FillsTo old orbit 0 side old
fill_none old orbit side = record { as_many = refl; on = λ i l. absurd (omega (arith, l)); off = λ d h. refl }

pub fill_all : (old : List Side) (orbit : List ℕ) (n : ℕ) (side : Side) (new : List Side) → FillsTo old orbit n side new → length orbit ≤ n → n ≤ length orbit → Fills old orbit side new
fill_all old orbit n side new f l m = record {
  as_many = f.as_many;
  on = λ i o. f.on i (omega (arith, l, o));
  off = λ d h. f.off d (λ i o. h i (omega (arith, m, o)));
}
