use Rattle.std.proofs.Common.{◌≡◌, ◌<◌, ℕ, zero, suc, ◌+◌, ◌*◌, arith, List, [], ◌∷◌, slice_index_or, ap, ◌∙◌, refl}
use Rattle.ff_tables.specs.declared.orders.Order.{Order}
use Rattle.ff_tables.specs.declared.orders.Order.TheVariants.{Below, Above}
use Rattle.ff_tables.specs.declared.terms.Kind.{Kind}
use Rattle.ff_tables.specs.declared.terms.Kind.TheVariants.{TacoTaco, TacoTortilla, TortillaTortilla, Transitivity}
use Rattle.ff_tables.specs.Rows.{rows_of, arity}
use Rattle.ff_tables.specs.Masks.{side_of, bits, mask_of, base}
use Rattle.ff_tables.proofs.masks.mask.Goals as goal

abbrev masks : List ℕ
masks = 255 ∷ 65280 ∷ 1823 ∷ 63712 ∷ 2863 ∷ 62672 ∷ 14099 ∷ 51436 ∷ 15139 ∷ 50396 ∷ 22885 ∷ 42650 ∷ 7 ∷ 56 ∷ 11
    ∷ 52 ∷ 25 ∷ 38 ∷ 1 ∷ 2 ∷ 1 ∷ 2 ∷ []

-- the table, by computing
below : (kind : Kind) (j : ℕ) → j < arity kind → slice_index_or masks (base kind + 2 * j + 0) 0 ≡ mask_of kind j Below
unfolding rows_of bits
below TacoTaco zero h = refl
below TacoTaco (suc zero) h = refl
below TacoTaco (suc (suc zero)) h = refl
below TacoTaco (suc (suc (suc zero))) h = refl
below TacoTaco (suc (suc (suc (suc zero)))) h = refl
below TacoTaco (suc (suc (suc (suc (suc zero))))) h = refl
below TacoTaco (suc (suc (suc (suc (suc (suc j)))))) h = absurd (omega arith)
below TacoTortilla zero h = refl
below TacoTortilla (suc zero) h = refl
below TacoTortilla (suc (suc j)) h = absurd (omega arith)
below TortillaTortilla zero h = refl
below TortillaTortilla (suc zero) h = refl
below TortillaTortilla (suc (suc j)) h = absurd (omega arith)
below Transitivity zero h = refl
below Transitivity (suc zero) h = refl
below Transitivity (suc (suc zero)) h = refl
below Transitivity (suc (suc (suc j))) h = absurd (omega arith)

above : (kind : Kind) (j : ℕ) → j < arity kind → slice_index_or masks (base kind + 2 * j + 1) 0 ≡ mask_of kind j Above
unfolding rows_of bits
above TacoTaco zero h = refl
above TacoTaco (suc zero) h = refl
above TacoTaco (suc (suc zero)) h = refl
above TacoTaco (suc (suc (suc zero))) h = refl
above TacoTaco (suc (suc (suc (suc zero)))) h = refl
above TacoTaco (suc (suc (suc (suc (suc zero))))) h = refl
above TacoTaco (suc (suc (suc (suc (suc (suc j)))))) h = absurd (omega arith)
above TacoTortilla zero h = refl
above TacoTortilla (suc zero) h = refl
above TacoTortilla (suc (suc j)) h = absurd (omega arith)
above TortillaTortilla zero h = refl
above TortillaTortilla (suc zero) h = refl
above TortillaTortilla (suc (suc j)) h = absurd (omega arith)
above Transitivity zero h = refl
above Transitivity (suc zero) h = refl
above Transitivity (suc (suc zero)) h = refl
above Transitivity (suc (suc (suc j))) h = absurd (omega arith)

either : (kind : Kind) (j : ℕ) (b : Order) → j < arity kind
    → slice_index_or masks (base kind + 2 * j + side_of b) 0 ≡ mask_of kind j b
either kind j Below h = below kind j h
either kind j Above h = above kind j h

pub returns : goal.returns
returns c = ap (λ b. slice_index_or masks (b + 2 * c.args.j + c.side.result) 0) c.requires.first
    ∙ ap (λ b. slice_index_or masks (base c.args.kind + 2 * c.args.j + b) 0) c.side.ensures.is
    ∙ either c.args.kind c.args.j c.args.value c.requires.j
