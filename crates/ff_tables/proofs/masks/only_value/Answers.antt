use Rattle.std.proofs.Common.{◌≡◌, ℕ, ◌<◌, ◌&&◌, Bool, true, false, List, map, bit_and, refl, sym, ap, ◌∙◌, subst, arith}
use Rattle.ff_tables.specs.declared.orders.Order.{Order}
use Rattle.ff_tables.specs.declared.orders.Order.TheVariants.{Below, Above}
use Rattle.ff_tables.specs.declared.terms.Kind.{Kind}
use Rattle.ff_tables.specs.Orders.{row_at, is_order}
use Rattle.ff_tables.specs.Rows.{rows_of}
use Rattle.ff_tables.specs.Masks.{mask_of, bits, SomeHas}
use Rattle.ff_tables.proofs.Bits.{bits-and, bits-zero, bits-some}
use Rattle.ff_tables.proofs.Agreeing.{same_order}
use Rattle.ff_tables.proofs.masks.only_value.Goals as goal

both : (kind : Kind) (g : List Order → Bool) (j rows m : ℕ) (s : Order) → rows ≡ bits (map g (rows_of kind))
    → m ≡ mask_of kind j s
    → bit_and rows m ≡ bits (map (λ row. g row && is_order s (row_at row j)) (rows_of kind))
both kind g j rows m s e h = ap (λ n. bit_and n m) e ∙ ap (bit_and (bits (map g (rows_of kind)))) h
    ∙ bits-and g (λ row. is_order s (row_at row j)) (rows_of kind)

other : (a : Bool) (s : Order) → a ≡ true → (a && is_order Above s) ≡ false → s ≡ Below
other true Below p q = refl
other true Above p q = cc
other false s p q = cc

other' : (a : Bool) (s : Order) → a ≡ true → (a && is_order Below s) ≡ false → s ≡ Above
other' true Above p q = refl
other' true Below p q = cc
other' false s p q = cc

parts : (a : Bool) (s t : Order) → (a && is_order s t) ≡ true → (a ≡ true) × (t ≡ s)
parts true s t h = (refl, same_order s t h)
parts false s t h = cc

has : (kind : Kind) (g : List Order → Bool) (j rows m : ℕ) (s : Order) → rows ≡ bits (map g (rows_of kind))
    → m ≡ mask_of kind j s
    → 0 < bit_and rows m → SomeHas kind g j s
has kind g j rows m s e h l =
    let r = bits-some (λ row. g row && is_order s (row_at row j)) (rows_of kind)
    (subst (λ n. 0 < n) (both kind g j rows m s e h) l) in
    let p = parts (g r.1) s (row_at r.1 j) r.3 in
    (r.0, r.1, r.2, p.0, p.1)

pub returns-then-rows-mask-eq0 : goal.returns-then-rows-mask-eq0
returns-then-rows-mask-eq0 c g e k row at h =
    other (g row) (row_at row c.args.j) h (bits-zero (λ r. g r
    && is_order Above (row_at r c.args.j)) (rows_of c.args.kind)
    (sym (both c.args.kind g c.args.j c.args.rows c.mask.result Above e c.mask.ensures)
    ∙ c.if-rows-mask-eq0.true) k row at)

pub returns-then-rows-mask-eq0-2 : goal.returns-then-rows-mask-eq0-2
returns-then-rows-mask-eq0-2 c g e k row at h =
    other' (g row) (row_at row c.args.j) h (bits-zero (λ r. g r
    && is_order Below (row_at r c.args.j)) (rows_of c.args.kind)
    (sym (both c.args.kind g c.args.j c.args.rows c.mask-2.result Below e c.mask-2.ensures)
    ∙ c.if-rows-mask-eq0-2.true) k row at)

pub returns : goal.returns
returns c g e = (
  has c.args.kind g c.args.j c.args.rows c.mask-2.result Below e c.mask-2.ensures (omega arith),
  has c.args.kind g c.args.j c.args.rows c.mask.result Above e c.mask.ensures (omega arith),
)
