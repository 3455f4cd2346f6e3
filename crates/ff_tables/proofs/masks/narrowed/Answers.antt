use Rattle.std.proofs.Common.{◌≡◌, ◌&&◌, Bool, true, List, map, bit_and, sym, ap, ◌∙◌, subst}
use Rattle.ff_tables.specs.declared.orders.Order.{Order}
use Rattle.ff_tables.specs.Orders.{turn, turned_option, row_at, fits, is_order}
use Rattle.ff_tables.specs.Rows.{rows_of}
use Rattle.ff_tables.specs.Masks.{mask_of, bits}
use Rattle.ff_tables.proofs.Bits.{bits-and, bits-same}
use Rattle.ff_tables.proofs.Agreeing.{and_one}
use Rattle.ff_tables.proofs.masks.narrowed.Goals as goal

pub returns-in-None : goal.returns-in-None
returns-in-None c g e = subst (λ o. c.args.rows ≡ bits (map {A = List Order} {B = Bool} (λ row. g row
    && fits (turned_option c.args.flipped o) (row_at row c.args.j)) (rows_of c.args.kind))) (sym c.in-None.is)
    (e ∙ bits-same g (λ row. g row && true) (rows_of c.args.kind) (λ row. and_one (g row)))

pub returns-in-Some : goal.returns-in-Some
returns-in-Some c g e = subst (λ o. bit_and c.args.rows c.mask.result ≡ bits
    (map {A = List Order} {B = Bool} (λ row. g row && fits (turned_option c.args.flipped o) (row_at row c.args.j))
    (rows_of c.args.kind))) (sym c.in-Some.is)
    (ap (λ n. bit_and n c.mask.result) e
    ∙ ap (bit_and (bits (map g (rows_of c.args.kind)))) (c.mask.ensures
    ∙ ap (mask_of c.args.kind c.args.j) c.turned.ensures)
    ∙ bits-and g (λ row. is_order (turn c.args.flipped c.in-Some.s) (row_at row c.args.j)) (rows_of c.args.kind))
