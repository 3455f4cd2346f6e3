use Rattle.std.proofs.Common.{◌≡◌, Bool, true, List, map, sym, subst, refl}
use Rattle.ff_tables.specs.declared.orders.Order.{Order}
use Rattle.ff_tables.specs.Rows.{rows_of}
use Rattle.ff_tables.specs.Masks.{bits}
use Rattle.ff_tables.proofs.masks.all_rows.Goals as goal

pub returns-in-TacoTaco : goal.returns-in-TacoTaco
unfolding rows_of bits
returns-in-TacoTaco c = subst (λ k. 65535 ≡ bits (map {A = List Order} {B = Bool} (λ row. true) (rows_of k)))
    (sym c.in-TacoTaco.is) refl

pub returns-in-Transitivity : goal.returns-in-Transitivity
unfolding rows_of bits
returns-in-Transitivity c = subst (λ k. 63 ≡ bits (map {A = List Order} {B = Bool} (λ row. true) (rows_of k)))
    (sym c.in-Transitivity.is) refl

pub returns-in-TacoTortilla : goal.returns-in-TacoTortilla
unfolding rows_of bits
returns-in-TacoTortilla c = subst (λ k. 3 ≡ bits (map {A = List Order} {B = Bool} (λ row. true) (rows_of k)))
    (sym c.in-TacoTortilla.is) refl

pub returns-in-TortillaTortilla : goal.returns-in-TortillaTortilla
unfolding rows_of bits
returns-in-TortillaTortilla c = subst (λ k. 3 ≡ bits (map {A = List Order} {B = Bool} (λ row. true) (rows_of k)))
    (sym c.in-TortillaTortilla.is) refl
