-- Orders: which are the same, and which differ.
use Rattle.std.proofs.Common.{◌≡◌, Bool, true, Option, Some, refl, sym, ap, ◌∙◌}
use Rattle.ff_tables.specs.declared.orders.Order.{Order}
use Rattle.ff_tables.specs.declared.orders.Order.TheVariants.{Below, Above}
use Rattle.ff_tables.specs.Orders.{turn, is_order}
use Rattle.ff_tables.proofs.Agreeing.{turn_turn}

pub turn_one : (b : Bool) (s t : Order) → turn b s ≡ turn b t → s ≡ t
turn_one b s t e = sym (turn_turn b s) ∙ ap (turn b) e ∙ turn_turn b t

pub order_is : (a b : Order) → is_order a b ≡ true → a ≡ b
order_is Below Below h = refl
order_is Below Above h = cc
order_is Above Below h = cc
order_is Above Above h = refl

pub is_order_of : (a b : Order) → a ≡ b → is_order a b ≡ true
is_order_of Below Below h = refl
is_order_of Below Above h = cc
is_order_of Above Below h = cc
is_order_of Above Above h = refl

pub differ : {A : Type 0} {o : Option Order} → o ≡ Some Below → o ≡ Some Above → A
differ p q = cc
