use Rattle.std.proofs.Common.{◌≡◌, ◌++◌, ℕ, List, length, take, drop, sym, subst, arith}
use Rattle.std.proofs.lemmas.Grind.{common_steps}
use Rattle.std.specs.List.Sorted.{IsPermutation}
use Rattle.ff_carry.specs.declared.placing.Placed.{Placed}
use Rattle.ff_carry.specs.Placing.{IsOrder}
use Rattle.ff_carry.proofs.Orders.{in_order}
use Rattle.ff_carry.proofs.placing.order_of.Goals as goal

pub returns : goal.returns
returns c = let w = c.sort.new.list in
    let same : take c.in_ok-order.order.len (w ++ drop (length w) c.in_ok-order.order.items) ≡ w = grind (arith, common_steps) in
    subst (IsOrder c.args.old.now) (sym same)
    (in_order c.args.old.now c.args.vars c.in_ok-order.order.items w c.requires c.in_ok-order.ensures
    (subst (λ (xs : List Placed). IsPermutation xs w) c.as_mut_slice.ensures.value c.sort.ensures.same) c.sort.ensures.sorted)
