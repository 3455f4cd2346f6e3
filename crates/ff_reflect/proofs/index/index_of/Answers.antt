use Rattle.std.proofs.Common.{subst, arith}
use Rattle.ff_reflect.specs.Index.{Indexes}
use Rattle.ff_reflect.proofs.Indexed.{indexes_none, is_none}
use Rattle.ff_reflect.proofs.index.index_of.Goals as goal

pub loop-e-init : goal.loop-e-init
loop-e-init c =
    let l = c.in_ok-last.ensures in
    let b = c.in_ok-before.ensures in
    indexes_none c.args.edges.now _ (l.items_if_clones_equal (is_none _ (λ x e. e))) (b.items_if_clones_equal (is_none _ (λ x e. e)))

pub returns : goal.returns
returns c = subst (λ n. Indexes c.args.edges.now n c.loop-e.index) (omega arith) c.loop-e.invariant
