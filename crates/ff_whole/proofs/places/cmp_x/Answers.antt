use Rattle.std.proofs.Common.{◌∙◌, ap, ◌*ℤ◌, to_z, of_z}
use Rattle.std.specs.Ordering.{int_cmp}
use Rattle.ff_whole.proofs.Bounds.{read, trip, multiple}
use mir.Syntax.{w128}
use Rattle.ff_whole.proofs.places.cmp_x.Goals as goal

pub returns : goal.returns
returns c =
    let p = c.requires.p_size in
    let q = c.requires.q_size in
    let a = trip w128 (multiple (read w128 p.x_below tt) (read w128 q.w_below tt)) tt in
    let b = trip w128 (multiple (read w128 q.x_below tt) (read w128 p.w_below tt)) tt in
    c.cmp.ensures ∙ ap (λ z. int_cmp z (to_z w128 (of_z w128 (to_z w128 (of_z w128 c.args.q.x) *ℤ to_z w128 (of_z w128 c.args.p.w))))) a.is ∙ ap (int_cmp (c.args.p.x *ℤ c.args.q.w)) b.is
