use Rattle.std.proofs.Common.{subst, ℤ, ◌*ℤ◌, MatchOption, to_z, of_z}
use Rattle.ff_whole.specs.Points.{IsNear}
use Rattle.ff_whole.proofs.Bounds.{read, trip, multiple}
use mir.Syntax.{w64, w128}
use Rattle.ff_reflect.specs.Puts.{IsNearPoint}
use Rattle.ff_reflect.proofs.placed.grown.Goals as goal

pub returns : goal.returns
returns c =
    let p = c.requires.near in
    let f = read w128 c.requires.size tt in
    let x = trip w128 (multiple f (trip w128 (read w64 p.x_below tt) tt)) tt in
    let y = trip w128 (multiple f (trip w128 (read w64 p.y_below tt) tt)) tt in
    subst (λ (z : ℤ). MatchOption c.near_point.result (IsNear (record { x = c.args.factor *ℤ c.args.p.x; y = z }) → ⊥) (IsNearPoint (c.args.factor *ℤ c.args.p.x) z)) y.is
    (subst (λ (z : ℤ). MatchOption c.near_point.result (IsNear (record { x = z; y = to_z w128 (of_z w128 (to_z w128 (of_z w128 c.args.factor) *ℤ to_z w128 (of_z w128 (to_z w64 (of_z w64 c.args.p.y))))) }) → ⊥)
    (IsNearPoint z (to_z w128 (of_z w128 (to_z w128 (of_z w128 c.args.factor) *ℤ to_z w128 (of_z w128 (to_z w64 (of_z w64 c.args.p.y)))))))) x.is c.near_point.ensures)
