use Rattle.std.proofs.Common.{◌∙◌, subst, refl, arith, ℤ, inl, inr, to_z, of_z}
use lib.IntN.{*ℤ_comm}
use Rattle.ff_whole.specs.Points.{IsNear}
use Rattle.ff_whole.proofs.Bounds.{read, trip, multiple, fits_exactly, below_exactly}
use mir.Syntax.{w128}
use Rattle.ff_reflect.specs.Puts.{IsTooLarge, IsGrown, IsNearPoint}
use Rattle.ff_reflect.proofs.Puts.{low_of, added}
use Rattle.ff_reflect.proofs.placed.Placed.add.Goals as goal

pub returns-in_default : goal.returns-in_default
returns-in_default c =
    let l = low_of c.args.image c.lowest-place.result c.requires.image c.lowest-place.ensures in
    let x = read w128 l.x_below tt in
    let y = read w128 l.y_below tt in
    record {
      place = c.lowest-place.result;
      lowest = l.lowest;
      far = inl (subst (λ (z : ℤ). IsNear (record { x = c.lowest-place.result.x; y = z }) → ⊥) y.is
          (subst (λ (z : ℤ). IsNear (record { x = z; y = to_z w128 (of_z w128 c.lowest-place.result.y) }) → ⊥) x.is c.in_default.ensures));
    }

pub grow_by-requires-clause-size : goal.grow_by-requires-clause-size
grow_by-requires-clause-size c =
    let l = low_of c.args.image c.lowest-place.result c.requires.image c.lowest-place.ensures in
    below_exactly (read w128 l.w_below tt)

pub returns-then-not-grow_by : goal.returns-then-not-grow_by
returns-then-not-grow_by c =
    let l = low_of c.args.image c.lowest-place.result c.requires.image c.lowest-place.ensures in
    let w = read w128 l.w_below tt in
    record { place = c.lowest-place.result; lowest = l.lowest; far = inr (subst (λ (z : ℤ). IsTooLarge z c.args.self.now.points.items) w.is c.if-not-grow_by.ensures) }

pub overflow_mul-self : goal.overflow_mul-self
overflow_mul-self c =
    let l = low_of c.args.image c.lowest-place.result c.requires.image c.lowest-place.ensures in
    fits_exactly w128 (multiple (read w128 c.requires.small tt) (read w128 l.w_below tt)) tt

pub returns : goal.returns
returns c =
    let l = low_of c.args.image c.lowest-place.result c.requires.image c.lowest-place.ensures in
    let x = read w128 l.x_below tt in
    let y = read w128 l.y_below tt in
    let w = read w128 l.w_below tt in
    let s = trip w128 (multiple (read w128 c.requires.small tt) w) tt in
    let g : IsGrown c.lowest-place.result.w c.args.self.now.points.items c.grow_by.new.points.items = subst (λ (z : ℤ). IsGrown z c.args.self.now.points.items c.grow_by.new.points.items) w.is c.if-not-grow_by.ensures in
    let near : IsNearPoint c.lowest-place.result.x c.lowest-place.result.y c.in-Some.p = subst (λ (z : ℤ). IsNearPoint c.lowest-place.result.x z c.in-Some.p) y.is
    (subst (λ (z : ℤ). IsNearPoint z (to_z w128 (of_z w128 c.lowest-place.result.y)) c.in-Some.p) x.is c.in-Some.ensures) in
    added c.args.v c.args.image c.lowest-place.result c.args.self.now _ c.grow_by.new.points.items c.in-Some.p l.lowest g (let m = g.as_many in let v = c.requires.point in omega (arith, m, v)) near
    (s.is ∙ *ℤ_comm c.args.self.now.scale c.lowest-place.result.w) refl refl
