use Rattle.std.proofs.Common.{◌∙◌, ap, sym, subst, ◌+ℤ◌, ◌-ℤ◌, ◌*ℤ◌}
use Rattle.ff_whole.proofs.Bounds.{read, trip, sum, difference, multiple, minus, fits_exactly, below_exactly}
use mir.Syntax.{w64, w128}
use Rattle.ff_whole.specs.Sizes.{IsBelow}
use Rattle.ff_whole.specs.Points.{turn}
use Rattle.ff_types.specs.Foldings.{signed, spread}
use Rattle.ff_reflect.specs.declared.sizes.TheConstants.{LENGTH_SIZE}
use Rattle.ff_reflect.proofs.Products.{called, minus_opposite}
use Rattle.ff_reflect.proofs.image.image_of.Goals as goal

pub overflow_sub-dx : goal.overflow_sub-dx
overflow_sub-dx c = let u = c.requires.u_near in let v = c.requires.v_near in fits_exactly w64 (difference (read w64 v.x_below tt) (read w64 u.x_below tt)) tt

pub overflow_sub-dy : goal.overflow_sub-dy
overflow_sub-dy c = let u = c.requires.u_near in let v = c.requires.v_near in fits_exactly w64 (difference (read w64 v.y_below tt) (read w64 u.y_below tt)) tt

pub overflow_sub-c : goal.overflow_sub-c
overflow_sub-c c = let s = c.signed_of-c.ensures in fits_exactly w64 (minus (read w64 s.size tt)) tt

pub moved-requires-2-clause-d_size : goal.moved-requires-2-clause-d_size
moved-requires-2-clause-d_size c = let u = c.requires.u_near in let v = c.requires.v_near in below_exactly (trip w64 (difference (read w64 v.y_below tt) (read w64 u.y_below tt)) tt)

pub moved-requires-2-clause-c_size : goal.moved-requires-2-clause-c_size
moved-requires-2-clause-c_size c = let s = c.signed_of-c.ensures in below_exactly (trip w64 (minus (read w64 s.size tt)) tt)

pub moved-requires-2-clause-e_size : goal.moved-requires-2-clause-e_size
moved-requires-2-clause-e_size c = let u = c.requires.u_near in let v = c.requires.v_near in below_exactly (trip w64 (difference (read w64 v.x_below tt) (read w64 u.x_below tt)) tt)

pub returns : goal.returns
returns c =
    let h = c.args.hinge in
    let u = c.requires.u_near in
    let v = c.requires.v_near in
    let r = c.args.r in
    let cn = c.spread_of-n.ensures in
    let ca = c.spread_of-a.ensures in
    let ct = c.turn_of.ensures in
    let cs = c.signed_of-c.ensures in
    let mx = c.moved.ensures in
    let my = c.moved-2.ensures in
    let n = trip w64 (called (spread h.p h.q h.q) cn.value cn.size) tt in
    let a = trip w64 (called (spread h.p h.q r) ca.value ca.size) tt in
    let t = trip w64 (called (turn h.p h.q r) ct.value ct.size) tt in
    let s = called (signed h.up (turn h.p h.q r)) (cs.value ∙ ap (signed h.up) t.is) cs.size in
    let s' = trip w64 s tt in
    let dx = trip w64 (difference (read w64 v.x_below tt) (read w64 u.x_below tt)) tt in
    let dy = trip w64 (difference (read w64 v.y_below tt) (read w64 u.y_below tt)) tt in
    let x = sum (multiple n (read w64 u.x_below tt)) (difference (multiple a dx) (multiple s' dy)) in
    let y = sum (multiple n (read w64 u.y_below tt)) (difference (multiple a dy) (multiple (trip w64 (minus s') tt) dx)) in
    let rx = read w128 mx.size tt in
    let ry = read w128 my.size tt in
    record {
      x_is = rx.is ∙ mx.value ∙ x.is;
      y_is = ry.is ∙ my.value ∙ y.is ∙ ap (λ z. (spread h.p h.q h.q *ℤ h.u.y) +ℤ z) (minus_opposite (spread h.p h.q r *ℤ (h.v.y -ℤ h.u.y)) (signed h.up (turn h.p h.q r)) (h.v.x -ℤ h.u.x));
      n_is = n.is;
      x_below = below_exactly rx;
      y_below = below_exactly ry;
      n_below = subst (IsBelow LENGTH_SIZE) (sym n.is) n.size;
    }
