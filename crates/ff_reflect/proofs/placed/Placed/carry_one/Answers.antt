use Rattle.std.proofs.Common.{sym, subst, arith}
use Rattle.std.proofs.lemmas.List.{get_or_read}
use Rattle.ff_whole.specs.Points.{IsNear, origin}
use Rattle.ff_reflect.proofs.placed.Placed.carry_one.Goals as goal

pub image_of-requires-clause-u_near : goal.image_of-requires-clause-u_near
image_of-requires-clause-u_near c =
    let s = c.requires.sound in let h = c.requires.hinge in
    subst IsNear (sym (get_or_read c.args.self.now.points.items c.args.ends.a c.index.result.now (let a = s.as_many in let f = h.first in omega (arith, a, f)) c.index.ensures origin)) (s.near c.args.ends.a)

pub image_of-requires-clause-v_near : goal.image_of-requires-clause-v_near
image_of-requires-clause-v_near c =
    let s = c.requires.sound in let h = c.requires.hinge in
    subst IsNear (sym (get_or_read c.args.self.now.points.items c.args.ends.b c.index-2.result.now (let a = s.as_many in let f = h.second in omega (arith, a, f)) c.index-2.ensures origin)) (s.near c.args.ends.b)
