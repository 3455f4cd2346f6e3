use Rattle.std.proofs.Common.{arith, inr, refl, subst, sym}
use Rattle.ff_orders.specs.Given.{WhyNoNumbers}
use Rattle.ff_orders.proofs.GivenFaces.{not_bad}
use Rattle.ff_orders.proofs.rings.numbers_of.Goals as goal

pub returns-then-given-rings : goal.returns-then-given-rings
returns-then-given-rings c = subst (WhyNoNumbers c.args.rings.now c.args.given.now) (sym c.bad_faces.ensures)
    (inr ((λ m bad. not_bad c.args.rings.now c.args.given.now c.loop-i.i c.loop-i.numbers c.loop-i.invariant m (let w = bad.within in omega (arith, w, c.loop-i-test.false)) bad), refl, c.if-given-rings.true))
