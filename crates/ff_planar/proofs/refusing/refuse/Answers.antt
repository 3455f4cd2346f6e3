use Rattle.std.proofs.Common.{arith, length, subst}
use Rattle.ff_types.specs.FaceRefusals.{RimAt, PinchAt, ReflexAt, EnclosedAt}
use Rattle.ff_drawn.specs.Firsts.{IsFirst}
use Rattle.ff_planar.specs.Joining.{FirstLost}
use Rattle.ff_planar.proofs.RingTests.{rings_there}
use Rattle.ff_planar.proofs.NoFaces.{drawn_from, rim_hopeless, some_ring, all_below}
use Rattle.ff_planar.proofs.FacesFrom.{each_ring, one_ring, rings_from}
use Rattle.ff_planar.proofs.FacesWalks.{no_pinch, no_reflex, no_enclosed}
use Rattle.ff_planar.proofs.FacesOnce.{no_apart}
use Rattle.ff_planar.proofs.LinkedFaces.{apart_from, apart_below, not_apart, chained_from}
use Rattle.ff_planar.proofs.refusing.refuse.Goals as goal

pub any_enclosed-requires-clause-there : goal.any_enclosed-requires-clause-there
any_enclosed-requires-clause-there c = let r = c.requires in rings_there c.args.points.now c.args.edges.now r.drawn.drawing c.args.rings.now r.traced.rings_are

pub returns-in-Some : goal.returns-in-Some
returns-in-Some c =
    let r = c.requires in
    let p = c.args.points.now in
    let e = c.args.edges.now in
    let m = c.args.marks.now in
    let drawn = drawn_from p e r.drawn.drawing in
    ((drawn, c.in-Some.ensures), rim_hopeless p e m c.args.darts.now c.args.rings.now c.args.sides.now c.args.seen.now r.drawn r.traced r.seen c.in-Some.e c.in-Some.ensures.0)

pub returns-in-Some-first_pinch : goal.returns-in-Some-first_pinch
returns-in-Some-first_pinch c =
    let r = c.requires in
    let p = c.args.points.now in
    let e = c.args.edges.now in
    let m = c.args.marks.now in
    let drawn = drawn_from p e r.drawn.drawing in
    let rim = subst (IsFirst (RimAt p e m)) c.in_default.is c.first_rim.ensures in
    ((drawn, rim, c.in-Some-first_pinch.ensures), λ others a. no_pinch p e r.drawn.drawing m others a c.in-Some-first_pinch.v c.in-Some-first_pinch.ensures.0)

pub returns-in-Some-2 : goal.returns-in-Some-2
returns-in-Some-2 c =
    let r = c.requires in
    let p = c.args.points.now in
    let e = c.args.edges.now in
    let m = c.args.marks.now in
    let drawn = drawn_from p e r.drawn.drawing in
    let rim = subst (IsFirst (RimAt p e m)) c.in_default.is c.first_rim.ensures in
    let pinch = subst (IsFirst (PinchAt p e)) c.in_default-first_pinch.is c.first_pinch.ensures in
    ((drawn, rim, pinch, subst (IsFirst (ReflexAt p e)) c.in-Some-2.is c.in_ok-v.ensures), λ others a. no_reflex p e r.drawn.drawing m others a c.in-Some-2.v (subst (IsFirst (ReflexAt p e)) c.in-Some-2.is c.in_ok-v.ensures).0)

pub returns-in-Some-first_enclosed : goal.returns-in-Some-first_enclosed
returns-in-Some-first_enclosed c =
    let r = c.requires in
    let p = c.args.points.now in
    let e = c.args.edges.now in
    let m = c.args.marks.now in
    let drawn = drawn_from p e r.drawn.drawing in
    let rim = subst (IsFirst (RimAt p e m)) c.in_default.is c.first_rim.ensures in
    let pinch = subst (IsFirst (PinchAt p e)) c.in_default-first_pinch.is c.first_pinch.ensures in
    let reflex = subst (IsFirst (ReflexAt p e)) c.in_default-2.is c.in_ok-v.ensures in
    ((drawn, rim, pinch, reflex, c.in-Some-first_enclosed.ensures), λ others a. no_enclosed p e r.drawn.drawing m others a c.in-Some-first_enclosed.v c.in-Some-first_enclosed.ensures.0)

pub first_lost-requires-clause-some : goal.first_lost-requires-clause-some
first_lost-requires-clause-some c =
    let r = c.requires in
    let p = c.args.points.now in
    let e = c.args.edges.now in
    let m = c.args.marks.now in
    let drawn = drawn_from p e r.drawn.drawing in
    let rim = subst (IsFirst (RimAt p e m)) c.in_default.is c.first_rim.ensures in
    some_ring p e m c.args.darts.now c.args.rings.now c.args.sides.now c.args.seen.now r.drawn r.traced r.seen r.some rim

pub first_lost-requires-clause-below : goal.first_lost-requires-clause-below
first_lost-requires-clause-below c =
    let r = c.requires in
    let p = c.args.points.now in
    let e = c.args.edges.now in
    let m = c.args.marks.now in
    let drawn = drawn_from p e r.drawn.drawing in
    all_below p e m c.args.darts.now c.args.rings.now c.args.sides.now c.args.seen.now r.drawn r.traced r.seen

pub returns-in-Some-3 : goal.returns-in-Some-3
returns-in-Some-3 c =
    let r = c.requires in
    let p = c.args.points.now in
    let e = c.args.edges.now in
    let m = c.args.marks.now in
    let drawn = drawn_from p e r.drawn.drawing in
    let rim = subst (IsFirst (RimAt p e m)) c.in_default.is c.first_rim.ensures in
    let pinch = subst (IsFirst (PinchAt p e)) c.in_default-first_pinch.is c.first_pinch.ensures in
    let reflex = subst (IsFirst (ReflexAt p e)) c.in_default-2.is c.in_ok-v.ensures in
    let enclosed = subst (IsFirst (EnclosedAt p e)) c.in_default-first_enclosed.is c.first_enclosed.ensures in
    let each = each_ring p e c.args.darts.now r.drawn c.args.rings.now c.args.sides.now r.traced pinch reflex enclosed in
    let one = one_ring p e c.args.darts.now r.drawn c.args.rings.now c.args.sides.now r.traced pinch reflex enclosed in
    let lost = subst (FirstLost c.args.seen.now (length c.args.rings.now)) c.in-Some-3.is c.in_ok-f.ensures in
    let apart = apart_from p e r.drawn.drawing c.args.rings.now r.traced.rings_are each one c.args.seen.now r.seen c.in-Some-3.f lost.0 lost.1 in (
      (drawn, rim, pinch, reflex, enclosed, (apart, λ k l h. not_apart p e r.drawn.drawing c.args.rings.now r.traced.rings_are each one c.args.seen.now r.seen k (lost.2 k l) h)),
      λ others a. no_apart p e r.drawn.drawing m others a c.in-Some-3.f apart,
    )

pub overflow_cast-result-in-Some-3 : goal.overflow_cast-result-in-Some-3
overflow_cast-result-in-Some-3 c =
    let r = c.requires in
    let lost = subst (FirstLost c.args.seen.now (length c.args.rings.now)) c.in-Some-3.is c.in_ok-f.ensures in
    let l = lost.0 in
    let few = r.traced.few in
    let most = r.few in
    omega (arith, l, few, most)

pub returns : goal.returns
returns c =
    let r = c.requires in
    let p = c.args.points.now in
    let e = c.args.edges.now in
    let m = c.args.marks.now in
    let drawn = drawn_from p e r.drawn.drawing in
    let rim = subst (IsFirst (RimAt p e m)) c.in_default.is c.first_rim.ensures in
    let pinch = subst (IsFirst (PinchAt p e)) c.in_default-first_pinch.is c.first_pinch.ensures in
    let reflex = subst (IsFirst (ReflexAt p e)) c.in_default-2.is c.in_ok-v.ensures in
    let enclosed = subst (IsFirst (EnclosedAt p e)) c.in_default-first_enclosed.is c.first_enclosed.ensures in
    let each = each_ring p e c.args.darts.now r.drawn c.args.rings.now c.args.sides.now r.traced pinch reflex enclosed in
    let one = one_ring p e c.args.darts.now r.drawn c.args.rings.now c.args.sides.now r.traced pinch reflex enclosed in
    let lost = subst (FirstLost c.args.seen.now (length c.args.rings.now)) c.in_default-3.is c.in_ok-f.ensures in
    record {
      clear = record { drawn = drawn; none_rim = rim; none_pinch = pinch; none_reflex = reflex; none_enclosed = enclosed; none_apart = λ f h. not_apart p e r.drawn.drawing c.args.rings.now r.traced.rings_are each one c.args.seen.now r.seen f (lost f (apart_below p e r.drawn.drawing c.args.rings.now r.traced.rings_are each one c.args.seen.now r.seen f h)) h };
      rings_are = rings_from p e c.args.darts.now r.drawn c.args.rings.now c.args.sides.now r.traced pinch reflex enclosed c.args.seen.now r.seen m rim (λ f l. chained_from p e r.drawn.drawing c.args.rings.now r.traced.rings_are each one c.args.seen.now r.seen 0 f (lost f l));
    }
