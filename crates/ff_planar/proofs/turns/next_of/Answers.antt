use Rattle.std.proofs.Common.{arith, sym, ◌∙◌, length}
use Rattle.std.proofs.lemmas.Bool.{false≢true}
use Rattle.ff_drawn.specs.Darts.{dart_at}
use Rattle.ff_planar.proofs.NextDarts.{leaving_at, ends_there, first_is_last, keep_more, take_more, next_from, two_leave}
use Rattle.ff_planar.proofs.turns.next_of.Goals as goal
use Rattle.ff_planar.proofs.turns.next_of.Goals.{then-is_in_turn, else-is_in_turn}

pub bounds-starts-v : goal.bounds-starts-v
bounds-starts-v c = let r = c.requires in let n = r.starts.as_many in let l = (ends_there c.args.points.now c.args.edges.now c.args.darts.now r.drawn c.args.d r.within).1 in omega (arith, n, l)

pub bounds-starts-v-2 : goal.bounds-starts-v-2
bounds-starts-v-2 c = let r = c.requires in let n = r.starts.as_many in let l = (ends_there c.args.points.now c.args.edges.now c.args.darts.now r.drawn c.args.d r.within).1 in omega (arith, n, l)

pub first_other-first-requires : goal.first_other-first-requires
first_other-first-requires c =
    let r = c.requires in
    let there = (ends_there c.args.points.now c.args.edges.now c.args.darts.now r.drawn c.args.d r.within).1 in
    let range = leaving_at c.args.darts.now (length c.args.points.now) c.args.starts.now (dart_at c.args.darts.now c.args.d).head r.starts there in
    let l = two_leave c.args.points.now c.args.edges.now c.args.darts.now r.graph r.drawn _ _ (r.drawn.darts_are.along c.args.d r.within) _ _ range in
    let m = range.last.within in
    omega (arith, l, m)

pub bounds-points-v : goal.bounds-points-v
bounds-points-v c = let r = c.requires in (ends_there c.args.points.now c.args.edges.now c.args.darts.now r.drawn c.args.d r.within).1

pub bounds-points-u : goal.bounds-points-u
bounds-points-u c = let r = c.requires in (ends_there c.args.points.now c.args.edges.now c.args.darts.now r.drawn c.args.d r.within).0

pub loop-c-init : goal.loop-c-init
loop-c-init c =
    let r = c.requires in
    let there = (ends_there c.args.points.now c.args.edges.now c.args.darts.now r.drawn c.args.d r.within).1 in
    let range = leaving_at c.args.darts.now (length c.args.points.now) c.args.starts.now (dart_at c.args.darts.now c.args.d).head r.starts there in
    first_is_last c.args.points.now c.args.edges.now c.args.darts.now r.graph r.drawn _ _ (r.drawn.darts_are.along c.args.d r.within) _ _ range c.first_other-first.result c.first_other-first.ensures

pub bounds-points-darts : goal.bounds-points-darts
bounds-points-darts c =
    let r = c.requires in
    let there = (ends_there c.args.points.now c.args.edges.now c.args.darts.now r.drawn c.args.d r.within).1 in
    let range = leaving_at c.args.darts.now (length c.args.points.now) c.args.starts.now (dart_at c.args.darts.now c.args.d).head r.starts there in
    let m = range.last.within in
    let l = c.loop-c.invariant.within in
    (ends_there c.args.points.now c.args.edges.now c.args.darts.now r.drawn c.loop-c.last (omega (arith, l, m))).1

pub bounds-points-z : goal.bounds-points-z
bounds-points-z c =
    let r = c.requires in
    let there = (ends_there c.args.points.now c.args.edges.now c.args.darts.now r.drawn c.args.d r.within).1 in
    let range = leaving_at c.args.darts.now (length c.args.points.now) c.args.starts.now (dart_at c.args.darts.now c.args.d).head r.starts there in
    let m = range.last.within in
    (ends_there c.args.points.now c.args.edges.now c.args.darts.now r.drawn c.loop-c.c (omega (arith, m, c.loop-c-test.true))).1

pub loop-c-preserved : goal.loop-c-preserved
loop-c-preserved c =
    let r = c.requires in
    let points = c.args.points.now in
    let darts = c.args.darts.now in
    let along = r.drawn.darts_are.along c.args.d r.within in
    let there = (ends_there c.args.points.now c.args.edges.now c.args.darts.now r.drawn c.args.d r.within).1 in
    let range = leaving_at c.args.darts.now (length c.args.points.now) c.args.starts.now (dart_at c.args.darts.now c.args.d).head r.starts there in
    let other = c.if-z-u.false in
    elim c.if-is_in_turn.branch [
      | then-is_in_turn w ↦ rw w.last-is (take_more points c.args.edges.now darts r.graph r.drawn _ _ along _ _ range c.loop-c.c c.loop-c.last c.loop-c.invariant c.loop-c-test.true other (c.is_in_turn.ensures.0 w.if-is_in_turn.true))
      | else-is_in_turn w ↦ rw w.last-is (keep_more points c.args.edges.now darts r.graph r.drawn _ _ along _ _ range c.loop-c.c c.loop-c.last c.loop-c.invariant c.loop-c-test.true other (λ t. false≢true (sym w.if-is_in_turn.false ∙ c.is_in_turn.ensures.1 t)))
    ]

pub returns : goal.returns
returns c =
    let r = c.requires in
    let there = (ends_there c.args.points.now c.args.edges.now c.args.darts.now r.drawn c.args.d r.within).1 in
    let range = leaving_at c.args.darts.now (length c.args.points.now) c.args.starts.now (dart_at c.args.darts.now c.args.d).head r.starts there in
    next_from c.args.points.now c.args.edges.now c.args.darts.now r.graph r.drawn c.args.d r.within _ _ range c.loop-c.c c.loop-c.last c.loop-c.invariant c.loop-c-test.false
