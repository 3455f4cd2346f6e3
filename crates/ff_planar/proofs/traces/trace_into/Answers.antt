use Rattle.std.proofs.Common.{length, ◌≡◌, ◌↔◌, IsTrue, pos, ◌<ℤ◌, ◌<◌, ◌≤◌, ◌^◌, arith, sym, ap, ◌∙◌, subst}
use Rattle.std.specs.List.{All}
use Rattle.std.proofs.lemmas.Bool.{false≢true}
use Rattle.ff_types.specs.Areas.{area}
use Rattle.ff_planar.specs.Orbits.{tails}
use Rattle.ff_planar.specs.Traces.{side_at, AddsWalk}
use Rattle.ff_planar.proofs.NextTables.{one_to_one}
use Rattle.ff_planar.proofs.TracedWalks.{unmet_from, trace_none, trace_skip, all_traced}
use Rattle.ff_planar.proofs.TraceSteps.{all_near, darts_below, vertices_below, orbit_short, add_one}
use Rattle.ff_planar.proofs.traces.trace_into.Goals as goal

pub loop-d-init : goal.loop-d-init
loop-d-init c =
    rw c.new-rings.ensures.items (trace_none c.args.points.now c.args.edges.now c.args.darts.now c.args.nexts.now c.args.sides.now c.requires.as_many c.requires.unmet)

pub loop-d-preserved-then-is_met : goal.loop-d-preserved-then-is_met
loop-d-preserved-then-is_met c = trace_skip _ _ _ _ _ _ _ c.loop-d.invariant (c.is_met.ensures.0 c.if-is_met.true)

pub orbit_of-requires-clause-table : goal.orbit_of-requires-clause-table
orbit_of-requires-clause-table c = let r = c.requires in one_to_one c.args.points.now c.args.edges.now c.args.darts.now c.args.nexts.now r.drawn r.table

pub tails_of-requires : goal.tails_of-requires
tails_of-requires c = let r = c.requires in
    subst (All (λ d. d < length c.args.darts.now)) (sym c.deref.ensures.value) (darts_below c.args.points.now c.args.edges.now c.args.darts.now c.args.nexts.now r.drawn r.table c.loop-d.d c.in_ok-orbit.orbit.items c.in_ok-orbit.ensures)

pub goes_round-is_ring-requires-clause-near : goal.goes_round-is_ring-requires-clause-near
goes_round-is_ring-requires-clause-near c = all_near c.args.points.now c.args.edges.now c.requires.graph

pub goes_round-is_ring-requires-clause-vertices : goal.goes_round-is_ring-requires-clause-vertices
goes_round-is_ring-requires-clause-vertices c = let r = c.requires in
    subst (All (λ v. v < length c.args.points.now)) (sym (c.deref-in-loop-d.ensures.value ∙ c.in_ok-ring.ensures ∙ ap (tails c.args.darts.now) c.deref.ensures.value))
    (vertices_below c.args.points.now c.args.edges.now c.args.darts.now c.args.nexts.now r.drawn r.table c.loop-d.d c.in_ok-orbit.orbit.items c.in_ok-orbit.ensures)

pub goes_round-is_ring-requires-clause-few : goal.goes_round-is_ring-requires-clause-few
goes_round-is_ring-requires-clause-few c =
    let r = c.requires in
    let few = r.few in
    let l = orbit_short c.args.points.now c.args.edges.now c.args.darts.now c.args.nexts.now r.drawn r.table c.loop-d.d c.in_ok-orbit.orbit.items c.in_ok-orbit.ensures in
    subst (λ l. length l ≤ 2 ^ 15) (sym (c.deref-in-loop-d.ensures.value ∙ c.in_ok-ring.ensures ∙ ap (tails c.args.darts.now) c.deref.ensures.value)) (omega (arith, l, few))

pub add_walk-requires-clause-darts : goal.add_walk-requires-clause-darts
add_walk-requires-clause-darts c =
    let r = c.requires in
    let n = c.loop-d.invariant.as_many in
    subst (All (λ d. d < length c.loop-d.sides)) (sym c.deref-in-loop-d-2.ensures.value)
    (subst (λ n. All (λ d. d < n) c.in_ok-orbit.orbit.items) (sym n) (darts_below c.args.points.now c.args.edges.now c.args.darts.now c.args.nexts.now r.drawn r.table c.loop-d.d c.in_ok-orbit.orbit.items c.in_ok-orbit.ensures))

pub loop-d-preserved : goal.loop-d-preserved
loop-d-preserved c =
    let r = c.requires in
    let points = c.args.points.now in
    let darts = c.args.darts.now in
    let orbit = c.in_ok-orbit.orbit.items in
    let ring : c.in_ok-ring.ring.items ≡ tails darts orbit = c.in_ok-ring.ensures ∙ ap (tails darts) c.deref.ensures.value in
    let tells = subst (λ l. IsTrue c.goes_round-is_ring.result ↔ (pos 0 <ℤ area points l)) (c.deref-in-loop-d.ensures.value ∙ ring) c.goes_round-is_ring.ensures in
    let added = subst (λ l. AddsWalk c.goes_round-is_ring.result c.loop-d.rings.items c.loop-d.sides l (tails darts orbit) c.add_walk.new.rings.items c.add_walk.new.sides) c.deref-in-loop-d-2.ensures.value
    (subst (λ l. AddsWalk c.goes_round-is_ring.result c.loop-d.rings.items c.loop-d.sides c.deref-in-loop-d-2.result.now l c.add_walk.new.rings.items c.add_walk.new.sides) ring c.in_ok-add_walk.ensures) in
    let unmet = unmet_from (side_at c.loop-d.sides c.loop-d.d) (λ n. false≢true (sym c.if-is_met.false ∙ c.is_met.ensures.1 n)) in
    add_one points c.args.edges.now darts c.args.nexts.now r.drawn r.table c.loop-d.d orbit c.in_ok-orbit.ensures c.loop-d.rings.items c.loop-d.sides c.goes_round-is_ring.result _ _ c.loop-d.invariant unmet tells added

pub returns : goal.returns
returns c = all_traced _ _ _ _ c.requires.drawn _ _ _ c.loop-d.invariant c.loop-d-test.false c.loop-d.auto.d-end
