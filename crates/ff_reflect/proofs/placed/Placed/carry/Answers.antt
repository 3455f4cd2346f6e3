use Rattle.std.proofs.Common.{◌<◌, ◌≤◌, ℕ, rules, sym, subst, length, slice_index_or, List}
use Rattle.ff_types.specs.declared.patterns.EdgeEnds.{EdgeEnds}
use Rattle.ff_types.specs.Patterns.{edge_at}
use Rattle.ff_reflect.specs.Sheets.{paper_of}
use Rattle.ff_reflect.specs.Walked.{met_of, meeting_of}
use Rattle.ff_reflect.specs.Puts.{IsHinge}
use Rattle.ff_reflect.proofs.Turned.{met_get}
use Rattle.ff_reflect.proofs.Carry.{known_at, hinge_there, done_all}
use Rattle.ff_reflect.proofs.CarrySteps.{carry_more, carry_refused, has_read, vertex_read}
use Rattle.ff_types.specs.FoldRefusals.{RefusesFolding}
use Rattle.ff_reflect.proofs.placed.Placed.carry.Goals as goal

pub bounds-as_slice-m : goal.bounds-as_slice-m
bounds-as_slice-m c =
    let k = known_at (paper_of c.args.pattern.now c.args.faces.now) (met_of c.args.tree.now) c.args.up.now c.args.k _ c.requires.ready (met_get c.args.tree.now c.args.k (record { face = 0; edge = 0; across = 0 }) c.requires.within) in
    subst (λ (es : List EdgeEnds). (slice_index_or c.args.tree.now c.args.k (record { face = 0; edge = 0; across = 0 })).edge < length es) (sym c.as_slice.ensures) k.edge

pub bounds-as_slice-m-2 : goal.bounds-as_slice-m-2
bounds-as_slice-m-2 c =
    let k = known_at (paper_of c.args.pattern.now c.args.faces.now) (met_of c.args.tree.now) c.args.up.now c.args.k _ c.requires.ready (met_get c.args.tree.now c.args.k (record { face = 0; edge = 0; across = 0 }) c.requires.within) in
    let b = k.faces in
    subst (λ (rs : List (List ℕ)). (slice_index_or c.args.tree.now c.args.k (record { face = 0; edge = 0; across = 0 })).across < length rs) (sym c.as_slice-2.ensures) b.second

pub bounds-up-m : goal.bounds-up-m
bounds-up-m c =
    let k = known_at (paper_of c.args.pattern.now c.args.faces.now) (met_of c.args.tree.now) c.args.up.now c.args.k _ c.requires.ready (met_get c.args.tree.now c.args.k (record { face = 0; edge = 0; across = 0 }) c.requires.within) in
    let b = k.faces in
    let r = c.requires.ready in
    subst (λ n. (slice_index_or c.args.tree.now c.args.k (record { face = 0; edge = 0; across = 0 })).across < n) (sym r.as_many) b.second

pub carry_one-requires-clause-hinge : goal.carry_one-requires-clause-hinge
carry_one-requires-clause-hinge c =
    let k = known_at (paper_of c.args.pattern.now c.args.faces.now) (met_of c.args.tree.now) c.args.up.now c.args.k _ c.requires.ready (met_get c.args.tree.now c.args.k (record { face = 0; edge = 0; across = 0 }) c.requires.within) in
    let r = c.requires.ready in
    subst (λ (es : List EdgeEnds). IsHinge c.args.pattern.now.points (edge_at es (slice_index_or c.args.tree.now c.args.k (record { face = 0; edge = 0; across = 0 })).edge)) (sym c.as_slice.ensures)
    (hinge_there (paper_of c.args.pattern.now c.args.faces.now) _ r.has_faces k)

pub carry_one-requires-clause-vertex : goal.carry_one-requires-clause-vertex
carry_one-requires-clause-vertex c =
    let r = c.requires.ready in
    vertex_read (paper_of c.args.pattern.now c.args.faces.now) c.args.up.now (meeting_of (slice_index_or c.args.tree.now c.args.k (record { face = 0; edge = 0; across = 0 }))) c.as_slice-ring.result.now _ _ c.loop-i.i r.has_faces (has_read (paper_of c.args.pattern.now c.args.faces.now) (met_of c.args.tree.now) c.args.up.now c.args.k (meeting_of (slice_index_or c.args.tree.now c.args.k (record { face = 0; edge = 0; across = 0 }))) c.as_slice-2.result.now c.as_slice.result.now c.index-as_slice-m.result c.as_slice-ring.result.now c.requires.ready (met_get c.args.tree.now c.args.k (record { face = 0; edge = 0; across = 0 }) c.requires.within) c.as_slice-2.ensures c.as_slice.ensures c.index-as_slice-m.is c.as_slice-ring.ensures) c.loop-i-test.true

pub returns-in_err-carry_one : goal.returns-in_err-carry_one
returns-in_err-carry_one c =
    let refused : RefusesFolding c.args.pattern.now.points c.args.faces.now.rings c.args.pattern.now.edges c.args.faces.now.sides c.args.faces.now.marks c.in_err-carry_one.field-0.0 =
    carry_refused (paper_of c.args.pattern.now c.args.faces.now) (met_of c.args.tree.now) c.args.up.now c.args.k c.loop-i.i (meeting_of (slice_index_or c.args.tree.now c.args.k (record { face = 0; edge = 0; across = 0 }))) c.loop-i.self c.as_slice-ring.result.now _ _ c.requires.ready (met_get c.args.tree.now c.args.k (record { face = 0; edge = 0; across = 0 }) c.requires.within)
    (has_read (paper_of c.args.pattern.now c.args.faces.now) (met_of c.args.tree.now) c.args.up.now c.args.k (meeting_of (slice_index_or c.args.tree.now c.args.k (record { face = 0; edge = 0; across = 0 }))) c.as_slice-2.result.now c.as_slice.result.now c.index-as_slice-m.result c.as_slice-ring.result.now c.requires.ready (met_get c.args.tree.now c.args.k (record { face = 0; edge = 0; across = 0 }) c.requires.within) c.as_slice-2.ensures c.as_slice.ensures c.index-as_slice-m.is c.as_slice-ring.ensures) c.loop-i-test.true c.loop-i.invariant c.in_err-carry_one.field-0.0 c.in_err-carry_one.ensures in
    search (rules, refused)

pub loop-i-preserved : goal.loop-i-preserved
loop-i-preserved c = carry_more (paper_of c.args.pattern.now c.args.faces.now) (met_of c.args.tree.now) c.args.up.now c.args.k c.loop-i.i (meeting_of (slice_index_or c.args.tree.now c.args.k (record { face = 0; edge = 0; across = 0 }))) c.loop-i.self c.carry_one.new.self c.as_slice-ring.result.now _ _ c.requires.ready (met_get c.args.tree.now c.args.k (record { face = 0; edge = 0; across = 0 }) c.requires.within)
    (has_read (paper_of c.args.pattern.now c.args.faces.now) (met_of c.args.tree.now) c.args.up.now c.args.k (meeting_of (slice_index_or c.args.tree.now c.args.k (record { face = 0; edge = 0; across = 0 }))) c.as_slice-2.result.now c.as_slice.result.now c.index-as_slice-m.result c.as_slice-ring.result.now c.requires.ready (met_get c.args.tree.now c.args.k (record { face = 0; edge = 0; across = 0 }) c.requires.within) c.as_slice-2.ensures c.as_slice.ensures c.index-as_slice-m.is c.as_slice-ring.ensures) c.loop-i-test.true c.loop-i.invariant c.in_ok-carry_one.ensures

pub returns : goal.returns
returns c =
    let read = has_read (paper_of c.args.pattern.now c.args.faces.now) (met_of c.args.tree.now) c.args.up.now c.args.k (meeting_of (slice_index_or c.args.tree.now c.args.k (record { face = 0; edge = 0; across = 0 }))) c.as_slice-2.result.now c.as_slice.result.now c.index-as_slice-m.result c.as_slice-ring.result.now c.requires.ready (met_get c.args.tree.now c.args.k (record { face = 0; edge = 0; across = 0 }) c.requires.within) c.as_slice-2.ensures c.as_slice.ensures c.index-as_slice-m.is c.as_slice-ring.ensures in
    done_all (paper_of c.args.pattern.now c.args.faces.now) (met_of c.args.tree.now) c.args.up.now c.args.k c.loop-i.i (meeting_of (slice_index_or c.args.tree.now c.args.k (record { face = 0; edge = 0; across = 0 }))) c.loop-i.self (met_get c.args.tree.now c.args.k (record { face = 0; edge = 0; across = 0 }) c.requires.within)
    (subst (λ (vs : List ℕ). length vs ≤ c.loop-i.i) read.ring_is c.loop-i-test.false) c.loop-i.invariant
