use Rattle.std.proofs.Common.{sym, ap, subst, rules, List, length, Bool}
use mir.Syntax.{w64, w128}
use Rattle.ff_whole.proofs.Bounds.{read, trip}
use Rattle.ff_types.specs.FoldRefusals.{placings}
use Rattle.ff_reflect.specs.declared.walk.Meeting.{Meeting as CodeMeeting}
use Rattle.ff_reflect.specs.Sheets.{paper_of}
use Rattle.ff_reflect.specs.Trees.{order_along}
use Rattle.ff_reflect.specs.Walked.{met_of}
use Rattle.ff_reflect.specs.Standing.{IsReady, IsStanding}
use Rattle.ff_reflect.specs.Folding.{WhyNoFolding}
use Rattle.ff_reflect.proofs.Assembly.{met_below, tree_below, below_read, parity_read, ready_read, folding_read, scale_below, why_not}
use Rattle.ff_reflect.proofs.folding.fold.Goals as goal

pub flags_of-requires-clause-below : goal.flags_of-requires-clause-below
flags_of-requires-clause-below c = below_read (length c.args.faces.now.rings) (length c.args.faces.now.marks) c.as_slice-count.result.now c.as_slice-marks.result.now c.as_slice.result.now c.in_ok-walk.walk.tree.items
    (ap length c.as_slice-count.ensures) (ap length c.as_slice-marks.ensures) c.as_slice.ensures.value (tree_below (paper_of c.args.pattern.now c.args.faces.now) _ _ (record { drawing = c.requires.drawing; faces = c.requires.faces }) c.in_ok-walk.ensures)

pub first_broken-requires-clause-below : goal.first_broken-requires-clause-below
first_broken-requires-clause-below c = below_read (length c.args.faces.now.rings) (length c.args.faces.now.marks) c.as_slice-count.result.now c.as_slice-marks.result.now c.as_slice-3.result.now c.in_ok-walk.walk.met.items
    (ap length c.as_slice-count.ensures) (ap length c.as_slice-marks.ensures) c.as_slice-3.ensures.value (met_below (paper_of c.args.pattern.now c.args.faces.now) _ _ (record { drawing = c.requires.drawing; faces = c.requires.faces }) c.in_ok-walk.ensures)

pub returns-in-Some : goal.returns-in-Some
returns-in-Some c = parity_read c.args.pattern.now c.args.faces.now c.in_ok-walk.walk c.in_ok-up.up.items c.as_slice-count.result.now c.as_slice-marks.result.now c.as_slice-3.result.now c.as_slice.result.now c.as_slice-2.result.now c.in-Some.e (record { rings_are = c.as_slice-count.ensures; marks_are = c.as_slice-marks.ensures; met_is = c.as_slice-3.ensures.value; tree_is = c.as_slice.ensures.value; flags_are = c.as_slice-2.ensures.value }) (record { drawing = c.requires.drawing; faces = c.requires.faces }) c.in_ok-walk.ensures c.in_ok-up.ensures c.in-Some.ensures

pub place-requires-clause-ready : goal.place-requires-clause-ready
place-requires-clause-ready c =
    subst (λ (ts : List CodeMeeting). IsReady (paper_of c.args.pattern.now c.args.faces.now) (met_of ts) c.as_slice-5.result.now) (sym c.as_slice-4.ensures.value)
    (subst (λ (bs : List Bool). IsReady (paper_of c.args.pattern.now c.args.faces.now) (met_of c.in_ok-walk.walk.tree.items) bs) (sym c.as_slice-5.ensures.value)
    (ready_read c.args.pattern.now c.args.faces.now c.in_ok-walk.walk c.in_ok-up.up.items c.as_slice-count.result.now c.as_slice-marks.result.now c.as_slice-3.result.now c.as_slice.result.now c.as_slice-2.result.now (record { rings_are = c.as_slice-count.ensures; marks_are = c.as_slice-marks.ensures; met_is = c.as_slice-3.ensures.value; tree_is = c.as_slice.ensures.value; flags_are = c.as_slice-2.ensures.value }) (record { drawing = c.requires.drawing; faces = c.requires.faces }) c.in_ok-walk.ensures c.in_ok-up.ensures c.in_default.ensures))

pub returns-in_err-placed : goal.returns-in_err-placed
returns-in_err-placed c =
    let why : WhyNoFolding c.args.pattern.now c.args.faces.now c.in_err-placed.field-0.0 = why_not c.args.pattern.now c.args.faces.now c.in_err-placed.field-0.0 (record { drawing = c.requires.drawing; faces = c.requires.faces }) c.in_err-placed.ensures in
    search (rules, why)

pub returns : goal.returns
returns c =
    let standing : IsStanding (paper_of c.args.pattern.now c.args.faces.now) (met_of c.in_ok-walk.walk.tree.items) c.in_ok-up.up.items (placings c.args.faces.now.rings (order_along (met_of c.in_ok-walk.walk.tree.items))) c.in_ok-placed.placed =
    subst (λ (ts : List CodeMeeting). IsStanding (paper_of c.args.pattern.now c.args.faces.now) (met_of ts) c.in_ok-up.up.items (placings c.args.faces.now.rings (order_along (met_of ts))) c.in_ok-placed.placed) c.as_slice-4.ensures.value
    (subst (λ (bs : List Bool). IsStanding (paper_of c.args.pattern.now c.args.faces.now) (met_of c.as_slice-4.result.now) bs (placings c.args.faces.now.rings (order_along (met_of c.as_slice-4.result.now))) c.in_ok-placed.placed) c.as_slice-5.ensures.value c.in_ok-placed.ensures) in
    let scale = trip w64 (read w128 (scale_below (paper_of c.args.pattern.now c.args.faces.now) _ _ _ c.in_ok-placed.placed standing) tt) tt in
    let f = folding_read c.args.pattern.now c.args.faces.now (met_of c.in_ok-walk.walk.tree.items) c.in_ok-up.up.items c.in_ok-placed.placed _ c.of.result c.of-2.result (ready_read c.args.pattern.now c.args.faces.now c.in_ok-walk.walk c.in_ok-up.up.items c.as_slice-count.result.now c.as_slice-marks.result.now c.as_slice-3.result.now c.as_slice.result.now c.as_slice-2.result.now (record { rings_are = c.as_slice-count.ensures; marks_are = c.as_slice-marks.ensures; met_is = c.as_slice-3.ensures.value; tree_is = c.as_slice.ensures.value; flags_are = c.as_slice-2.ensures.value }) (record { drawing = c.requires.drawing; faces = c.requires.faces }) c.in_ok-walk.ensures c.in_ok-up.ensures c.in_default.ensures) standing scale.is c.of.ensures c.of-2.ensures in
    record { folding = f.0; near = f.1 }
