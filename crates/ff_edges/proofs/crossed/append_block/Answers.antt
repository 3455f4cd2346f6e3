use Rattle.std.proofs.Common.{◌+◌, ◌*◌, ◌<◌, length, arith}
use Rattle.ff_types.specs.Sheets.{sheet_of}
use Rattle.ff_edges.specs.declared.blocks.TheConstants.{BLOCK}
use Rattle.ff_edges.specs.Extents.{extent_at}
use Rattle.ff_edges.proofs.BesideFaces.{beside_none}
use Rattle.ff_edges.proofs.FaceLists.{faces_skip, faces_skip_to}
use Rattle.ff_edges.proofs.crossed.append_block.Goals as goal

pub loop-f-preserved-then-is_beside : goal.loop-f-preserved-then-is_beside
loop-f-preserved-then-is_beside c =
    let r = c.requires in
    let v = c.loop-f.invariant in
    let n = r.extents.count in
    let test = c.loop-f-test.true in
    let within = c.block_end-f-end.ensures.within in
    let face : c.loop-f.f < length c.args.faces.now.rings = omega (arith, n, test, within) in
    record {
      listed = faces_skip (sheet_of c.args.pattern.now c.args.faces.now c.args.folded.now) c.args.reach.number c.loop-f.f c.loop-f.list.items
          (beside_none r.folded c.args.reach.number c.loop-f.f r.edge face c.args.reach.extent (extent_at c.args.extents.now c.loop-f.f) r.reach_round (r.extents.round c.loop-f.f face) (c.is_beside.ensures.0 c.if-is_beside.true)) v.listed;
      few = v.few;
    }

pub returns-clause-listed : goal.returns-clause-listed
returns-clause-listed c =
    let n = c.requires.extents.count in
    let b = c.args.b in
    let f = c.loop-f.f in
    let end = c.block_end-f-end.ensures in
    let only = end.only in
    let test = c.loop-f-test.false in
    let last = c.loop-f.auto.f-end end.after in
    faces_skip_to (sheet_of c.args.pattern.now c.args.faces.now c.args.folded.now) c.args.reach.number f (BLOCK * b + BLOCK) c.loop-f.list.items (omega (arith, only, last))
    (λ k low l m. absurd (let e = end.all k (omega (arith, l)) (omega (arith, m, n)) in omega (arith, e, low, test))) c.loop-f.invariant.listed
