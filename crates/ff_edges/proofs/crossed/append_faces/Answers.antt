use Rattle.std.proofs.Common.{◌≡◌, ◌+◌, ◌*◌, subst, arith, ◌∙◌, sym}
use Rattle.ff_types.specs.Sheets.{sheet_of}
use Rattle.ff_edges.specs.declared.blocks.TheConstants.{BLOCK}
use Rattle.ff_edges.specs.EdgesInside.{AreFacesTo}
use Rattle.ff_edges.specs.Extents.{extent_at}
use Rattle.ff_edges.proofs.BesideFaces.{block_none}
use Rattle.ff_edges.proofs.FaceLists.{faces_end, faces_border, faces_skip_to}
use Rattle.ff_edges.proofs.crossed.append_faces.Goals as goal

pub returns-then-not-is_inner-clause-listed : goal.returns-then-not-is_inner-clause-listed
returns-then-not-is_inner-clause-listed c = faces_border (sheet_of c.args.pattern.now c.args.faces.now c.args.folded.now) c.args.e 0 c.args.list.now.items (sym c.is_inner.ensures ∙ c.if-not-is_inner.true) c.requires.listed

pub loop-b-preserved-then-is_beside : goal.loop-b-preserved-then-is_beside
loop-b-preserved-then-is_beside c =
    let r = c.requires in
    let v = c.loop-b.invariant in
    let b = c.loop-b.b in
    let x = c.edge_reach-reach.ensures in
    record {
      listed = faces_skip_to (sheet_of c.args.pattern.now c.args.faces.now c.args.folded.now) c.args.e (BLOCK * b) (BLOCK * (b + 1)) c.loop-b.list.items (omega arith)
          (λ f low l face. block_none r.folded c.args.e (BLOCK * b) (BLOCK * b + BLOCK) c.edge_reach-reach.result.extent (extent_at c.args.blocks.now b) c.args.extents.now r.edge r.extents (r.blocks_are.each.round b c.loop-b-test.true) x.round (c.is_beside.ensures.0 c.if-is_beside.true) f low (omega (arith, l)) face)
          v.listed;
      few = v.few;
    }

pub loop-b-preserved : goal.loop-b-preserved
loop-b-preserved c =
    let g = sheet_of c.args.pattern.now c.args.faces.now c.args.folded.now in
    let o = c.in_ok-append_block.ensures in
    let next : BLOCK * c.loop-b.b + BLOCK ≡ BLOCK * (c.loop-b.b + 1) = omega arith in
    record {
      listed = subst (λ e. AreFacesTo g e (BLOCK * (c.loop-b.b + 1)) c.append_block.new.list.items) c.edge_reach-reach.ensures.number (subst (λ n. AreFacesTo g c.edge_reach-reach.result.number n c.append_block.new.list.items) next o.listed);
      few = o.few;
    }

pub returns-clause-listed : goal.returns-clause-listed
returns-clause-listed c =
    let n = c.requires.extents.count in
    let m = c.requires.blocks_are.count in
    let test = c.loop-b-test.false in
    faces_end (sheet_of c.args.pattern.now c.args.faces.now c.args.folded.now) c.args.e (BLOCK * c.loop-b.b) c.loop-b.list.items (omega (arith, n, m, test)) c.loop-b.invariant.listed
