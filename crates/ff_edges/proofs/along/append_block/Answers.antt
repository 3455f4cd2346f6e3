use Rattle.std.proofs.Common.{◌+◌, ◌*◌, ◌<◌, length, arith, sym, ◌∙◌}
use Rattle.std.proofs.lemmas.Bool.{false≢true}
use Rattle.ff_types.specs.Sheets.{sheet_of}
use Rattle.ff_edges.specs.declared.blocks.TheConstants.{BLOCK}
use Rattle.ff_edges.specs.Extents.{extent_at}
use Rattle.ff_edges.proofs.ApartEdges.{apart_none}
use Rattle.ff_edges.proofs.PairLists.{pairs_skip, pairs_skip_to}
use Rattle.ff_edges.proofs.along.append_block.Goals as goal

pub loop-k-preserved-then-k-e : goal.loop-k-preserved-then-k-e
loop-k-preserved-then-k-e c =
    let v = c.loop-k.invariant in
    let test = c.if-k-e.true in
    record {
      listed = pairs_skip_to (sheet_of c.args.pattern.now c.args.faces.now c.args.folded.now) c.args.e c.loop-k.k (c.loop-k.k + 1) c.loop-k.list.items (omega arith)
          (λ j l m order edge. absurd (omega (arith, m, order, test))) v.listed;
      few = v.few;
    }

pub loop-k-preserved-then-not-is_touching : goal.loop-k-preserved-then-not-is_touching
loop-k-preserved-then-not-is_touching c =
    let r = c.requires in
    let v = c.loop-k.invariant in
    let n = r.extents.count in
    let test = c.loop-k-test.true in
    let within = c.block_end-k-end.ensures.within in
    let edge : c.loop-k.k < length c.args.pattern.now.edges = omega (arith, n, test, within) in
    record {
      listed = pairs_skip (sheet_of c.args.pattern.now c.args.faces.now c.args.folded.now) c.args.e c.loop-k.k c.loop-k.list.items
          (apart_none r.folded c.args.e c.loop-k.k (extent_at c.args.extents.now c.args.e) (extent_at c.args.extents.now c.loop-k.k) r.edge edge (r.extents.round c.args.e r.edge) (r.extents.round c.loop-k.k edge)
          (λ t. false≢true (sym c.if-not-is_touching.true ∙ c.is_touching.ensures.1 t))) v.listed;
      few = v.few;
    }

pub returns-clause-listed : goal.returns-clause-listed
returns-clause-listed c =
    let n = c.requires.extents.count in
    let b = c.args.b in
    let k = c.loop-k.k in
    let end = c.block_end-k-end.ensures in
    let only = end.only in
    let test = c.loop-k-test.false in
    let last = c.loop-k.auto.k-end end.after in
    pairs_skip_to (sheet_of c.args.pattern.now c.args.faces.now c.args.folded.now) c.args.e k (BLOCK * b + BLOCK) c.loop-k.list.items (omega (arith, only, last))
    (λ j low l order m. absurd (let e = end.all j (omega (arith, l)) (omega (arith, m, n)) in omega (arith, e, low, test))) c.loop-k.invariant.listed
