use Rattle.std.proofs.Common.{◌≡◌, ◌+◌, ◌*◌, ◌/◌, arith, subst, sym, ◌∙◌}
use Rattle.std.proofs.lemmas.Bool.{false≢true}
use Rattle.ff_types.specs.Sheets.{sheet_of}
use Rattle.ff_edges.specs.declared.blocks.TheConstants.{BLOCK}
use Rattle.ff_edges.specs.SharedSegments.{ArePairsTo}
use Rattle.ff_edges.specs.Extents.{extent_at}
use Rattle.ff_edges.proofs.ApartEdges.{block_apart_none}
use Rattle.ff_edges.proofs.PairLists.{pairs_border, pairs_end, pairs_skip_to}
use Rattle.ff_edges.proofs.along.append_row.Goals as goal

pub returns-then-not-is_inner-clause-listed : goal.returns-then-not-is_inner-clause-listed
returns-then-not-is_inner-clause-listed c = pairs_border (sheet_of c.args.pattern.now c.args.faces.now c.args.folded.now) c.args.e c.args.list.now.items (sym c.is_inner.ensures ∙ c.if-not-is_inner.true) c.requires.listed

pub loop-b-init : goal.loop-b-init
loop-b-init c = record {
  listed = pairs_skip_to (sheet_of c.args.pattern.now c.args.faces.now c.args.folded.now) c.args.e 0 (BLOCK * (c.args.e / 32)) c.args.list.now.items (omega arith)
      (λ j l m order edge. absurd (omega (arith, m, order))) c.requires.listed;
  few = c.requires.few;
}

pub loop-b-preserved-then-not-is_touching : goal.loop-b-preserved-then-not-is_touching
loop-b-preserved-then-not-is_touching c =
    let r = c.requires in
    let v = c.loop-b.invariant in
    let b = c.loop-b.b in
    record {
      listed = pairs_skip_to (sheet_of c.args.pattern.now c.args.faces.now c.args.folded.now) c.args.e (BLOCK * b) (BLOCK * (b + 1)) c.loop-b.list.items (omega arith)
          (λ k low l order edge. block_apart_none r.folded c.args.e (BLOCK * b) (BLOCK * b + BLOCK) (extent_at c.args.extents.now c.args.e) (extent_at c.args.blocks.now b) c.args.extents.now r.edge r.extents (r.blocks_are.each.round b c.loop-b-test.true)
          (r.extents.round c.args.e r.edge) (λ t. false≢true (sym c.if-not-is_touching.true ∙ c.is_touching.ensures.1 t)) k low (omega (arith, l)) edge)
          v.listed;
      few = v.few;
    }

pub loop-b-preserved : goal.loop-b-preserved
loop-b-preserved c =
    let g = sheet_of c.args.pattern.now c.args.faces.now c.args.folded.now in
    let o = c.in_ok-append_block.ensures in
    let next : BLOCK * c.loop-b.b + BLOCK ≡ BLOCK * (c.loop-b.b + 1) = omega arith in
    record { listed = subst (λ n. ArePairsTo g c.args.e n c.append_block.new.list.items) next o.listed; few = o.few }

pub returns-clause-listed : goal.returns-clause-listed
returns-clause-listed c =
    let n = c.requires.extents.count in
    let m = c.requires.blocks_are.count in
    let test = c.loop-b-test.false in
    pairs_end (sheet_of c.args.pattern.now c.args.faces.now c.args.folded.now) c.args.e (BLOCK * c.loop-b.b) c.loop-b.list.items (omega (arith, n, m, test)) c.loop-b.invariant.listed
