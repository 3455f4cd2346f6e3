use Rattle.std.proofs.Common.{option_map, rules}
use Rattle.ff_types.specs.Sheets.{sheet_of}
use Rattle.ff_tacos.specs.Making.{listed_of, flat_edge}
use Rattle.ff_tacos.proofs.Growing.{grown, over}
use Rattle.ff_tacos.proofs.passes.append_flat_edges.Goals as goal

pub returns-in_err-append-clause-refused : goal.returns-in_err-append-clause-refused
returns-in_err-append-clause-refused c =
    let g = sheet_of c.args.pattern.now c.args.faces.now c.args.folded.now in
    let full = over (λ x. option_map (listed_of g c.args.pairs.now) (flat_edge g x)) c.args.edge_pairs.now
    c.loop-i.i _ c.flat_edge-found.result c.loop-i-test.true c.flat_edge-found.ensures
    c.args.list.now c.loop-i.list c.loop-i.invariant.appended c.in_err-append.field-0.0
    c.in_err-append.ensures.refused in
    search (rules, full)

pub loop-i-preserved : goal.loop-i-preserved
loop-i-preserved c =
    let g = sheet_of c.args.pattern.now c.args.faces.now c.args.folded.now in
    record {
      appended = grown (λ x. option_map (listed_of g c.args.pairs.now) (flat_edge g x)) c.args.edge_pairs.now
          c.loop-i.i _ c.flat_edge-found.result c.loop-i-test.true c.flat_edge-found.ensures
          c.args.list.now c.loop-i.list c.loop-i.invariant.appended c.append.new.list
          c.in_ok-append.ensures.appended;
      few = c.in_ok-append.ensures.few;
    }
