use Rattle.std.proofs.Common.{[]}
use Rattle.ff_types.specs.Sheets.{sheet_of}
use Rattle.ff_tacos.specs.Making.{mixed}
use Rattle.ff_tacos.proofs.Growing.{grown}
use Rattle.ff_tacos.proofs.mixed.collect.Goals as goal

pub loop-i-preserved : goal.loop-i-preserved
loop-i-preserved c =
    let g = sheet_of c.args.pattern.now c.args.faces.now c.args.folded.now in
    grown (mixed g) c.args.edge_pairs.now c.loop-i.i _ c.folded_and_flat-pair.result c.loop-i-test.true
    c.folded_and_flat-pair.ensures [] c.loop-i.list.items c.loop-i.invariant c.push.new.list.items
    c.in_ok-push.ensures
