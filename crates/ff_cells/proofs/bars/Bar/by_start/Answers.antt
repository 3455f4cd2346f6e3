use Rattle.std.proofs.Common.{◌∙◌}
use Rattle.std.specs.Ordering.{ordering_then}
use Rattle.ff_cells.proofs.Fractions.{height_as_rise}
use Rattle.ff_cells.proofs.bars.Bar.by_start.Goals as goal

pub returns : goal.returns
returns c =
    let k = c.args.self.now in
    let l = c.args.other.now in
    let e = height_as_rise k.line l.line c.args.at.now.place k.ok.rising.rises l.ok.rising.rises in
    c.then.ensures ∙ (λ i. ordering_then (c.cmp_at-by_height.ensures i) (c.cmp_slope.ensures i))
    ∙ (λ i. ordering_then (e i) (c.cmp_slope.ensures 1))
