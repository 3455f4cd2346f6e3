use Rattle.std.proofs.Common.{inl}
use Rattle.ff_cells.proofs.Starts.{gap_of_greater, gap_not_greater}
use Rattle.ff_cells.proofs.bars.crossing.Goals as goal

pub returns-in-Some : goal.returns-in-Some
returns-in-Some c =
    let k = c.args.low.now in let l = c.args.high.now in
    let m = c.in-Some.ensures in (
      gap_of_greater k.line l.line c.args.right.now.place k.ok.rising.rises l.ok.rising.rises
          c.in-Greater.ensures,
      m.apart,
      m.on_first,
      m.on_second,
    )

pub returns-in_default : goal.returns-in_default
returns-in_default c =
    let k = c.args.low.now in let l = c.args.high.now in
    inl (gap_not_greater k.line l.line c.args.right.now.place c.cmp_at.result k.ok.rising.rises
    l.ok.rising.rises c.cmp_at.ensures c.in_default.not-Greater)
