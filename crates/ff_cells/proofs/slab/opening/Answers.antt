use Rattle.std.proofs.Common.{inl, inr, refl}
use Rattle.ff_cells.proofs.Starts.{gap_of_equal, gap_not_equal}
use Rattle.ff_cells.proofs.slab.opening.Goals as goal

pub returns-in-Equal-cmp_at : goal.returns-in-Equal-cmp_at
returns-in-Equal-cmp_at c =
    let k = c.args.low.now in let l = c.args.high.now in (
      gap_of_equal k.line l.line c.args.left.now.place k.ok.rising.rises l.ok.rising.rises c.in-Equal.ensures,
      gap_of_equal k.line l.line c.args.right.now.place k.ok.rising.rises l.ok.rising.rises
          c.in-Equal-cmp_at.ensures,
    )

pub returns-in_default-cmp_at : goal.returns-in_default-cmp_at
returns-in_default-cmp_at c =
    let k = c.args.low.now in let l = c.args.high.now in
    inr (
      refl,
      gap_not_equal k.line l.line c.args.right.now.place c.cmp_at-in-Equal.result k.ok.rising.rises
          l.ok.rising.rises c.cmp_at-in-Equal.ensures c.in_default-cmp_at.not-Equal c.requires.at_right,
    )

pub returns-in_default : goal.returns-in_default
returns-in_default c =
    let k = c.args.low.now in let l = c.args.high.now in
    inl (
      refl,
      gap_not_equal k.line l.line c.args.left.now.place c.cmp_at.result k.ok.rising.rises
          l.ok.rising.rises c.cmp_at.ensures c.in_default.not-Equal c.requires.at_left,
    )
