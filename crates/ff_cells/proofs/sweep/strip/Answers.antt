use Rattle.std.proofs.Common.{sym, ap, ◌∙◌}
use Rattle.std.specs.Ordering.{is_lt}
use Rattle.std.proofs.lemmas.List.Sorted.{IsPermutation-trans}
use Rattle.ff_cells.proofs.Ends.{is_less}
use Rattle.ff_cells.proofs.Sweeping.{slab_same, swept_one, slab_is_less, too_many_found}
use Rattle.ff_cells.proofs.sweep.strip.Goals as goal

pub borders-smaller : goal.borders-smaller
borders-smaller c =
    let less = ap is_lt (sym c.by_x.ensures) ∙ is_less c.by_x.result (sym c.eq.ensures ∙ c.borders-test.true)
    in
    let d = c.in_ok-left.ensures.done in
    slab_is_less c.args.bars.now.items c.borders.bars.items c.args.limit.place c.borders.left.place
    c.in_ok-left.left.place d.0 c.in_ok-left.left.ok.positive less c.borders.invariant.same d.2

pub borders-preserved : goal.borders-preserved
borders-preserved c =
    let bars = c.args.bars.now.items in let from = c.args.from.place in let limit = c.args.limit.place in
    let inv = c.borders.invariant in
    let d = c.in_ok-left.ensures.done in
    record {
      same = IsPermutation-trans _ _ _ inv.same c.next_slab.ensures.same;
      few = λ old. c.if-found-gt-MOST_CELLS.false;
      swept = swept_one bars from limit c.borders.left.place c.in_ok-left.left.place c.args.found.now
          c.borders.found c.next_slab.new.found (
            d.0,
            d.1,
            slab_same bars c.borders.bars.items limit
                c.borders.left.place c.in_ok-left.left.place d.0 inv.same d.2,
          ) inv.swept;
    }

pub returns-then-found-gt-MOST_CELLS-clause-stopped : goal.returns-then-found-gt-MOST_CELLS-clause-stopped
returns-then-found-gt-MOST_CELLS-clause-stopped c =
    let bars = c.args.bars.now.items in let from = c.args.from.place in let limit = c.args.limit.place in
    let inv = c.borders.invariant in
    let d = c.in_ok-left.ensures.done in
    let s = swept_one bars from limit c.borders.left.place c.in_ok-left.left.place c.args.found.now
    c.borders.found c.next_slab.new.found (
      d.0,
      d.1,
      slab_same bars c.borders.bars.items limit
          c.borders.left.place c.in_ok-left.left.place d.0 inv.same d.2,
    ) inv.swept in
    too_many_found bars from limit c.in_ok-left.left.place c.args.found.now c.next_slab.new.found
    c.too_many.result s c.if-found-gt-MOST_CELLS.true c.too_many.ensures

pub returns-in_err-left-clause-same : goal.returns-in_err-left-clause-same
returns-in_err-left-clause-same c =
    IsPermutation-trans _ _ _ c.borders.invariant.same c.next_slab.ensures.same

pub returns-then-found-gt-MOST_CELLS-clause-same : goal.returns-then-found-gt-MOST_CELLS-clause-same
returns-then-found-gt-MOST_CELLS-clause-same c =
    IsPermutation-trans _ _ _ c.borders.invariant.same c.next_slab.ensures.same
