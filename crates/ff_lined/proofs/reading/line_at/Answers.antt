use Rattle.std.proofs.Common.{◌∙◌, sym, w64, arith}
use Rattle.serde_json.specs.View.{view}
use Rattle.ff_whole.proofs.Bounds.{back}
use Rattle.ff_lined.specs.Reading.{line_between}
use Rattle.ff_lined.proofs.Readings.{five, not_five, small}
use Rattle.ff_lined.proofs.reading.line_at.Goals as goal

pub returns-in_default : goal.returns-in_default
returns-in_default c = not_five c.args.list.now (λ e. omega (arith, e, c.in_default.len_below))

pub returns : goal.returns
returns c =
    let ta = back w64 (small (view c.x-item.result) c.in_ok-a.a (sym c.in_ok-a.ensures)) tt in
    let tb = back w64 (small (view c.y-item.result) c.in_ok-b.b (sym c.in_ok-b.ensures)) tt in
    let tc = back w64 (small (view c.z-item.result) c.in_ok-c.c (sym c.in_ok-c.ensures)) tt in
    let td = back w64 (small (view c.w-item.result) c.in_ok-d.d (sym c.in_ok-d.ensures)) tt in
    c.line_between.ensures ∙ (λ i. line_between (ta i) (tb i) (tc i) (td i) c.in_ok-mark.mark)
    ∙ five c.args.list.now c.x-item.result c.y-item.result c.z-item.result c.w-item.result c.letter-item.result c.in_ok-a.a c.in_ok-b.b c.in_ok-c.c c.in_ok-d.d c.in_ok-mark.mark
    c.in-len5.len_at_least c.in-len5.len_below c.x-item.is c.y-item.is c.z-item.is c.w-item.is c.letter-item.is
    c.in_ok-a.ensures c.in_ok-b.ensures c.in_ok-c.ensures c.in_ok-d.ensures c.in_ok-mark.ensures
