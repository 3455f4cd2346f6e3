use Rattle.std.proofs.Common.{◌≡◌, arith, sym, subst, ◌∙◌}
use Rattle.std.proofs.lemmas.List.{get_or_default}
use Rattle.std.proofs.lemmas.Option.{slice_get-get_or}
use Rattle.ff_whole.specs.Points.{origin}
use Rattle.ff_types.specs.declared.patterns.Mark.TheVariants.{B}
use Rattle.ff_lines.specs.declared.items.LineItem.{LineItem}
use Rattle.ff_lines.specs.Heads.{IsCursor, cursor_at}
use Rattle.ff_lines.proofs.Cursors.{cursor_off, cursor_past, cursor_set, cursor_stays, here}
use Rattle.ff_lines.proofs.HeadLists.{more_heads, off_head}
use Rattle.ff_lines.proofs.cutting.take_head.Goals as goal
use Rattle.ff_lines.proofs.cutting.take_head.Goals.{Then-index-a}

abbrev some_line : LineItem
some_line = record { p = origin; q = origin; mark = B }

at_then : (c : Then-index-a) → cursor_at c.args.cursors.now.items c.args.i ≡ c.index.result.now
at_then c = get_or_default c.args.cursors.now.items c.args.i 0 c.index.result.now
    (let n = c.requires.cursors.as_many in let w = c.requires.within in omega (arith, n, w)) ∙ sym c.index.ensures

pub returns-then-index-a-clause-heads : goal.returns-then-index-a-clause-heads
returns-then-index-a-clause-heads c =
    let there = slice_get-get_or c.args.lines.now c.args.i some_line c.requires.within in
    off_head c.args.lines.now c.args.points.now c.args.i c.args.a _ there c.args.heads.now.items c.requires.heads
    (cursor_off _ c.args.points.now c.args.a _ c.requires.point_within (here c.args.lines.now c.args.i c.args.points.now c.args.a c.args.cursors.now.items _ there c.requires.cursors)
    (λ e. c.if-index-a.true (sym (at_then c) ∙ e)))

pub returns-then-index-a-clause-cursors : goal.returns-then-index-a-clause-cursors
returns-then-index-a-clause-cursors c =
    let there = slice_get-get_or c.args.lines.now c.args.i some_line c.requires.within in
    cursor_stays c.args.lines.now c.args.i c.args.points.now c.args.a c.args.cursors.now.items _ there c.requires.cursors
    (cursor_past _ c.args.points.now c.args.a _ (here c.args.lines.now c.args.i c.args.points.now c.args.a c.args.cursors.now.items _ there c.requires.cursors)
    (λ e. c.if-index-a.true (sym (at_then c) ∙ e)))

pub cursor_after-requires-clause-on : goal.cursor_after-requires-clause-on
cursor_after-requires-clause-on c =
    let there = slice_get-get_or c.args.lines.now c.args.i some_line c.requires.within in
    let e : cursor_at c.args.cursors.now.items c.args.i ≡ c.args.a = get_or_default c.args.cursors.now.items c.args.i 0 c.index.result.now
    (let n = c.requires.cursors.as_many in let w = c.requires.within in omega (arith, n, w)) ∙ sym c.index.ensures ∙ c.if-index-a.false in
    (subst (IsCursor _ c.args.points.now c.args.a) e (here c.args.lines.now c.args.i c.args.points.now c.args.a c.args.cursors.now.items _ there c.requires.cursors)).on c.requires.point_within

pub returns : goal.returns
returns c =
    let there = slice_get-get_or c.args.lines.now c.args.i some_line c.requires.within in
    record {
      heads = more_heads c.args.lines.now c.args.points.now c.args.i c.args.a _ there c.args.heads.now.items c.cursor_after.new.heads.items c.requires.heads c.cursor_after.ensures.heads;
      cursors = cursor_set c.args.lines.now c.args.i c.args.points.now c.args.a c.args.cursors.now.items _ there c.requires.cursors c.cursor_after.result c.cursor_after.ensures.cursor;
    }
