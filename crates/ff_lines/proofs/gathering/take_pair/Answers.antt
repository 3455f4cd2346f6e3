use Rattle.std.proofs.Common.{arith}
use Rattle.std.proofs.lemmas.Option.{slice_get-get_or}
use Rattle.ff_lines.proofs.Gathers.{after_meeting, after_plain, after_whole, stops_off, stops_over}
use Rattle.ff_lines.proofs.gathering.take_pair.Goals as goal

pub returns-then-are_square : goal.returns-then-are_square
returns-then-are_square c = after_whole c.args.lines.now c.args.i c.args.j _ _
    (record { order = c.requires.order; first = slice_get-get_or c.args.lines.now c.args.i _ (let a = c.requires.order in let b = c.requires.within in omega (arith, a, b)); second = slice_get-get_or c.args.lines.now c.args.j _ c.requires.within })
    c.args.points.now.items c.args.full c.requires.gathered c.if-full.true (c.are_square.ensures c.if-are_square.true)

pub returns-in-Plain : goal.returns-in-Plain
returns-in-Plain c = after_plain c.args.lines.now c.args.i c.args.j _ _
    (record { order = c.requires.order; first = slice_get-get_or c.args.lines.now c.args.i _ (let a = c.requires.order in let b = c.requires.within in omega (arith, a, b)); second = slice_get-get_or c.args.lines.now c.args.j _ c.requires.within })
    c.args.points.now.items c.args.full c.requires.gathered c.in-Plain.ensures

pub returns-in-Overlapping : goal.returns-in-Overlapping
returns-in-Overlapping c = stops_over c.args.lines.now c.args.i c.args.j _ _
    (record { order = c.requires.order; first = slice_get-get_or c.args.lines.now c.args.i _ (let a = c.requires.order in let b = c.requires.within in omega (arith, a, b)); second = slice_get-get_or c.args.lines.now c.args.j _ c.requires.within })
    c.args.points.now.items c.args.full c.requires.gathered c.in-Overlapping.ensures

pub returns-in-OffGrid : goal.returns-in-OffGrid
returns-in-OffGrid c = stops_off c.args.lines.now c.args.i c.args.j _ _
    (record { order = c.requires.order; first = slice_get-get_or c.args.lines.now c.args.i _ (let a = c.requires.order in let b = c.requires.within in omega (arith, a, b)); second = slice_get-get_or c.args.lines.now c.args.j _ c.requires.within })
    c.args.points.now.items c.args.full c.requires.gathered c.in-OffGrid.ensures

pub returns-in_ok-keep_point-in-At : goal.returns-in_ok-keep_point-in-At
returns-in_ok-keep_point-in-At c = after_meeting c.args.lines.now c.args.i c.args.j _ _
    (record { order = c.requires.order; first = slice_get-get_or c.args.lines.now c.args.i _ (let a = c.requires.order in let b = c.requires.within in omega (arith, a, b)); second = slice_get-get_or c.args.lines.now c.args.j _ c.requires.within })
    c.args.points.now.items c.args.full c.requires.gathered c.in-At.point c.in-At.ensures c.keep_point.new.points.items c.in_ok-keep_point-in-At.ensures
