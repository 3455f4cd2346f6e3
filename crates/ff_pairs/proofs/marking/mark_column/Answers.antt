use Rattle.std.proofs.Common.{◌∙◌, ◌≡◌, ◌+◌, ◌<◌, get_or, arith, length}
use Rattle.ff_pairs.specs.Tables.{IsAhead}
use Rattle.ff_pairs.proofs.Marks.{none_ahead, mark_none, mark_one, mark_more, more_ahead}
use Rattle.ff_pairs.proofs.marking.mark_column.Goals as goal

pub loop-j-init : goal.loop-j-init
loop-j-init c = mark_none c.args.width c.args.table.now _ (λ f h. none_ahead c.args.faces.now c.args.i f h)

pub loop-j-preserved : goal.loop-j-preserved
loop-j-preserved c =
    let faces = c.args.faces.now in let i = c.args.i in let j = c.loop-j.j in let w = c.args.width in
    let within : j < length faces = omega (arith, c.loop-j-test.true, c.requires.within) in
    mark_more w c.args.table.now c.loop-j.table _ (IsAhead faces i j) (λ f h. (f ≡ get_or faces j 0) × (h ≡ get_or faces i 0)) (IsAhead faces i (j + 1)) c.loop-j.invariant
    (mark_one w c.loop-j.table (get_or faces j 0) (get_or faces i 0) (c.requires.faces j 0 within) (c.requires.faces i 0 c.requires.within) (c.loop-j.invariant.long ∙ c.requires.size))
    (λ f h. more_ahead faces i j f h c.loop-j-test.true c.requires.within)
