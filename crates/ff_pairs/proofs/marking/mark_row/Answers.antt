use Rattle.std.proofs.Common.{◌∙◌, ◌≡◌, ◌+◌, get_or, arith}
use Rattle.ff_pairs.specs.Tables.{IsBehind}
use Rattle.ff_pairs.proofs.Marks.{none_behind, mark_none, mark_one, mark_more, more_behind}
use Rattle.ff_pairs.proofs.marking.mark_row.Goals as goal

pub loop-j-init : goal.loop-j-init
loop-j-init c = let within = c.requires.within in record { adds = mark_none c.args.width c.args.table.now _ (λ f h. none_behind c.args.faces.now c.args.i f h); after = omega arith; within = omega (arith, within) }

pub loop-j-preserved : goal.loop-j-preserved
loop-j-preserved c =
    let faces = c.args.faces.now in let i = c.args.i in let j = c.loop-j.j in let w = c.args.width in
    let inv = c.loop-j.invariant in
    let after = inv.after in
    record {
      adds = mark_more w c.args.table.now c.loop-j.table _ (IsBehind faces i j) (λ f h. (f ≡ get_or faces i 0) × (h ≡ get_or faces j 0)) (IsBehind faces i (j + 1)) inv.adds
          (mark_one w c.loop-j.table (get_or faces i 0) (get_or faces j 0) (c.requires.faces i 0 c.requires.within) (c.requires.faces j 0 c.loop-j-test.true) (inv.adds.long ∙ c.requires.size))
          (λ f h. more_behind faces i j f h after c.loop-j-test.true);
      after = omega (arith, after);
      within = omega (arith, c.loop-j-test.true);
    }
