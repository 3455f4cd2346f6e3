use Rattle.std.proofs.Common.{◌+◌, ◌-◌, ◌<◌, ◌≤◌, length, get_or, sym, subst, arith}
use Rattle.std.specs.List.{All}
use Rattle.ff_pairs.specs.Tables.{IsReach}
use Rattle.ff_pairs.proofs.Follows.{AreDoneTo, done_there, done_more, done_all}
use Rattle.ff_pairs.proofs.Reaches.{reached}
use Rattle.ff_pairs.proofs.Widths.{below_last}
use Rattle.ff_pairs.proofs.marking.mark_cell.Goals as goal
use Rattle.ff_pairs.proofs.marking.mark_cell.Goals.{then-not-stands_at, else-not-stands_at}

pub loop-i-preserved : goal.loop-i-preserved
loop-i-preserved c =
    let w = c.args.width in let old = c.args.table.now in let before = c.args.before.now in let faces = c.args.faces.now in let i = c.loop-i.i in
    let done = c.loop-i.invariant.done in
    let reach = c.loop-i.invariant.reach in
    let some : 0 < length faces = omega (arith, c.loop-i-test.true) in
    let last = get_or faces (length faces - 1) 0 in
    let below : All (λ f. f < last + 1) faces = below_last faces c.requires.rising some (last + 1) (omega arith) in
    let past : last + 1 ≤ w = (let l = c.requires.faces (length faces - 1) 0 (omega (arith, some)) in omega (arith, l)) in
    record {
      within = elim c.if-not-stands_at.branch [
        | then-not-stands_at b ↦ subst (λ n. n ≤ length before) (sym b.at-is) c.place_from-at.ensures
        | else-not-stands_at b ↦ subst (λ n. n ≤ length before) (sym b.at-is) (let s = c.stands_at.ensures.0 b.if-not-stands_at.false in omega (arith, s.0))
      ];
      done = elim c.if-not-stands_at.branch [
        | then-not-stands_at b ↦ subst (λ t. AreDoneTo w old t before faces (i + 1)) (sym b.table-is) (done_more w old before faces c.loop-i.table b.mark_face.new.table i b.mark_face.ensures done)
        | else-not-stands_at b ↦ subst (λ t. AreDoneTo w old t before faces (i + 1)) (sym b.table-is)
            (let s = c.stands_at.ensures.0 b.if-not-stands_at.false in done_there w old before faces c.loop-i.table i (c.place_from-at.result, s.0, s.1) done)
      ];
      reach = elim c.if-not-stands_at.branch [
        | then-not-stands_at b ↦ subst (λ t. IsReach w t c.if-not-stands_at.reach) (sym b.table-is) (subst (λ r. IsReach w b.mark_face.new.table r) (sym b.reach-is)
            (reached w c.loop-i.table b.mark_face.new.table c.loop-i.reach b.raise.new.reach faces i (last + 1) below past b.mark_face.ensures b.raise.ensures reach))
        | else-not-stands_at b ↦ subst (λ t. IsReach w t c.if-not-stands_at.reach) (sym b.table-is) (subst (λ r. IsReach w c.loop-i.table r) (sym b.reach-is) reach)
      ];
    }

pub returns-clause-adds : goal.returns-clause-adds
returns-clause-adds c = done_all c.args.width c.args.table.now c.args.before.now c.args.faces.now c.loop-i.table c.loop-i.i c.loop-i-test.false c.requires.before c.requires.rising c.requires.marked c.loop-i.invariant.done
