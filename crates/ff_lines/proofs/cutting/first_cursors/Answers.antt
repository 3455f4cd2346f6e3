use Rattle.std.proofs.Common.{◌≡◌, ◌+◌, length, arith, ap, ◌∙◌}
use Rattle.std.proofs.lemmas.List.{length_push}
use Rattle.std.proofs.lemmas.Option.{slice_get_within, slice_get-get_or}
use Rattle.ff_lines.proofs.Cursors.{cursors_more}
use Rattle.ff_lines.proofs.cutting.first_cursors.Goals as goal

pub loop-i-preserved : goal.loop-i-preserved
loop-i-preserved c = let v = c.loop-i.invariant in rw c.in_ok-push.ensures.items (record {
  count = length_push c.loop-i.cursors.items _ ∙ ap (λ n. n + 1) v.count;
  each = cursors_more c.args.lines.now c.args.points.now c.loop-i.i _ c.loop-i.cursors.items _ v.count (slice_get-get_or c.args.lines.now c.loop-i.i _ c.loop-i-test.true) v.each c.first_on.ensures;
})

pub returns : goal.returns
returns c =
    let v = c.loop-i.invariant in
    let e : c.loop-i.i ≡ length c.args.lines.now = omega (arith, c.loop-i-test.false, c.loop-i.auto.i-end) in
    record {
      as_many = v.count ∙ e;
      past = λ k m less is. absurd (omega (arith, less));
      left = λ k m from is. v.each k m (let w = slice_get_within c.args.lines.now k m is in omega (arith, w, e)) is;
    }
