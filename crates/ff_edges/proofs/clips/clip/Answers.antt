use Rattle.std.proofs.Common.{arith, inl, inr}
use Rattle.ff_whole.specs.Places.{height}
use Rattle.ff_whole.proofs.Signs.{linear}
use Rattle.ff_whole.proofs.Images.{distance_positive}
use Rattle.ff_edges.proofs.Clipping.{clip_nothing, none_weaker, not_above, not_below}
use Rattle.ff_edges.proofs.clips.clip.Goals as goal

pub returns-then-is_right : goal.returns-then-is_right
returns-then-is_right c =
    let low = c.is_right.ensures.0 c.if-is_right.true in
    none_weaker c.clip_first.result _ _ _ (λ l. (omega (arith, linear), l)) c.clip_first.ensures

pub returns-then-is_right-2 : goal.returns-then-is_right-2
returns-then-is_right-2 c =
    let low = c.is_right-2.ensures.0 c.if-is_right-2.true in
    none_weaker c.clip_second.result _ _ _ (λ l. (l, omega (arith, linear))) c.clip_second.ensures

pub returns-then-is_left : goal.returns-then-is_left
returns-then-is_left c =
    clip_nothing c.args.p c.args.q (distance_positive c.args.p c.args.q c.requires.apart) c.args.line c.args.first c.args.second c.requires.part
    (record {
      first = not_below (height c.args.line c.args.first) c.is_right.result c.is_right.ensures c.if-is_right.false;
      second = not_below (height c.args.line c.args.second) c.is_right-2.result c.is_right-2.ensures c.if-is_right-2.false;
      one = inl (c.is_left.ensures.0 c.if-is_left.true);
    })

pub returns-then-is_left-2 : goal.returns-then-is_left-2
returns-then-is_left-2 c =
    clip_nothing c.args.p c.args.q (distance_positive c.args.p c.args.q c.requires.apart) c.args.line c.args.first c.args.second c.requires.part
    (record {
      first = not_below (height c.args.line c.args.first) c.is_right.result c.is_right.ensures c.if-is_right.false;
      second = not_below (height c.args.line c.args.second) c.is_right-2.result c.is_right-2.ensures c.if-is_right-2.false;
      one = inr (c.is_left-2.ensures.0 c.if-is_left-2.true);
    })

pub returns : goal.returns
returns c = (
  not_above (height c.args.line c.args.first) c.is_left.result c.is_left.ensures c.if-is_left.false,
  not_above (height c.args.line c.args.second) c.is_left-2.result c.is_left-2.ensures c.if-is_left-2.false,
)
