use Rattle.std.proofs.Common.{◌≡◌, subst, pos}
use Rattle.ff_whole.specs.Places.{slant}
use Rattle.ff_whole.specs.Meeting.{IsMeet}
use Rattle.ff_whole.proofs.Images.{distance_positive}
use Rattle.ff_edges.proofs.Clipping.{clip_second, crosses}
use Rattle.ff_edges.proofs.clips.clip_second.Goals as goal

pub returns-in-Some : goal.returns-in-Some
returns-in-Some c =
    clip_second c.args.p c.args.q (distance_positive c.args.p c.args.q c.requires.apart) c.args.line c.args.first c.args.second c.in-Some.end c.requires.part
    (subst (λ k. IsMeet k c.args.line c.in-Some.end) c.through.ensures.value c.in-Some.ensures)
    (c.is_left.ensures.0 c.if-not-is_left.false) c.requires.right

pub returns-in-None : goal.returns-in-None
returns-in-None c = absurd (crosses c.args.p c.args.q (distance_positive c.args.p c.args.q c.requires.apart) c.args.line c.args.second c.args.first
    c.requires.part.second.on c.requires.part.first.on c.requires.part.second.small.positive c.requires.part.first.small.positive
    c.requires.right (c.is_left.ensures.0 c.if-not-is_left.false) (subst (λ k. slant k c.args.line ≡ pos 0) c.through.ensures.value c.in-None.ensures))
