use Rattle.std.proofs.Common.{sym, ◌∙◌}
use Rattle.std.proofs.lemmas.Bool.{false≢true}
use Rattle.ff_planar.proofs.Boxes.{holds_rest, holds_more, not_less}
use Rattle.ff_planar.proofs.frames.holds_any.Goals as goal

pub returns-then-not-is_west_of : goal.returns-then-not-is_west_of
returns-then-not-is_west_of c = λ _. let r = c.requires in
    holds_rest c.args.points.now c.args.ring.now r.some c.args.frame r.frame c.args.spots.now r.spots c.args.start c.loop-j.j r.in_order c.loop-j-test.true (not_less _ _ (λ l. false≢true (sym c.if-not-is_west_of.true ∙ c.is_west_of.ensures.1 l))) c.loop-j.invariant

pub loop-j-preserved : goal.loop-j-preserved
loop-j-preserved c = let r = c.requires in
    holds_more c.args.points.now c.args.ring.now r.some c.args.frame r.frame c.args.spots.now r.spots c.args.start c.loop-j.j c.loop-j.invariant (c.holds.ensures c.if-holds.false)
