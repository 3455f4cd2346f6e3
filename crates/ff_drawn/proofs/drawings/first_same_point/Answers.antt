use Rattle.std.proofs.Common.{sym, ◌∙◌}
use Rattle.std.proofs.lemmas.Bool.{not-false, not-true}
use Rattle.ff_drawn.proofs.SamePoints.{has_seen_nothing, has_seen_more, first_again, none_again}
use Rattle.ff_drawn.proofs.drawings.first_same_point.Goals as goal

pub loop-v-init : goal.loop-v-init
loop-v-init c = has_seen_nothing _ _ c.new-seen.ensures.empty

pub returns-then-not-branch : goal.returns-then-not-branch
returns-then-not-branch c = first_again _ _ _ c.loop-v.invariant c.loop-v-test.true (not-false _ (sym c.in_ok-insert.ensures.added ∙ c.if-not-branch.true))

pub loop-v-preserved : goal.loop-v-preserved
loop-v-preserved c =
    has_seen_more _ _ _ _ c.loop-v.invariant (not-true _ (sym c.in_ok-insert.ensures.added ∙ c.if-not-branch.false)) c.in_ok-insert.ensures.updates.0

pub returns : goal.returns
returns c = none_again _ _ _ c.loop-v.invariant c.loop-v-test.false
