use Rattle.std.proofs.Common.{inl, inr, subst, sym, ◌∙◌}
use denote.Enum.Bare.{same_true}
use Rattle.ff_types.specs.contracts.patterns.Mark.{the_type}
use Rattle.ff_basics.proofs.Tests.{not_false}
use Rattle.ff_whole.specs.Places.{through}
use Rattle.ff_whole.specs.Meeting.{IsMeet}
use Rattle.ff_lines.proofs.Apart.{common_end}
use Rattle.ff_lines.proofs.TwoLines.{beside_plain, level_plain, one_meeting, plain_beside}
use Rattle.ff_lines.proofs.pairs.meeting_of.Goals as goal

pub returns-then-share_end : goal.returns-then-share_end
returns-then-share_end c = common_end c.args.k c.args.l (c.share_end.ensures c.if-share_end.true) (λ o. o.1 (same_true the_type tt _ _ (sym c.eq-2.ensures ∙ c.if-eq-2.true)))

pub returns-then-are_in_line : goal.returns-then-are_in_line
returns-then-are_in_line c = level_plain c.args.k c.args.l c.requires.first c.requires.second (c.are_in_line.ensures c.if-are_in_line.true)
    (λ o. o.1 (same_true the_type tt _ _ (sym c.eq.ensures ∙ c.if-eq.true)))

pub returns-then-are_beside : goal.returns-then-are_beside
returns-then-are_beside c = beside_plain c.args.k c.args.l c.requires.second (c.are_beside.ensures.0 c.if-are_beside.true)

pub returns-then-are_beside-2 : goal.returns-then-are_beside-2
returns-then-are_beside-2 c = plain_beside c.args.k c.args.l c.requires.first (c.are_beside-2.ensures.0 c.if-are_beside-2.true)

pub meeting_at-requires-clause-only : goal.meeting_at-requires-clause-only
meeting_at-requires-clause-only c =
    let k = c.args.k in let l = c.args.l in
    one_meeting k l c.requires.first c.requires.second
    (λ x. not_false _ c.if-are_beside.false (c.are_beside.ensures.1 (inl x))) (λ x. not_false _ c.if-are_beside.false (c.are_beside.ensures.1 (inr x)))
    (λ x. not_false _ c.if-are_beside-2.false (c.are_beside-2.ensures.1 (inl x))) (λ x. not_false _ c.if-are_beside-2.false (c.are_beside-2.ensures.1 (inr x))) c.in-Some.s
    (subst (λ a. IsMeet a (through l.p l.q) c.in-Some.s) c.through.ensures.value (subst (λ b. IsMeet c.through.result b c.in-Some.s) c.through-2.ensures.value c.in-Some.ensures))
