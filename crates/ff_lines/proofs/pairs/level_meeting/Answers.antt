use Rattle.std.proofs.Common.{sym, ◌∙◌}
use denote.Enum.Bare.{same_false, same_true}
use Rattle.ff_types.specs.contracts.patterns.Mark.{the_type}
use Rattle.ff_lines.proofs.TwoLines.{level_plain, no_segment, share_segment}
use Rattle.ff_lines.proofs.pairs.level_meeting.Goals as goal

pub returns-then-eq : goal.returns-then-eq
returns-then-eq c = level_plain c.args.k c.args.l c.requires.first c.requires.second c.requires.level (λ o. o.1 (same_true the_type tt _ _ (sym c.eq.ensures ∙ c.if-eq.true)))

pub returns-in-Some : goal.returns-in-Some
returns-in-Some c = (share_segment c.args.k c.args.l c.in-Some.field-0.0 c.in-Some.field-0.1 c.in-Some.ensures, same_false the_type _ _ (sym c.eq.ensures ∙ c.if-eq.false))

pub returns-in-None : goal.returns-in-None
returns-in-None c = level_plain c.args.k c.args.l c.requires.first c.requires.second c.requires.level (λ o. no_segment c.args.k c.args.l c.in-None.ensures o.0)
