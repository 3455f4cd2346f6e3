use Rattle.std.proofs.Common.{sym, ◌∙◌, arith}
use Rattle.ff_refute.specs.Givens.{pin_claims}
use Rattle.ff_refute.proofs.Marked.{entry_within}
use Rattle.ff_refute.proofs.Written.{stands_by, written_given, written_forced, forced_within, given_within}
use Rattle.ff_refute.proofs.making.Maker.write_fact.Goals as goal

pub bounds-marks-var : goal.bounds-marks-var
bounds-marks-var c =
    let l = entry_within c.args.source.now.facts.now c.args.order.now c.requires.order.each c.args.n (record { level = 0; var = 0 }) c.requires.n in
    let w = c.requires.wide in
    omega (arith, l, w)

pub give-requires-clause-i : goal.give-requires-clause-i
give-requires-clause-i c = given_within c.args.source.now.givens.now c.in-Given.i _ _
    (stands_by _ c.args.source.now.case.now.system.constraints c.args.source.now.givens.now c.args.source.now.facts.now c.requires.rule _ c.in-Some.fact (sym c.fact.ensures ∙ c.in-Some.is) _ c.in-Given.is).1

pub force-requires-clause-c : goal.force-requires-clause-c
force-requires-clause-c c = forced_within c.args.source.now.case.now.system.constraints c.args.source.now.facts.now c.in-Forced.c _ _ _
    (stands_by _ c.args.source.now.case.now.system.constraints c.args.source.now.givens.now c.args.source.now.facts.now c.requires.rule _ c.in-Some.fact (sym c.fact.ensures ∙ c.in-Some.is) _ c.in-Forced.is).1

pub returns-in_ok-give-in-Given : goal.returns-in_ok-give-in-Given
returns-in_ok-give-in-Given c =
    let case = c.args.source.now.case.now in
    written_given case (pin_claims case c.args.source.now.givens.now) c.args.source.now.facts.now c.args.order.now c.args.marks.now c.requires.order c.args.n
    c.args.self.now c.give.new.self c.requires.written c.args.source.now.givens.now c.in-Given.i c.in-Some.fact (sym c.fact.ensures ∙ c.in-Some.is)
    (stands_by _ case.system.constraints c.args.source.now.givens.now c.args.source.now.facts.now c.requires.rule _ c.in-Some.fact (sym c.fact.ensures ∙ c.in-Some.is) _ c.in-Given.is).1
    c.in_ok-give-in-Given.ensures

pub returns-in_ok-force-in-Forced : goal.returns-in_ok-force-in-Forced
returns-in_ok-force-in-Forced c =
    let case = c.args.source.now.case.now in
    written_forced case (pin_claims case c.args.source.now.givens.now) c.args.source.now.facts.now c.args.order.now c.args.marks.now c.requires.order c.requires.closed c.args.n
    c.requires.n c.if-not-marks-var.false
    c.args.self.now c.force.new.self c.requires.written c.in-Some.fact (sym c.fact.ensures ∙ c.in-Some.is) c.in-Forced.c c.in-Forced.is
    (stands_by _ case.system.constraints c.args.source.now.givens.now c.args.source.now.facts.now c.requires.rule _ c.in-Some.fact (sym c.fact.ensures ∙ c.in-Some.is) _ c.in-Forced.is).1
    c.in_ok-force-in-Forced.ensures
