use Rattle.std.proofs.Common.{rules, arith, sym, ◌∙◌}
use Rattle.ff_journal.proofs.Creases.{least_found, none_more, none_found}
use Rattle.ff_journal.proofs.explaining.least_crease.Goals as goal

pub returns-in-Some : goal.returns-in-Some
returns-in-Some c = least_found c.args.case.now c.as_slice-starts.result.now c.args.var c.loop-i.i c.in-Some.e _ c.as_slice-starts.ensures
    c.loop-i-test.true c.loop-i.invariant (sym c.crease_of.ensures ∙ c.in-Some.is)

pub loop-i-preserved : goal.loop-i-preserved
loop-i-preserved c = none_more c.as_slice-starts.result.now c.args.var c.loop-i.i _ c.loop-i-test.true c.loop-i.invariant
    (sym c.crease_of.ensures ∙ search rules)

pub returns : goal.returns
returns c = none_found c.args.case.now c.as_slice-starts.result.now c.args.var c.loop-i.i c.as_slice-starts.ensures (omega arith) c.loop-i.invariant
