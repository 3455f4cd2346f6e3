use Rattle.std.proofs.Common.{arith}
use Rattle.ff_problem.proofs.FewInCases.{few_constraints, few_starts}
use Rattle.ff_top.proofs.Reported.{fits, report_solved}
use Rattle.ff_top.proofs.solving.report_on.Goals as goal

pub report_of-requires-clause-folding : goal.report_of-requires-clause-folding
report_of-requires-clause-folding c = fits _ _ _ _ c.requires

pub report_of-requires-clause-few : goal.report_of-requires-clause-few
report_of-requires-clause-few c =
    let n = few_constraints c.requires.pattern _ _ _ c.requires.problem in
    let s = few_starts c.requires.pattern _ _ _ c.requires.problem in
    (omega (arith, n), omega (arith, s))

pub returns : goal.returns
returns c = report_solved _ _ _ _ _ c.requires _ c.report_of.ensures
