use Rattle.std.proofs.Common.{refl}
use Rattle.ff_solve.proofs.Boards.{clash_as, none_reported}
use Rattle.ff_solve.proofs.reports.report_clash.Goals as goal

pub invariant_of-result : goal.invariant_of-result
invariant_of-result c = record { valid = none_reported _ _ c.no_parts-parts.ensures c.no_outcomes-outcomes.ensures }

pub returns : goal.returns
returns c = record {
  clashes = c.requires.clash.2;
  ends = refl;
  log = c.in_ok-log.log.lines;
  accepted = c.in_ok-log.ensures;
  is = clash_as _ _ _ _ _ c.in_ok-log.log.lines c.in_ok-head.ensures c.in_ok-end.ensures c.no_parts-parts.ensures c.no_outcomes-outcomes.ensures;
}
