use Rattle.ff_log.specs.Grounds.{sheet_ground}
use Rattle.ff_checker.proofs.SomeVerdict.{some_verdict}
use Rattle.ff_checker.proofs.laws.some_verdict.Goals as goal

pub returns : goal.returns
returns c = λ g pins lines none. some_verdict (sheet_ground g pins) lines none
