use Rattle.std.proofs.Common.{rules, arith}
use Rattle.ff_log.proofs.NumberLemmas.{number_refused}
use Rattle.ff_log.proofs.numbers.wide_number.Goals as goal

pub returns-in_default-2 : goal.returns-in_default-2
returns-in_default-2 c = number_refused 128 c.args.bound c.args.text.now c.parse.result c.in_default.field-0 (omega arith) (search rules) c.parse.ensures.value.0 c.in_default.is
