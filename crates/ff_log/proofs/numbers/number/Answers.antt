use Rattle.std.proofs.Common.{rules, arith}
use Rattle.ff_log.proofs.NumberLemmas.{number_refused}
use Rattle.ff_log.proofs.numbers.number.Goals as goal

pub returns-in-Err : goal.returns-in-Err
returns-in-Err c = number_refused 32 _ c.args.text.now c.parse.result c.in-Err.field-0 (omega arith) (search rules) c.parse.ensures.value.0 c.in-Err.is
