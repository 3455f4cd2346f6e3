use Rattle.std.proofs.Common.{rules, arith}
use Rattle.ff_viewer.proofs.Words.{nine_parse}
use Rattle.ff_viewer.proofs.numbers.number.Goals as goal

pub returns-in-Err : goal.returns-in-Err
returns-in-Err c = absurd (nine_parse c.args.text.now c.parse.result c.in-Err.field-0 (search rules) (search rules) (omega arith) c.parse.ensures.value.0 c.in-Err.is)
