use Rattle.std.proofs.Common.{rules, arith}
use Rattle.ff_words.proofs.DigitLemmas.{number_read, number_refused}
use Rattle.ff_words.proofs.numbers.number.Goals as goal

pub returns-in-Ok : goal.returns-in-Ok
returns-in-Ok c = number_read c.args.most c.in-Ok.value c.args.text.now c.parse.result (search rules) (search rules) (omega arith) c.parse.ensures.value.0 c.in-Ok.is (omega arith) (omega arith)

pub returns-in_default-3 : goal.returns-in_default-3
returns-in_default-3 c = number_refused c.args.most c.args.text.now c.parse.result c.in_default.field-0 (search rules) (search rules) c.parse.ensures.value.0 (omega arith) c.in_default.is
