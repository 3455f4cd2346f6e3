use Rattle.ff_log.proofs.NumberLemmas.{first_digit_of}
use Rattle.ff_log.proofs.numbers.starts_well.Goals as goal

pub returns-in-len1-up : goal.returns-in-len1-up
returns-in-len1-up c = first_digit_of c.as_bytes.result.now c.args.text.now c.as_bytes.ensures.value c.in-len1-up.len_at_least
