use Rattle.ff_types.specs.Sheets.{sheet_of}
use Rattle.ff_answers.proofs.Pairs.{some_pairs}
use Rattle.ff_answers.proofs.layers.some_pairs.Goals as goal

pub returns : goal.returns
returns c = λ pattern faces folded h. some_pairs (sheet_of pattern faces folded)
