use Rattle.std.proofs.Common.{◌≡◌, map, take, Some}
use Rattle.ff_viewer.specs.Grammar.{numbers}
use Rattle.ff_viewer.proofs.numbers.numbers_in.Given as goal

abbrev pub invariant-loop-word : goal.invariant-loop-word
invariant-loop-word l = numbers (map (λ s. s.now) (take l.word-index l.words)) ≡ Some l.list.items
