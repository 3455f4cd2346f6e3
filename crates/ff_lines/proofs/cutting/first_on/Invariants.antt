use Rattle.std.proofs.Common.{ℕ, ◌<◌}
use Rattle.ff_lines.specs.Heads.{IsOnAt}
use Rattle.ff_lines.proofs.cutting.first_on.Given as goal

abbrev pub invariant-loop-b : goal.invariant-loop-b
invariant-loop-b l = (x : ℕ) → x < l.b → IsOnAt l.l l.points x → ⊥
