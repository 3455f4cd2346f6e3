use Rattle.std.proofs.Common.{◌≡◌, ℕ, length, true}
use Rattle.ff_planar.specs.Joining.{reached_at, AreLinked, unreached}
use Rattle.ff_planar.proofs.joining.spread.Given as goal

abbrev pub invariant-loop : goal.invariant-loop
invariant-loop l = record {
  as_many : length l.reached ≡ length l.fn.reached;
  first : reached_at l.reached 0 ≡ true;
  linked : (f : ℕ) → reached_at l.reached f ≡ true → AreLinked l.sides 0 f;
}

abbrev pub decreases-loop : goal.decreases-loop
decreases-loop l = unreached l.reached
