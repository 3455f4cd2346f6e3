use Rattle.std.proofs.Common.{◌≡◌, length}
use Rattle.ff_refute.specs.Telling.{AreRoots}
use Rattle.ff_refute.proofs.parts.mark_steps.Given as goal

abbrev pub invariant-loop-i : goal.invariant-loop-i
invariant-loop-i l = (length l.marks ≡ length l.fn.marks) × AreRoots l.system.constraints l.steps l.i l.marks
