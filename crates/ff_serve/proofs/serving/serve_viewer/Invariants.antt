use Rattle.std.proofs.Common.{◌≡◌, ℕ, ◌+◌, ◌*◌, ◌≤◌, length, take}
use Rattle.ff_core.specs.States.{StandsFor}
use Rattle.ff_serve.specs.Served.{AllPublished, AreServed, commands_in}
use Rattle.ff_serve.proofs.serving.serve_viewer.Given as goal

abbrev pub invariant-loop-index : goal.invariant-loop-index
invariant-loop-index g l = record {
  stands : StandsFor l.case l.core;
  few : length l.core.journal ≤ 1 + 2 * (commands_in (take l.viewer l.scripts) + l.index);
  all : AllPublished l.core.journal;
  served : AreServed l.scripts l.viewer l.index l.core.journal;
  budget : l.core.budget ≡ l.initial.core.budget;
}
