use Rattle.std.proofs.Common.{◌≡◌, length, take}
use Rattle.ff_journal.specs.Journals.{commands_of, script_of}
use Rattle.ff_bench.specs.Views.{IsPassOf}
use Rattle.ff_bench.proofs.playing.play.Given as goal

abbrev pub invariant-loop-index : goal.invariant-loop-index
invariant-loop-index g l = record {
  of : IsPassOf l.bench l.pass;
  viewer : l.pass.viewer ≡ l.viewer;
  whole : l.pass.commands ≡ length (script_of l.scripts l.viewer);
  said : commands_of l.viewer l.pass.seen ≡ take l.index (script_of l.scripts l.viewer);
}
