use Rattle.std.proofs.Common.{◌≡◌, ◌+◌, ◌*◌, ◌≤◌, length}
use Rattle.ff_told.specs.Paged.{KeepAllPages}
use Rattle.ff_told.specs.Earlier.{turns_in, AreAlongside, HaveTakenFrom}
use Rattle.ff_told.proofs.Earlier.{IsFrontOf}
use Rattle.ff_told.proofs.keeping.take_over.Given as goal

abbrev pub invariant-loop-one : goal.invariant-loop-one
invariant-loop-one l = record {
  front : IsFrontOf l.earlier.items l.fn.earlier.items;
  ordered : AreAlongside l.case l.pages l.earlier.items;
  keep : KeepAllPages l.case l.fn.pages l.pages;
  taken : HaveTakenFrom l.case.system.constraints l.fn.earlier.items (length l.earlier.items) l.fn.pages l.pages;
  turns : turns_in l.pages + l.dropped + turns_in l.earlier.items ≡ turns_in l.fn.pages + turns_in l.fn.earlier.items;
  few : l.dropped + length l.earlier.items * 1000000000 ≤ length l.fn.earlier.items * 1000000000;
}

abbrev pub decreases-loop-one : goal.decreases-loop-one
decreases-loop-one l = length l.earlier.items
