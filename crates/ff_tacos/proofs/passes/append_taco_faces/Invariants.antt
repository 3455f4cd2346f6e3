use Rattle.std.proofs.Common.{◌≡◌, ◌≤◌, ◌++◌, length, take}
use Rattle.ff_types.specs.Sheets.{sheet_of}
use Rattle.ff_types.specs.declared.limits.TheConstants.{MOST_CONSTRAINTS}
use Rattle.ff_tacos.specs.Making.{given, taco_face}
use Rattle.ff_tacos.proofs.passes.append_taco_faces.Given as goal

abbrev pub invariant-loop-i : goal.invariant-loop-i
invariant-loop-i l = record {
  appended : l.list ≡ l.initial.list
      ++ given (sheet_of l.pattern l.faces l.folded) l.pairs (taco_face (sheet_of l.pattern l.faces l.folded))
      (take l.i l.edge_faces);
  few : length l.list ≤ MOST_CONSTRAINTS;
}
