use Rattle.std.proofs.Common.{◌≡◌, ◌++◌, string_bytes}
use Rattle.ff_report.specs.Heads.{lines_of, face_of}
use Rattle.ff_report.proofs.heads.push_faces.Given as goal

abbrev pub invariant-loop-f : goal.invariant-loop-f
invariant-loop-f l = string_bytes l.text ≡ string_bytes l.fn.text ++ lines_of (face_of l.faces l.folded) l.f
