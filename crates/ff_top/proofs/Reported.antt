-- The report of what bytes come to says which stackings keep the creases.
use Rattle.std.proofs.Common.{ℕ, List, Result, Ok, Err, IfOk}
use Rattle.ff_types.specs.declared.faces.Faces.{Faces}
use Rattle.ff_types.specs.declared.faces.Folded.{Folded}
use Rattle.ff_types.specs.declared.cases.Case.{Case}
use Rattle.ff_types.specs.Sheets.{sheet_of}
use Rattle.ff_types.proofs.FoldedEdges.{ring_below}
use Rattle.ff_report.specs.declared.lines.Last.{Last}
use Rattle.ff_tables.specs.declared.memory.NoMemory.{NoMemory}
use Rattle.ff_solve.specs.declared.reports.Report.{Report}
use Rattle.ff_solve.specs.Reports.{IsReport}
use Rattle.ff_solve.specs.Written.{report_text}
use Rattle.ff_solve.proofs.Stacked.{starts_are_stackings, start_clash_has_none}
use Rattle.ff_propagate.specs.Facts.{value_at}
use Rattle.ff_parts.specs.Lists.{vars_of}
use Rattle.ff_report.specs.Heads.{FitFolding}
use Rattle.ff_top.specs.Solving.{ReadsProblem, IsSolved}

pub solved : (bytes : List ℕ) (faces : Faces) (folded : Folded) (case : Case) (budget : ℕ) (l : Last) (text : List ℕ) → ReadsProblem bytes faces folded case
    → IsReport faces folded case budget l text → IsSolved bytes budget l text
solved bytes faces folded case budget l text reads report = record {
  faces = faces;
  folded = folded;
  case = case;
  reads = reads;
  report = report;
  clash = λ c. start_clash_has_none (sheet_of reads.pattern faces folded) case reads.problem.true_to c.clashes;
  choices = λ b. starts_are_stackings (sheet_of reads.pattern faces folded) case reads.problem.case_is reads.problem.true_to (value_at b.facts) (vars_of b.parts) b.factors;
}

pub report_solved : (bytes : List ℕ) (faces : Faces) (folded : Folded) (case : Case) (budget : ℕ) → ReadsProblem bytes faces folded case
    → (r : Result Report NoMemory) → IfOk r (λ x. IsReport faces folded case budget x.last (report_text x.head x.parts x.outcomes x.end))
    → IfOk r (λ x. IsSolved bytes budget x.last (report_text x.head x.parts x.outcomes x.end))
report_solved bytes faces folded case budget reads (Ok x) h = solved bytes faces folded case budget x.last (report_text x.head x.parts x.outcomes x.end) reads h
report_solved bytes faces folded case budget reads (Err n) h = tt

-- a point for each corner of each face
pub fits : (bytes : List ℕ) (faces : Faces) (folded : Folded) (case : Case) → ReadsProblem bytes faces folded case → FitFolding faces folded
fits bytes faces folded case reads = record {
  flags = reads.problem.folds.folding.as_many_flags;
  points = λ f i l m. ring_below reads.problem.folds f l i 0 m;
}
