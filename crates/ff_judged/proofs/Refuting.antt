-- What is answered to the log of an input is what is answered to its bytes.
use Rattle.std.proofs.Common.{◌≡◌, ℕ, List, subst}
use Rattle.ff_types.specs.declared.pins.Pin.{Pin}
use Rattle.ff_types.specs.declared.faces.Faces.{Faces}
use Rattle.ff_types.specs.declared.faces.Folded.{Folded}
use Rattle.ff_types.specs.Sheets.{Sheet, sheet_of}
use Rattle.ff_borders.specs.Folded.{OfEachFolded}
use Rattle.ff_checker.specs.declared.verdicts.Verdict.TheVariants.{Accepted}
use Rattle.ff_checker.specs.LogLaws.{AcceptedLogsRefute, HasNoStacking}
use Rattle.ff_read.specs.declared.checks.CheckInput.{CheckInput}
use Rattle.ff_judged.specs.declared.judging.Judgement.{Judgement}
use Rattle.ff_judged.specs.declared.judging.Judgement.TheVariants.{Checked}
use Rattle.ff_judged.specs.Judgements.{IsJudged, JudgesLog, ReadsSheet}

-- an accepted log leaves no stacking
refutes : (g : Sheet) (pins : List Pin) (texts : List (List ℕ)) (j : Judgement) → AcceptedLogsRefute g → JudgesLog g pins texts j
    → j ≡ Checked Accepted → HasNoStacking g pins
refutes g pins texts j law judges e = by (subst (λ (k : Judgement). JudgesLog g pins texts k) e judges) where
  by : JudgesLog g pins texts (Checked Accepted) → HasNoStacking g pins
  by (lines, spelled, closes) = law pins lines closes

pub is_judged : (bytes : List ℕ) (input : CheckInput) (faces : Faces) (folded : Folded) (j : Judgement) → OfEachFolded AcceptedLogsRefute → ReadsSheet bytes input faces folded
    → JudgesLog (sheet_of input.pattern faces folded) input.pins input.lines j → IsJudged bytes j
is_judged bytes input faces folded j law reads judges = record {
  input = input;
  faces = faces;
  folded = folded;
  reads = reads;
  judges = judges;
  refutes = refutes (sheet_of input.pattern faces folded) input.pins input.lines j (law input.pattern faces folded reads.folds) judges;
}
