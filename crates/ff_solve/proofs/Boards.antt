-- The report of a board from its parts.
use Rattle.std.proofs.Common.{◌≡◌, ℕ, List, [], ◌++◌, ◌∙◌, length, Option, Some, Result, Ok, Err, IfOk, inl, inr, refl, ap, ap₂, sym, arith}
use Rattle.std.proofs.lemmas.List.{length-map}
use Rattle.ff_types.specs.declared.faces.Faces.{Faces}
use Rattle.ff_types.specs.declared.faces.Folded.{Folded}
use Rattle.ff_types.specs.declared.cases.Case.{Case}
use Rattle.ff_propagate.specs.declared.facts.Fact.{Fact}
use Rattle.ff_propagate.specs.declared.facts.Closed.TheVariants.{Board}
use Rattle.ff_propagate.specs.declared.parts.Part.{Part}
use Rattle.ff_propagate.specs.Facts.{value_at}
use Rattle.ff_propagate.specs.Closing.{ClosesTo}
use Rattle.ff_propagate.specs.Parts.{AreParts}
use Rattle.ff_parts.specs.Lists.{vars_of}
use Rattle.ff_parts.specs.Factors.{FactorsFor}
use Rattle.ff_report.specs.declared.parts.PartOutcome.{PartOutcome}
use Rattle.ff_report.specs.Heads.{lines_of, head}
use Rattle.ff_report.specs.declared.lines.Last.{Last}
use Rattle.ff_report.specs.Summaries.{summary_lines}
use Rattle.ff_log.specs.declared.logs.LogLine.{LogLine}
use Rattle.ff_report.specs.Lines.{last_of, parts_line, clash_lines, last_line, part_at, board_text}
use Rattle.ff_solve.specs.Outcomes.{AreOutcomes}
use Rattle.ff_tables.specs.declared.memory.NoMemory.{NoMemory}
use Rattle.ff_solve.specs.declared.reports.Report.{Report}
use Rattle.ff_solve.specs.declared.summaries.Summary.{Summary}
use Rattle.ff_solve.specs.Summaries.{IsBoardSummary, IsClashSummary, IsSummary}
use Rattle.ff_solve.specs.Reports.{IsBoardReport, IsClashReport, IsReport}
use Rattle.ff_solve.specs.Written.{AreReported, report_text}
use Rattle.ff_solve.proofs.Pieces.{whole}

pub report_of_board : (faces : Faces) (folded : Folded) (case : Case) (budget : ℕ) (facts : List (Option Fact)) (parts : List Part) (outcomes : List PartOutcome) (last : Last) (text : List ℕ)
    → ClosesTo case.system.vars case.system.constraints case.starts (Board facts)
    → AreParts case.system.vars case.system.constraints (value_at facts) (vars_of parts)
    → FactorsFor case.system.vars case.system.constraints (value_at facts) (vars_of parts)
    → AreOutcomes case (value_at facts) budget parts outcomes → last ≡ last_of outcomes
    → text ≡ head faces folded case (Some facts) ++ parts_line (length parts) ++ lines_of (part_at (vars_of parts) outcomes) (length parts) ++ last_line (last_of outcomes)
    → IsBoardReport faces folded case budget last text
report_of_board faces folded case budget facts parts outcomes last text closes are factors o e t = record {
  facts = facts;
  parts = parts;
  outcomes = outcomes;
  wide = closes.0.wide;
  closure = closes.1;
  parts_are = are;
  factors = factors case.starts closes.1;
  outcomes_are = o;
  ends = e;
  is = t ∙ ap (λ n. head faces folded case (Some facts) ++ parts_line n ++ lines_of (part_at (vars_of parts) outcomes) n ++ last_line (last_of outcomes)) (sym (length-map parts (λ (p : Part). p.vars)));
}

-- the summary of a board from its parts
pub summary_of_board : (count : ℕ) (faces : Faces) (folded : Folded) (case : Case) (budget : ℕ) (facts : List (Option Fact)) (parts : List Part) (outcomes : List PartOutcome) (last : Last) (text : List ℕ)
    → ClosesTo case.system.vars case.system.constraints case.starts (Board facts)
    → AreParts case.system.vars case.system.constraints (value_at facts) (vars_of parts)
    → FactorsFor case.system.vars case.system.constraints (value_at facts) (vars_of parts)
    → AreOutcomes case (value_at facts) budget parts outcomes → last ≡ last_of outcomes
    → text ≡ summary_lines count faces folded case (Some facts) (length parts) last
    → IsBoardSummary count faces folded case budget last text
summary_of_board count faces folded case budget facts parts outcomes last text closes are factors o e t = record {
  whole = board_text faces folded case facts (vars_of parts) outcomes;
  report = record {
    facts = facts;
    parts = parts;
    outcomes = outcomes;
    wide = closes.0.wide;
    closure = closes.1;
    parts_are = are;
    factors = factors case.starts closes.1;
    outcomes_are = o;
    ends = e;
    is = refl;
  };
  is = t;
}

-- the text of its pieces
pub text_as : (first head other : List ℕ) (parts : List Part) (outcomes : List PartOutcome) (last : Last) (count end : List ℕ) → first ≡ head ++ count → head ≡ other
    → count ≡ parts_line (length parts) → end ≡ last_line last → last ≡ last_of outcomes
    → report_text first parts outcomes end ≡ other ++ parts_line (length parts) ++ lines_of (part_at (vars_of parts) outcomes) (length parts) ++ last_line (last_of outcomes)
text_as first head other parts outcomes last count end joined a b d e =
    whole first parts outcomes end
    ∙ ap (λ h. h ++ lines_of (part_at (vars_of parts) outcomes) (length parts) ++ end) (joined ∙ ap (λ h. h ++ count) a ∙ ap (λ n. other ++ n) b)
    ∙ ap (λ l. other ++ parts_line (length parts) ++ lines_of (part_at (vars_of parts) outcomes) (length parts) ++ l) (d ∙ ap last_line e)

-- the text where the closure clashes
pub clash_as : (first other end : List ℕ) (parts : List Part) (outcomes : List PartOutcome) (log : List LogLine) → first ≡ other → end ≡ clash_lines log → parts ≡ [] → outcomes ≡ []
    → report_text first parts outcomes end ≡ other ++ clash_lines log
clash_as first other end parts outcomes log a b p o = ap₂ (λ (ps : List Part) (os : List PartOutcome). report_text first ps os end) p o ∙ ap₂ (λ (s t : List ℕ). s ++ t) a b

-- no parts
pub none_reported : (parts : List Part) (outcomes : List PartOutcome) → parts ≡ [] → outcomes ≡ [] → AreReported parts outcomes
none_reported parts outcomes p o = record {
  as_many = ap length o ∙ sym (ap length p);
  few = let e : length parts ≡ 0 = ap length p in omega (arith, e);
}

pub clash_is_report : (faces : Faces) (folded : Folded) (case : Case) (budget : ℕ) (r : Result Report NoMemory)
    → IfOk r (λ x. IsClashReport faces folded case x.last (report_text x.head x.parts x.outcomes x.end))
    → IfOk r (λ x. IsReport faces folded case budget x.last (report_text x.head x.parts x.outcomes x.end))
clash_is_report faces folded case budget (Ok x) h = inl h
clash_is_report faces folded case budget (Err e) h = tt

pub board_is_summary : (count : ℕ) (faces : Faces) (folded : Folded) (case : Case) (budget : ℕ) (r : Result Summary NoMemory)
    → IfOk r (λ x. IsBoardSummary count faces folded case budget x.last x.text) → IfOk r (λ x. IsSummary count faces folded case budget x.last x.text)
board_is_summary count faces folded case budget (Ok x) h = inr h
board_is_summary count faces folded case budget (Err e) h = tt

pub clash_is_summary : (count : ℕ) (faces : Faces) (folded : Folded) (case : Case) (budget : ℕ) (r : Result Summary NoMemory)
    → IfOk r (λ x. IsClashSummary count faces folded case x.last x.text) → IfOk r (λ x. IsSummary count faces folded case budget x.last x.text)
clash_is_summary count faces folded case budget (Ok x) h = inl h
clash_is_summary count faces folded case budget (Err e) h = tt
