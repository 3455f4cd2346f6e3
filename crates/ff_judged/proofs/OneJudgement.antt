-- The answer to the bytes of `check` is one.
use Rattle.std.proofs.Common.{◌≡◌, inl, inr, ◌∙◌, ℕ, Bool, List, ap, sym, subst, arith}
use Rattle.ff_types.specs.declared.patterns.Pattern.{Pattern}
use Rattle.ff_types.specs.declared.pins.Pin.{Pin}
use Rattle.ff_types.specs.declared.faces.Faces.{Faces}
use Rattle.ff_types.specs.declared.faces.Folded.{Folded}
use Rattle.ff_types.specs.declared.refusals.Refusal.{Refusal}
use Rattle.ff_types.specs.FoldedPatterns.{IsFoldedPattern}
use Rattle.ff_types.specs.Sheets.{Sheet, sheet_of}
use Rattle.ff_problem.specs.Problems.{RefusesProblem}
use Rattle.ff_problem.proofs.OneProblem.{faces_same, folded_same, folded_not_refused, problem_refusal_is_one}
use Rattle.ff_problem.proofs.SamePatterns.{folds_there, refused_there, sheets}
use Rattle.ff_report.specs.Refusals.{refusal_line}
use Rattle.ff_log.specs.declared.logs.LogLine.{LogLine}
use Rattle.ff_log.specs.Grounds.{sheet_ground}
use Rattle.ff_log.specs.Texts.{TextsAreOne}
use Rattle.ff_checker.specs.Verdicts.{IsVerdict}
use Rattle.ff_checker.specs.LogLaws.{VerdictsAreOne}
use Rattle.ff_read.specs.declared.checks.CheckInput.{CheckInput}
use Rattle.ff_read.specs.Checks.{IsCheck}
use Rattle.ff_read.specs.Readings.{CheckIsOne}
use Rattle.ff_judged.specs.declared.judging.Judgement.{Judgement}
use Rattle.ff_judged.specs.declared.judging.Judgement.TheVariants.{BadLine, Checked}
use Rattle.ff_judged.specs.Sheets.{RefusesSheet}
use Rattle.ff_judged.specs.Judgements.{IsJudged, IsRefused, JudgesLog, RefusesRead, accepts}
use Rattle.ff_judged.specs.Lines.{judgement_line}
use Rattle.ff_judged.specs.Answers.{AnswersLog, OneJudgement}

-- a refusal of the sheet is one of the pattern
whole_refusal : (p : Pattern) (r : Refusal) → RefusesSheet p r → RefusesProblem p r
whole_refusal p r (inl h) = inl h
whole_refusal p r (inr h) = inr (inl h)

module _ (reads : CheckIsOne) (texts : TextsAreOne) (verdicts : VerdictsAreOne) where
  -- ---- refusals

  refused_as : (bytes : List ℕ) (a b : CheckInput) (r : Refusal) → IsCheck bytes a → IsCheck bytes b → RefusesSheet a.pattern r → RefusesProblem b.pattern r
  refused_as bytes a b r x y h = let e = reads.pattern bytes a b x y in refused_there a.pattern b.pattern e.0 e.1 e.2 r (whole_refusal a.pattern r h)

  one_read : (bytes : List ℕ) (q r : Refusal) → RefusesRead bytes q → RefusesRead bytes r → q ≡ r
  one_read bytes q r (inl a) (inl b) = reads.refusal bytes q r a b
  one_read bytes q r (inl a) (inr (input, read, b)) = absurd (reads.not_both bytes input q read a)
  one_read bytes q r (inr (input, read, a)) (inl b) = absurd (reads.not_both bytes input r read b)
  one_read bytes q r (inr (input, read, a)) (inr (other, read2, b)) =
      problem_refusal_is_one other.pattern q r (refused_as bytes input other q read read2 a) (whole_refusal other.pattern r b)

  one_refusal : (bytes : List ℕ) (q r : Refusal) → IsRefused bytes q → IsRefused bytes r → q ≡ r
  one_refusal bytes q r (inl a) (inl b) = a.1 ∙ sym b.1
  one_refusal bytes q r (inl a) (inr b) = absurd (omega (arith, a.0, b.0))
  one_refusal bytes q r (inr a) (inl b) = absurd (omega (arith, a.0, b.0))
  one_refusal bytes q r (inr a) (inr b) = one_read bytes q r a.1 b.1

  -- the folded sheet of one input is that of the other
  folds_as : (bytes : List ℕ) (a b : CheckInput) (faces : Faces) (folded : Folded) → IsCheck bytes a → IsCheck bytes b → IsFoldedPattern a.pattern faces folded → IsFoldedPattern b.pattern faces folded
  folds_as bytes a b faces folded x y h = let e = reads.pattern bytes a b x y in folds_there a.pattern b.pattern e.0 e.1 e.2 faces folded h

  not_read_refused : (bytes : List ℕ) (r : Refusal) (j : Judgement) → RefusesRead bytes r → IsJudged bytes j → ⊥
  not_read_refused bytes r j (inl a) b = reads.not_both bytes b.input r b.reads.read a
  not_read_refused bytes r j (inr (input, read, a)) b = folded_not_refused input.pattern b.faces b.folded r
      (folds_as bytes b.input input b.faces b.folded b.reads.read read b.reads.folds) a

  not_refused : (bytes : List ℕ) (r : Refusal) (j : Judgement) → IsRefused bytes r → IsJudged bytes j → ⊥
  not_refused bytes r j (inl a) b = omega (arith, a.0, b.reads.within)
  not_refused bytes r j (inr a) b = not_read_refused bytes r j a.1 b

  -- ---- judgements

  judged_once : (g : Sheet) (pins : List Pin) (ts : List (List ℕ)) (j k : Judgement) → JudgesLog g pins ts j → JudgesLog g pins ts k → j ≡ k
  judged_once g pins ts (BadLine m) (BadLine n) a b = ap BadLine (texts.bad ts m n a b)
  judged_once g pins ts (BadLine m) (Checked v) a (lines, spelled, is) = absurd (texts.not_both ts lines m spelled a)
  judged_once g pins ts (Checked v) (BadLine n) (lines, spelled, is) b = absurd (texts.not_both ts lines n spelled b)
  judged_once g pins ts (Checked v) (Checked w) (lines, spelled, is) (others, spelled2, is2) = ap Checked (verdicts g pins lines v w is
      (subst (λ (ls : List LogLine). IsVerdict (sheet_ground g pins) ls w) (texts.lines ts others lines spelled2 spelled) is2))

  module _ (bytes : List ℕ) (j k : Judgement) (a : IsJudged bytes j) (b : IsJudged bytes k) where
    there : IsFoldedPattern b.input.pattern a.faces a.folded
    there = folds_as bytes a.input b.input a.faces a.folded a.reads.read b.reads.read a.reads.folds

    one_sheet : sheet_of a.input.pattern a.faces a.folded ≡ sheet_of b.input.pattern b.faces b.folded
    one_sheet = let e = reads.pattern bytes a.input b.input a.reads.read b.reads.read in
        sheets a.input.pattern b.input.pattern e.0 e.1 e.2 a.faces a.folded
        ∙ ap (λ (fs : Faces). sheet_of b.input.pattern fs a.folded) (faces_same b.input.pattern a.faces b.faces a.folded b.folded there b.reads.folds)
        ∙ ap (λ (d : Folded). sheet_of b.input.pattern b.faces d) (folded_same b.input.pattern a.faces b.faces a.folded b.folded there b.reads.folds)

    judges_there : JudgesLog (sheet_of b.input.pattern b.faces b.folded) b.input.pins b.input.lines j
    judges_there = let e = reads.members bytes a.input b.input a.reads.read b.reads.read in
        subst (λ (g : Sheet). JudgesLog g b.input.pins b.input.lines j) one_sheet
        (subst (λ (ps : List Pin). JudgesLog (sheet_of a.input.pattern a.faces a.folded) ps b.input.lines j) e.0
        (subst (λ (ts : List (List ℕ)). JudgesLog (sheet_of a.input.pattern a.faces a.folded) a.input.pins ts j) e.1 a.judges))

    one_judgement : j ≡ k
    one_judgement = judged_once (sheet_of b.input.pattern b.faces b.folded) b.input.pins b.input.lines j k judges_there b.judges

  -- ---- answers

  one_answers : (bytes : List ℕ) (a b : Bool) (x y : List ℕ) → AnswersLog bytes a x → AnswersLog bytes b y → (a ≡ b) × (x ≡ y)
  one_answers bytes a b x y (inl (e, (q, p, f))) (inl (d, (r, s, g))) = (e ∙ sym d, f ∙ ap refusal_line (one_refusal bytes q r p s) ∙ sym g)
  one_answers bytes a b x y (inl (e, (q, p, f))) (inr (j, judged, d, g)) = absurd (not_refused bytes q j p judged)
  one_answers bytes a b x y (inr (j, judged, d, g)) (inl (e, (q, p, f))) = absurd (not_refused bytes q j p judged)
  one_answers bytes a b x y (inr (j, judged, e, f)) (inr (k, judged2, d, g)) =
      let same = one_judgement bytes j k judged judged2 in (e ∙ ap accepts same ∙ sym d, f ∙ ap judgement_line same ∙ sym g)

  pub one_answer : OneJudgement
  one_answer bytes a b x y p q = one_answers bytes a b x y p q
