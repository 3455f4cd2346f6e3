-- The answer to words and input is one.
use Rattle.std.proofs.Common.{◌≡◌, ◌<◌, ◌⊎◌, inl, inr, ◌∙◌, ℕ, List, length, Option, Some, None, refl, ap, sym, subst, arith}
use Rattle.ff_types.specs.declared.limits.TheConstants.{MOST_BYTES}
use Rattle.ff_types.specs.declared.patterns.Pattern.{Pattern}
use Rattle.ff_types.specs.declared.faces.Faces.{Faces}
use Rattle.ff_types.specs.declared.faces.Folded.{Folded}
use Rattle.ff_types.specs.declared.cases.Case.{Case}
use Rattle.ff_types.specs.declared.refusals.Refusal.{Refusal}
use Rattle.ff_types.specs.declared.refusals.Refusal.TheVariants.{TooLong}
use Rattle.ff_read.specs.Read.{IsReadAs, RefusesBytes}
use Rattle.ff_read.proofs.OneReading.{reading_is_one}
use Rattle.ff_problem.specs.Problems.{RefusesProblem}
use Rattle.ff_problem.specs.Laws.{AreSameProblems}
use Rattle.ff_problem.proofs.OneProblem.{problem_is_one, problems_are_not_refused, problem_refusal_is_one}
use Rattle.ff_report.specs.Refusals.{refusal_line}
use Rattle.ff_report.specs.declared.lines.Last.{Last}
use Rattle.ff_report.specs.declared.lines.Last.TheVariants as last
use Rattle.ff_report.specs.Alike.{AreOneText}
use Rattle.ff_report.proofs.AlikeTexts.{same_one}
use Rattle.ff_solve.specs.Reports.{IsReport}
use Rattle.ff_solve.proofs.OneReport.{one_report}
use Rattle.ff_top.specs.Texts.{usage_line}
use Rattle.ff_words.specs.declared.jobs.Job.{Job}
use Rattle.ff_words.specs.declared.jobs.Job.TheVariants.{Solve, Check, Bench, Lines, Make}
use Rattle.ff_words.specs.Form.{job_named}
use Rattle.ff_top.specs.Benching.{AnswersBench, IsRefusedBench}
use Rattle.ff_top.specs.Solving.{ReadsProblem, ReadsRefused, IsRefused, IsSolved, AnswersSolve, status_of}
use Rattle.ff_top.specs.Answer.{IsAnswer, IsAnswerOfRun, AnswersTo, AnswersUsage, NoBench, OneAnswer}
use Rattle.ff_top.specs.declared.status.Status.{Status}
use Rattle.ff_top.specs.declared.status.Status.TheVariants.{Done, Impossible, Refused, Unfinished, ReadFault, WriteFault, NoMemory, Usage}
use Rattle.ff_problem.proofs.SamePatterns.{problem_there, refused_there}
use Rattle.ff_judged.specs.Answers.{OneJudgement}
use Rattle.ff_cut.specs.Answers.{OneDrawing}
use Rattle.ff_made.specs.Answers.{OneSummary}
use Rattle.ff_top.proofs.Modes.{check_no_fault, drawing_no_fault, make_no_fault, one_check, one_lines, one_make}

-- ---- refusals

refused_as : (input : List ℕ) (p q : Pattern) (r : Refusal) → IsReadAs input p → IsReadAs input q → RefusesProblem p r → RefusesProblem q r
refused_as input p q r a b h = let e = reading_is_one.pattern input p q a b in refused_there p q e.0 e.1 e.2 r h

one_inner : (input : List ℕ) (q r : Refusal) → RefusesBytes input q ⊎ ReadsRefused input q → RefusesBytes input r ⊎ ReadsRefused input r → q ≡ r
one_inner input q r (inl a) (inl b) = reading_is_one.refusal input q r a b
one_inner input q r (inl a) (inr b) = absurd (reading_is_one.not_both input b.pattern q b.read a)
one_inner input q r (inr a) (inl b) = absurd (reading_is_one.not_both input a.pattern r a.read b)
one_inner input q r (inr a) (inr b) = problem_refusal_is_one b.pattern q r (refused_as input a.pattern b.pattern q a.read b.read a.refused) b.refused

one_refusal : (input : List ℕ) (q r : Refusal) → IsRefused input q → IsRefused input r → q ≡ r
one_refusal input q r (inl a) (inl b) = a.1 ∙ sym b.1
one_refusal input q r (inl a) (inr b) = absurd (omega (arith, a.0, b.0))
one_refusal input q r (inr a) (inl b) = absurd (omega (arith, a.0, b.0))
one_refusal input q r (inr a) (inr b) = one_inner input q r a.1 b.1

not_inner : (input : List ℕ) (r : Refusal) (faces : Faces) (folded : Folded) (case : Case) → RefusesBytes input r ⊎ ReadsRefused input r → ReadsProblem input faces folded case → ⊥
not_inner input r faces folded case (inl a) s = reading_is_one.not_both input s.pattern r s.read a
not_inner input r faces folded case (inr a) s = problems_are_not_refused s.pattern faces folded case r s.problem (refused_as input a.pattern s.pattern r a.read s.read a.refused)

not_refused : (input : List ℕ) (r : Refusal) (faces : Faces) (folded : Folded) (case : Case) → IsRefused input r → ReadsProblem input faces folded case → ⊥
not_refused input r faces folded case (inl a) s = omega (arith, a.0, s.within)
not_refused input r faces folded case (inr a) s = not_inner input r faces folded case a.1 s

-- ---- reports

same_problem : (input : List ℕ) (faces others : Faces) (folded other : Folded) (case second : Case) → ReadsProblem input faces folded case → ReadsProblem input others other second
    → AreSameProblems faces others folded other case second
same_problem input faces others folded other case second a b =
    let e = reading_is_one.pattern input a.pattern b.pattern a.read b.read in
    problem_is_one b.pattern faces others folded other case second (problem_there a.pattern b.pattern e.0 e.1 e.2 faces folded case a.problem) b.problem

solved_once : (input : List ℕ) (budget : ℕ) (l m : Last) (x y : List ℕ) → IsSolved input budget l x → IsSolved input budget m y → (l ≡ m) × AreOneText x y
solved_once input budget l m x y a b = one_report b.faces b.folded a.case b.case budget l m x y same.alike there b.report where
  same : AreSameProblems a.faces b.faces a.folded b.folded a.case b.case
  same = same_problem input a.faces b.faces a.folded b.folded a.case b.case a.reads b.reads

  there : IsReport b.faces b.folded a.case budget l x
  there = subst (λ (d : Folded). IsReport b.faces d a.case budget l x) same.folded_are (subst (λ (fs : Faces). IsReport fs a.folded a.case budget l x) same.faces_are a.report)

-- ---- answers

-- refused, or solved
pub Views : ℕ → List ℕ → Status → List ℕ → Type 0
Views budget input s text = ((s ≡ Refused) × ((r : Refusal) × IsRefused input r × (text ≡ refusal_line r))) ⊎ ((l : Last) × (s ≡ status_of l) × IsSolved input budget l text)

view : (budget : ℕ) (input : List ℕ) (s : Status) (text : List ℕ) → AnswersSolve budget input s text → Views budget input s text
unfolding Views
view budget input Refused text h = inl (refl, h)
view budget input Done text h = inr (last.Done, refl, h)
view budget input Impossible text h = inr (last.Impossible, refl, h)
view budget input Unfinished text h = inr (last.Unfinished, refl, h)
view budget input ReadFault text h = absurd h
view budget input WriteFault text h = absurd h
view budget input NoMemory text h = absurd h
view budget input Usage text h = absurd h

pub one_view : (budget : ℕ) (input : List ℕ) (s t : Status) (x y : List ℕ) → Views budget input s x → Views budget input t y → (s ≡ t) × AreOneText x y
unfolding Views
one_view budget input s t x y (inl (e, (q, a, f))) (inl (d, (r, b, g))) = (e ∙ sym d, same_one x y (f ∙ ap refusal_line (one_refusal input q r a b) ∙ sym g))
one_view budget input s t x y (inl (e, (q, a, f))) (inr (l, d, b)) = absurd (not_refused input q b.faces b.folded b.case a b.reads)
one_view budget input s t x y (inr (l, d, b)) (inl (e, (q, a, f))) = absurd (not_refused input q b.faces b.folded b.case a b.reads)
one_view budget input s t x y (inr (l, d, a)) (inr (m, e, b)) = let o = solved_once input budget l m x y a b in (d ∙ ap status_of o.0 ∙ sym e, o.1)

usage_view : (s : Status) (text : List ℕ) → AnswersUsage s text → (s ≡ Usage) × (text ≡ usage_line)
usage_view Usage text h = (refl, h)
usage_view Done text h = absurd h
usage_view Impossible text h = absurd h
usage_view Refused text h = absurd h
usage_view Unfinished text h = absurd h
usage_view ReadFault text h = absurd h
usage_view WriteFault text h = absurd h
usage_view NoMemory text h = absurd h

one_usage : (s t : Status) (x y : List ℕ) → AnswersUsage s x → AnswersUsage t y → (s ≡ t) × AreOneText x y
one_usage s t x y a b = let u = usage_view s x a in let v = usage_view t y b in (u.0 ∙ sym v.0, same_one x y (u.1 ∙ sym v.1))

module _ (one_log : OneJudgement) (one_drawing : OneDrawing) (one_count : OneSummary) where
  one_to : (o : Option Job) (input : List ℕ) (s t : Status) (x y : List ℕ) → AnswersTo NoBench o input s x → AnswersTo NoBench o input t y → (s ≡ t) × AreOneText x y
  one_to None input s t x y a b = one_usage s t x y a b
  one_to (Some (Solve budget)) input s t x y a b = one_view budget input s t x y (view budget input s x a) (view budget input t y b)
  one_to (Some Check) input s t x y a b = one_check one_log input s t x y a b
  one_to (Some (Bench budget workers)) input s t x y a b = one_usage s t x y a b
  one_to (Some Lines) input s t x y a b = one_lines one_drawing input s t x y a b
  one_to (Some (Make count budget)) input s t x y a b = one_make one_count count budget s t x y a b

  pub one_answer : OneAnswer
  one_answer words input s t x y a b = one_to (job_named words) input s t x y a b

-- ---- no answer is a fault

-- what answers a workbench is no fault
NoFault : (ℕ → List ℕ → Status → List ℕ → Type 0) → Type 0
NoFault bench = (budget : ℕ) (input : List ℕ) (status : Status) (text : List ℕ) → bench budget input status text → (status ≡ WriteFault) ⊎ (status ≡ ReadFault) → ⊥

usage_no_fault : (status : Status) (text : List ℕ) → AnswersUsage status text → (status ≡ WriteFault) ⊎ (status ≡ ReadFault) → ⊥
usage_no_fault status text a (inl e) = subst (λ (s : Status). AnswersUsage s text) e a
usage_no_fault status text a (inr e) = subst (λ (s : Status). AnswersUsage s text) e a

solve_no_fault : (budget : ℕ) (input : List ℕ) (status : Status) (text : List ℕ) → AnswersSolve budget input status text → (status ≡ WriteFault) ⊎ (status ≡ ReadFault) → ⊥
solve_no_fault budget input status text a (inl e) = subst (λ (s : Status). AnswersSolve budget input s text) e a
solve_no_fault budget input status text a (inr e) = subst (λ (s : Status). AnswersSolve budget input s text) e a

bench_no_fault : NoFault AnswersBench
unfolding NoFault
bench_no_fault budget input status text a (inl e) = subst (λ (s : Status). AnswersBench budget input s text) e a
bench_no_fault budget input status text a (inr e) = subst (λ (s : Status). AnswersBench budget input s text) e a

no_bench_no_fault : NoFault NoBench
unfolding NoFault
no_bench_no_fault budget input status text a e = usage_no_fault status text a e

no_fault : (bench : ℕ → List ℕ → Status → List ℕ → Type 0) → NoFault bench → (o : Option Job) (input : List ℕ) (status : Status) (text : List ℕ) → AnswersTo bench o input status text
    → (status ≡ WriteFault) ⊎ (status ≡ ReadFault) → ⊥
unfolding NoFault
no_fault bench safe None input status text a e = usage_no_fault status text a e
no_fault bench safe (Some (Solve budget)) input status text a e = solve_no_fault budget input status text a e
no_fault bench safe (Some Check) input status text a e = check_no_fault input status text a e
no_fault bench safe (Some (Bench budget workers)) input status text a e = safe budget input status text a e
no_fault bench safe (Some Lines) input status text a e = drawing_no_fault input status text a e
no_fault bench safe (Some (Make count budget)) input status text a e = make_no_fault count budget status text a e

-- a predicate of answers none of which is a fault
pub record NeverFaults (answer : List ℕ → Status → List ℕ → Type 0) : Type 0 where
  pub never : (input : List ℕ) (status : Status) (text : List ℕ) → answer input status text → (status ≡ WriteFault) ⊎ (status ≡ ReadFault) → ⊥

pub alone_never_faults : (words : List (List ℕ)) → NeverFaults (IsAnswer words)
alone_never_faults words = record { never = λ input status text a e. no_fault NoBench no_bench_no_fault (job_named words) input status text a e }

pub run_never_faults : (words : List (List ℕ)) → NeverFaults (IsAnswerOfRun words)
run_never_faults words = record { never = λ input status text a e. no_fault AnswersBench bench_no_fault (job_named words) input status text a e }

-- ---- the answer by the job

pub refused_solve : (budget : ℕ) (input : List ℕ) (s : Status) (text : List ℕ) → MOST_BYTES < length input → (s ≡ Refused) × (text ≡ refusal_line TooLong) → AnswersSolve budget input s text
refused_solve budget input s text l h = subst (λ (t : Status). AnswersSolve budget input t text) (sym h.0) (TooLong, inl (l, refl), h.1)

pub refused_bench : (budget : ℕ) (input : List ℕ) (s : Status) (text : List ℕ) (r : Refusal) → IsRefusedBench input r → (s ≡ Refused) × (text ≡ refusal_line r) → AnswersBench budget input s text
refused_bench budget input s text r is h = subst (λ (t : Status). AnswersBench budget input t text) (sym h.0) (r, is, h.1)
