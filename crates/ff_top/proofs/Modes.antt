-- The answers to `check`, `lines` and `make` are one, and none is a fault.
use Rattle.std.proofs.Common.{◌≡◌, ◌<◌, ◌⊎◌, inl, inr, ◌∙◌, ℕ, Bool, true, false, List, length, Option, Some, None, refl, ap, sym, subst}
use Rattle.ff_types.specs.declared.refusals.Refusal.TheVariants.{TooLong}
use Rattle.ff_report.specs.Refusals.{refusal_line}
use Rattle.ff_report.specs.declared.lines.Last.{Last}
use Rattle.ff_report.specs.declared.lines.Last.TheVariants as last
use Rattle.ff_report.specs.Alike.{AreOneText}
use Rattle.ff_report.proofs.AlikeTexts.{same_one}
use Rattle.ff_judged.specs.declared.judging.TheConstants.{MOST_CHECK_BYTES}
use Rattle.ff_judged.specs.Answers.{AnswersLog, OneJudgement}
use Rattle.ff_made.specs.Answers.{AnswersCount, OneSummary}
use Rattle.ff_types.specs.declared.limits.TheConstants.{MOST_BYTES}
use Rattle.ff_cut.specs.Answers.{AnswersLines, OneDrawing}
use Rattle.ff_top.specs.Drawing.{AnswersDrawing}
use Rattle.ff_top.specs.Checking.{AnswersCheck, status_if}
use Rattle.ff_top.specs.Making.{AnswersMake, status_made}
use Rattle.ff_top.specs.declared.status.Status.{Status}
use Rattle.ff_top.specs.declared.status.Status.TheVariants.{Done, Impossible, Refused, Unfinished, ReadFault, WriteFault, NoMemory, Usage}

-- ---- `check`

check_view : (input : List ℕ) (s : Status) (text : List ℕ) → AnswersCheck input s text → (a : Bool) × (s ≡ status_if a) × AnswersLog input a text
check_view input Done text h = (true, refl, h)
check_view input Refused text h = (false, refl, h)
check_view input Impossible text h = absurd h
check_view input Unfinished text h = absurd h
check_view input ReadFault text h = absurd h
check_view input WriteFault text h = absurd h
check_view input NoMemory text h = absurd h
check_view input Usage text h = absurd h

pub check_by : (input : List ℕ) (s : Status) (a : Bool) (text : List ℕ) → s ≡ status_if a → AnswersLog input a text → AnswersCheck input s text
check_by input s true text e h = subst (λ (t : Status). AnswersCheck input t text) (sym e) h
check_by input s false text e h = subst (λ (t : Status). AnswersCheck input t text) (sym e) h

pub one_check : OneJudgement → (input : List ℕ) (s t : Status) (x y : List ℕ) → AnswersCheck input s x → AnswersCheck input t y → (s ≡ t) × AreOneText x y
one_check law input s t x y a b =
    let v = check_view input s x a in
    let w = check_view input t y b in
    let o = law input v.0 w.0 x y v.2 w.2 in
    (v.1 ∙ ap status_if o.0 ∙ sym w.1, same_one x y o.1)

pub check_no_fault : (input : List ℕ) (s : Status) (text : List ℕ) → AnswersCheck input s text → (s ≡ WriteFault) ⊎ (s ≡ ReadFault) → ⊥
check_no_fault input s text a (inl e) = subst (λ (t : Status). AnswersCheck input t text) e a
check_no_fault input s text a (inr e) = subst (λ (t : Status). AnswersCheck input t text) e a

-- too many bytes
pub refused_check : (input : List ℕ) (s : Status) (text : List ℕ) → MOST_CHECK_BYTES < length input → (s ≡ Refused) × (text ≡ refusal_line TooLong) → AnswersCheck input s text
refused_check input s text l h = check_by input s false text h.0 (inl (refl, (TooLong, inl (l, refl), h.1)))

-- ---- `lines`

drawing_view : (input : List ℕ) (s : Status) (text : List ℕ) → AnswersDrawing input s text → (a : Bool) × (s ≡ status_if a) × AnswersLines input a text
drawing_view input Done text h = (true, refl, h)
drawing_view input Refused text h = (false, refl, h)
drawing_view input Impossible text h = absurd h
drawing_view input Unfinished text h = absurd h
drawing_view input ReadFault text h = absurd h
drawing_view input WriteFault text h = absurd h
drawing_view input NoMemory text h = absurd h
drawing_view input Usage text h = absurd h

pub drawing_by : (input : List ℕ) (s : Status) (a : Bool) (text : List ℕ) → s ≡ status_if a → AnswersLines input a text → AnswersDrawing input s text
drawing_by input s true text e h = subst (λ (t : Status). AnswersDrawing input t text) (sym e) h
drawing_by input s false text e h = subst (λ (t : Status). AnswersDrawing input t text) (sym e) h

pub one_lines : OneDrawing → (input : List ℕ) (s t : Status) (x y : List ℕ) → AnswersDrawing input s x → AnswersDrawing input t y → (s ≡ t) × AreOneText x y
one_lines law input s t x y a b =
    let v = drawing_view input s x a in
    let w = drawing_view input t y b in
    let o = law input v.0 w.0 x y v.2 w.2 in
    (v.1 ∙ ap status_if o.0 ∙ sym w.1, same_one x y o.1)

pub drawing_no_fault : (input : List ℕ) (s : Status) (text : List ℕ) → AnswersDrawing input s text → (s ≡ WriteFault) ⊎ (s ≡ ReadFault) → ⊥
drawing_no_fault input s text a (inl e) = subst (λ (t : Status). AnswersDrawing input t text) e a
drawing_no_fault input s text a (inr e) = subst (λ (t : Status). AnswersDrawing input t text) e a

-- too many bytes
pub refused_drawing : (input : List ℕ) (s : Status) (text : List ℕ) → MOST_BYTES < length input → (s ≡ Refused) × (text ≡ refusal_line TooLong) → AnswersDrawing input s text
refused_drawing input s text l h = drawing_by input s false text h.0 (TooLong, inl (l, refl), h.1)

-- ---- `make`

make_view : (count budget : ℕ) (s : Status) (text : List ℕ) → AnswersMake count budget s text → (l : Option Last) × (s ≡ status_made l) × AnswersCount count budget l text
make_view count budget Refused text h = (None, refl, h)
make_view count budget Done text h = (Some last.Done, refl, h)
make_view count budget Impossible text h = (Some last.Impossible, refl, h)
make_view count budget Unfinished text h = (Some last.Unfinished, refl, h)
make_view count budget ReadFault text h = absurd h
make_view count budget WriteFault text h = absurd h
make_view count budget NoMemory text h = absurd h
make_view count budget Usage text h = absurd h

pub make_by : (count budget : ℕ) (s : Status) (l : Option Last) (text : List ℕ) → s ≡ status_made l → AnswersCount count budget l text → AnswersMake count budget s text
make_by count budget s None text e h = subst (λ (t : Status). AnswersMake count budget t text) (sym e) h
make_by count budget s (Some last.Done) text e h = subst (λ (t : Status). AnswersMake count budget t text) (sym e) h
make_by count budget s (Some last.Impossible) text e h = subst (λ (t : Status). AnswersMake count budget t text) (sym e) h
make_by count budget s (Some last.Unfinished) text e h = subst (λ (t : Status). AnswersMake count budget t text) (sym e) h

pub one_make : OneSummary → (count budget : ℕ) (s t : Status) (x y : List ℕ) → AnswersMake count budget s x → AnswersMake count budget t y → (s ≡ t) × AreOneText x y
one_make law count budget s t x y a b =
    let v = make_view count budget s x a in
    let w = make_view count budget t y b in
    let o = law count budget v.0 w.0 x y v.2 w.2 in
    (v.1 ∙ ap status_made o.0 ∙ sym w.1, same_one x y o.1)

pub make_no_fault : (count budget : ℕ) (s : Status) (text : List ℕ) → AnswersMake count budget s text → (s ≡ WriteFault) ⊎ (s ≡ ReadFault) → ⊥
make_no_fault count budget s text a (inl e) = subst (λ (t : Status). AnswersMake count budget t text) e a
make_no_fault count budget s text a (inr e) = subst (λ (t : Status). AnswersMake count budget t text) e a
