-- How far a log has been checked.
use Rattle.std.proofs.Common.{◌≡◌, ◌∙◌, ℕ, zero, suc, ◌+◌, ◌<◌, inl, inr, true, false, List, [], ◌∷◌, ◌++◌, length, take, Some, refl, sym, ap, subst, arith}
use Rattle.std.specs.Prelude.{slice_get}
use Rattle.std.proofs.lemmas.List.{take_all}
use Rattle.std.proofs.lemmas.Option.{slice_get_past}
use Rattle.ff_types.specs.declared.pins.Pin.{Pin}
use Rattle.ff_types.specs.declared.limits.TheConstants.{MOST_FACES}
use Rattle.ff_types.specs.Sheets.{Sheet}
use Rattle.ff_log.specs.declared.logs.LogLine.{LogLine}
use Rattle.ff_log.specs.Logs.{State, start, Ground, Does, Takes, Reaches, Closes}
use Rattle.ff_log.specs.Grounds.{sheet_ground}
use Rattle.ff_checker.specs.declared.progress.Progress.{Progress}
use Rattle.ff_checker.specs.declared.verdicts.WhyNot.{WhyNot}
use Rattle.ff_checker.specs.declared.verdicts.WhyNot.TheVariants.{OpenBranch, AfterEnd}
use Rattle.ff_checker.specs.LogStates.{IsProgress, state_of}
use Rattle.ff_checker.specs.Verdicts.{IsRefused, IsFirstBad, why_of}

-- the first i lines are allowed, and the progress has what they said
pub record IsGoing (g : Sheet) (pins : List Pin) (lines : List LogLine) (i : ℕ) (b : Progress) : Type 0 where
  pub progress : IsProgress b
  pub side : b.held.side ≡ MOST_FACES
  pub reached : Reaches (sheet_ground g pins) start (take i lines) (state_of b)

-- one line more
pub reaches_more : (ground : Ground) (s t u : State) (lines : List LogLine) (l : LogLine) → Reaches ground s lines t → Takes ground t l u
    → Reaches ground s (lines ++ l ∷ []) u
reaches_more ground s t u [] l r t2 = (u, subst (λ x. Takes ground x l u) r t2, refl)
reaches_more ground s t u (k ∷ lines) l r t2 = (r.0, r.1, reaches_more ground r.0 t u lines l r.2 t2)

take_more : (lines : List LogLine) (i : ℕ) (l : LogLine) → slice_get lines i ≡ Some l → take (i + 1) lines ≡ take i lines ++ l ∷ []
take_more [] zero l e = cc
take_more [] (suc i) l e = cc
take_more (k ∷ lines) zero l e = let q : k ≡ l = cc in ap (λ x. x ∷ []) q
take_more (k ∷ lines) (suc i) l e = let n : suc i + 1 ≡ suc (i + 1) = omega arith in ap (λ m. take m (k ∷ lines)) n ∙ ap (λ xs. k ∷ xs) (take_more lines i l e)

module _ (g : Sheet) (pins : List Pin) (lines : List LogLine) where
  pub going_none : (b : Progress) → IsProgress b → b.held.side ≡ MOST_FACES → state_of b ≡ start → IsGoing g pins lines 0 b
  going_none b progress side is = record { progress = progress; side = side; reached = is }

  pub going_on : (i : ℕ) (b c : Progress) (l : LogLine) → IsGoing g pins lines i b → slice_get lines i ≡ Some l → b.ended ≡ false
      → Does (sheet_ground g pins) (state_of b) l (state_of c) → IsProgress c → c.held.side ≡ MOST_FACES → IsGoing g pins lines (i + 1) c
  going_on i b c l going there open_yet does progress side = record {
    progress = progress;
    side = side;
    reached = subst (λ xs. Reaches (sheet_ground g pins) start xs (state_of c)) (sym (take_more lines i l there))
        (reaches_more (sheet_ground g pins) start (state_of b) (state_of c) (take i lines) l going.reached (record { going = open_yet; does = does }));
  }

  pub bad_line : (i : ℕ) (b : Progress) (l : LogLine) (why : WhyNot) → IsGoing g pins lines i b → i < length lines → slice_get lines i ≡ Some l → b.ended ≡ false
      → IsRefused (sheet_ground g pins) (state_of b) l → why ≡ why_of l → IsFirstBad (sheet_ground g pins) lines i why
  bad_line i b l why going within there open_yet refused is = record {
    within = omega (arith, within);
    state = state_of b;
    reached = going.reached;
    stops = subst (λ o. Rattle.ff_checker.specs.Verdicts.Stops (sheet_ground g pins) (state_of b) o why) (sym there) (inr (open_yet, refused, is));
  }

  pub after_end : (i : ℕ) (b : Progress) (l : LogLine) → IsGoing g pins lines i b → i < length lines → slice_get lines i ≡ Some l → b.ended ≡ true
      → IsFirstBad (sheet_ground g pins) lines i AfterEnd
  after_end i b l going within there ended = record {
    within = omega (arith, within);
    state = state_of b;
    reached = going.reached;
    stops = subst (λ o. Rattle.ff_checker.specs.Verdicts.Stops (sheet_ground g pins) (state_of b) o AfterEnd) (sym there) (inl (ended, refl));
  }

  pub all_taken : (i : ℕ) (b : Progress) → IsGoing g pins lines i b → i ≡ length lines → b.ended ≡ true → Closes (sheet_ground g pins) lines
  all_taken i b going is ended = record {
    state = state_of b;
    reached = subst (λ xs. Reaches (sheet_ground g pins) start xs (state_of b)) (ap (λ n. take n lines) is ∙ take_all (length lines) lines (omega arith)) going.reached;
    ended = ended;
  }

  pub left_open : (i n : ℕ) (b : Progress) → IsGoing g pins lines i b → i ≡ length lines → n ≡ length lines → b.ended ≡ false
      → IsFirstBad (sheet_ground g pins) lines n OpenBranch
  left_open i n b going is at open_yet = record {
    within = omega (arith, at);
    state = state_of b;
    reached = subst (λ k. Reaches (sheet_ground g pins) start (take k lines) (state_of b)) (is ∙ sym at) going.reached;
    stops = subst (λ o. Rattle.ff_checker.specs.Verdicts.Stops (sheet_ground g pins) (state_of b) o OpenBranch) (sym (ap (slice_get lines) at ∙ slice_get_past lines (length lines) (omega arith))) (open_yet, refl);
  }
