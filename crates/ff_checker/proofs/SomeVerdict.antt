-- It can't be that a log has no verdict.
use Rattle.std.proofs.Common.{◌≡◌, inl, inr, ℕ, suc, ◌≤◌, Bool, true, false, List, [], ◌∷◌, length, take, refl, arith}
use Rattle.std.specs.Prelude.{slice_get}
use Rattle.ff_log.specs.declared.logs.LogLine.{LogLine}
use Rattle.ff_log.specs.Logs.{State, start, Ground, Does, Takes, Reaches}
use Rattle.ff_checker.specs.declared.verdicts.WhyNot.{WhyNot}
use Rattle.ff_checker.specs.declared.verdicts.WhyNot.TheVariants.{OpenBranch, AfterEnd}
use Rattle.ff_checker.specs.declared.verdicts.Verdict.{Verdict}
use Rattle.ff_checker.specs.declared.verdicts.Verdict.TheVariants.{Accepted, Refused}
use Rattle.ff_checker.specs.Verdicts.{why_of, Stops, IsVerdict}

module _ (ground : Ground) where
  -- the lines from this state on are all allowed and end the log
  record EndsFrom (s : State) (lines : List LogLine) : Type 0 where
    state : State
    reached : Reaches ground s lines state
    ended : state.ended ≡ true

  -- or they stop at one of them
  record StopsFrom (s : State) (lines : List LogLine) (n : ℕ) (why : WhyNot) : Type 0 where
    within : n ≤ length lines
    state : State
    reached : Reaches ground s (take n lines) state
    stops : Stops ground state (slice_get lines n) why

  at_end : (s : State) → (EndsFrom s [] → ⊥) → ((n : ℕ) (why : WhyNot) → StopsFrom s [] n why → ⊥) → ⊥
  at_end s ends stops = by s.ended refl where
    by : (b : Bool) → s.ended ≡ b → ⊥
    by true e = ends (record { state = s; reached = refl; ended = e })
    by false e = stops 0 OpenBranch (record { within = omega arith; state = s; reached = refl; stops = (e, refl) })

  after_end : (s : State) (l : LogLine) (lines : List LogLine) → s.ended ≡ true → StopsFrom s (l ∷ lines) 0 AfterEnd
  after_end s l lines e = record { within = omega arith; state = s; reached = refl; stops = inl (e, refl) }

  refused : (s : State) (l : LogLine) (lines : List LogLine) → s.ended ≡ false → ((m : State) → Does ground s l m → ⊥) → StopsFrom s (l ∷ lines) 0 (why_of l)
  refused s l lines e none = record { within = omega arith; state = s; reached = refl; stops = inr (e, none, refl) }

  ends_more : (s m : State) (l : LogLine) (lines : List LogLine) → Takes ground s l m → EndsFrom m lines → EndsFrom s (l ∷ lines)
  ends_more s m l lines t e = record { state = e.state; reached = (m, t, e.reached); ended = e.ended }

  stops_more : (s m : State) (l : LogLine) (lines : List LogLine) (n : ℕ) (why : WhyNot) → Takes ground s l m → StopsFrom m lines n why → StopsFrom s (l ∷ lines) (suc n) why
  stops_more s m l lines n why t h = record { within = omega (arith, h.within); state = h.state; reached = (m, t, h.reached); stops = h.stops }

  -- whatever the state, the lines come to one of the two
  abbrev Later : List LogLine → Type 0
  Later lines = (m : State) → (EndsFrom m lines → ⊥) → ((n : ℕ) (why : WhyNot) → StopsFrom m lines n why → ⊥) → ⊥

  from : (s : State) (lines : List LogLine) → (EndsFrom s lines → ⊥) → ((n : ℕ) (why : WhyNot) → StopsFrom s lines n why → ⊥) → ⊥
  from s [] ends stops = at_end s ends stops
  from s (l ∷ lines) ends stops = by s.ended refl (λ m e t. from m lines e t) where
    taken : Later lines → (m : State) → Takes ground s l m → ⊥
    taken later m t = later m (λ e. ends (ends_more s m l lines t e)) (λ n why h. stops (suc n) why (stops_more s m l lines n why t h))

    by : (b : Bool) → s.ended ≡ b → Later lines → ⊥
    by true e later = stops 0 AfterEnd (after_end s l lines e)
    by false e later = stops 0 (why_of l) (refused s l lines e (λ m does. taken later m (record { going = e; does = does })))

  pub some_verdict : (lines : List LogLine) → ((v : Verdict) → IsVerdict ground lines v → ⊥) → ⊥
  some_verdict lines none = from start lines
      (λ e. none Accepted (record { state = e.state; reached = e.reached; ended = e.ended }))
      (λ n why h. none (Refused n why) (record { within = h.within; state = h.state; reached = h.reached; stops = h.stops }))
