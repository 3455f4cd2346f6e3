-- What checking a log answers. This project's own.
use Rattle.std.specs.Prelude.{◌≡◌, ℕ, ◌<◌, ◌≤◌, ◌⊎◌, true, false, List, length, take, slice_get, Option, Some, None}
use Rattle.ff_types.specs.declared.pins.Pin.{Pin}
use Rattle.ff_types.specs.declared.limits.TheConstants.{MOST_FACES}
use Rattle.ff_log.specs.declared.claims.Claim.{Claim}
use Rattle.ff_log.specs.declared.claims.Declared.{Declared}
use Rattle.ff_log.specs.declared.logs.LogLine.{LogLine}
use Rattle.ff_log.specs.declared.logs.LogLine.TheVariants as line
use Rattle.ff_log.specs.Logs.{State, start, Ground, ForcesClaim, IsDead, Does, Reaches, Closes}
use Rattle.ff_checker.specs.declared.verdicts.WhyNot.{WhyNot}
use Rattle.ff_checker.specs.declared.verdicts.WhyNot.TheVariants.{NotGiven, BadWitness, NotForced, RowLeft, OpenBranch, AfterEnd}
use Rattle.ff_checker.specs.declared.verdicts.Verdict.{Verdict}
use Rattle.ff_checker.specs.declared.verdicts.Verdict.TheVariants.{Accepted, Refused}

-- why a line is refused that isn't allowed
abbrev pub why_of : LogLine → WhyNot
why_of (line.Use c) = BadWitness
why_of (line.Crease e) = NotGiven
why_of (line.Pin i) = NotGiven
why_of (line.Force f g value by) = NotForced
why_of (line.Try f g value) = NotGiven
why_of (line.Dead k) = RowLeft
why_of (line.Clash f g) = RowLeft

-- the line isn't allowed in the state
abbrev pub IsRefused : Ground → State → LogLine → Type 0
IsRefused ground s l = (after : State) → Does ground s l after → ⊥

-- the line is allowed and takes the one state to the other, or it is refused
abbrev pub IsTaken : Ground → State → LogLine → State → Option WhyNot → Type 0
IsTaken ground s l after None = Does ground s l after
IsTaken ground s l after (Some why) = IsRefused ground s l × (why ≡ why_of l)

-- why a log stops in this state at the next line, or at its end
abbrev pub Stops : Ground → State → Option LogLine → WhyNot → Type 0
Stops ground s None why = (s.ended ≡ false) × (why ≡ OpenBranch)
Stops ground s (Some l) why = ((s.ended ≡ true) × (why ≡ AfterEnd)) ⊎ ((s.ended ≡ false) × IsRefused ground s l × (why ≡ why_of l))

-- All lines before the n-th are allowed, and it isn't.
pub record IsFirstBad (ground : Ground) (lines : List LogLine) (n : ℕ) (why : WhyNot) : Type 0 where
  pub within : n ≤ length lines
  pub state : State
  pub reached : Reaches ground start (take n lines) state
  pub stops : Stops ground state (slice_get lines n) why

-- the verdict on the lines: they close, or this is the first that is not allowed, and why
abbrev pub IsVerdict : Ground → List LogLine → Verdict → Type 0
IsVerdict ground lines Accepted = Closes ground lines
IsVerdict ground lines (Refused n why) = IsFirstBad ground lines n why

-- ---- parts of a line's test

-- the k-th declared constraint forces the claim
abbrev pub IsForced : State → ℕ → Claim → Type 0
IsForced s k c = (d : Declared) × (slice_get s.declared k ≡ Some d) × ForcesClaim d s.held c

-- no row of the k-th declared constraint agrees with what holds
abbrev pub HasNoneLeft : State → ℕ → Type 0
HasNoneLeft s k = (d : Declared) × (slice_get s.declared k ≡ Some d) × IsDead d s.held

-- ---- what a call takes

-- the faces of each pin have numbers below the most faces of a pattern
abbrev pub ArePinned : List Pin → Type 0
ArePinned pins = (i : ℕ) (p : Pin) → slice_get pins i ≡ Some p → (p.f < MOST_FACES) × (p.g < MOST_FACES)
