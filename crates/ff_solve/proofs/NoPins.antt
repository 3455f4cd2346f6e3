-- The starts of a case are givens without pins.
use Rattle.std.proofs.Common.{◌≡◌, ℕ, List, [], map, length, slice_get, Option, Some, Result, Ok, Err, IfOk, ap, sym, arith}
use Rattle.std.proofs.lemmas.List.{append-nil, drop_all}
use Rattle.std.proofs.lemmas.Option.{slice_get_within}
use Rattle.ff_tables.specs.declared.terms.Constraint.{Constraint}
use Rattle.ff_tables.specs.declared.givens.Given.{Given}
use Rattle.ff_tables.specs.declared.memory.NoMemory.{NoMemory}
use Rattle.ff_types.specs.declared.cases.Case.{Case}
use Rattle.ff_types.specs.declared.pins.Pin.{Pin}
use Rattle.ff_propagate.specs.declared.facts.Fact.{Fact}
use Rattle.ff_propagate.specs.declared.facts.ClashAt.{ClashAt}
use Rattle.ff_propagate.specs.declared.facts.ClashAt.TheVariants as at
use Rattle.ff_propagate.specs.Closing.{IsClashAt}
use Rattle.ff_log.specs.declared.logs.Log.{Log}
use Rattle.ff_log.specs.Grounds.{claim_of_given, IsAcceptedIn}
use Rattle.ff_refute.specs.Givens.{AreGivens, IsClash, SayPins}

none_there : {A : Type 0} (i : ℕ) (g : Given) → slice_get [] i ≡ Some g → A
none_there i g e = absurd (omega (arith, slice_get_within [] i g e))

pub starts_alone : (case : Case) → AreGivens case case.starts
starts_alone case = record { pins = []; are = sym (append-nil case.starts); by_pins = λ i g e. none_there i g e; fit = λ i g e. none_there i g e }

no_pins_said : (case : Case) → SayPins case case.starts []
no_pins_said case = sym (ap (λ (gs : List Given). map (claim_of_given case.pairs) gs) (drop_all (length case.starts) case.starts (omega arith)))

-- a log that is accepted for all pins that the givens say is accepted without pins
pub accepted_alone : (case : Case) (r : Result Log NoMemory)
    → IfOk r (λ log. (pins : List Pin) → SayPins case case.starts pins → IsAcceptedIn case pins log.lines) → IfOk r (λ log. IsAcceptedIn case [] log.lines)
accepted_alone case (Ok log) h = h [] (no_pins_said case)
accepted_alone case (Err e) h = tt

pub clash_of : (cons : List Constraint) (gs : List Given) (fs : List (Option Fact)) (at : ClashAt) → IsClashAt cons gs fs at → IsClash cons gs fs at
clash_of cons gs fs (at.Givens first second) c = (c.g, c.h, c.g_there, c.h_there, c.contradict)
clash_of cons gs fs (at.Dead n) c = c.1
