-- Choices of one solution of each part, and the stackings that keep the creases and pinned orders. This project's own.
use Rattle.std.specs.Prelude.{◌≡◌, ℕ, Bool, List, [], Option, Contains}
use Rattle.ff_tables.specs.declared.orders.Order.{Order}
use Rattle.ff_types.specs.declared.cases.Case.{Case}
use Rattle.ff_types.specs.Sheets.{Sheet}
use Rattle.ff_types.specs.Crossings.{IsGeometricStacking}
use Rattle.ff_types.specs.declared.pins.Pin.{Pin}
use Rattle.ff_types.specs.Keeping.{KeepsCreases, KeepsPins}
use Rattle.ff_types.specs.Assignments.{set_of}
use Rattle.ff_propagate.specs.Solutions.{solutions_of}
use Rattle.ff_propagate.specs.Choices.{IsChoice, value_of}

-- a geometric stacking that keeps the creases and the pins
pub record IsKept (g : Sheet) (pins : List Pin) (above : ℕ → ℕ → Bool) : Type 0 where
  pub geometric : IsGeometricStacking g above
  pub creases : KeepsCreases g above
  pub pinned : KeepsPins above pins

-- the set of pairs of a choice: "f above h" where the closure, or the solution of the pair's part, says so
abbrev pub IsSetOf : List (ℕ × ℕ) → (ℕ → Option Order) → List (List ℕ) → List (List Order) → (ℕ → ℕ → Bool) → Type 0
IsSetOf pairs value parts choice above = (f h : ℕ) → above f h ≡ set_of pairs (value_of value parts choice) f h

-- a stacking that keeps the creases and the pins, whose set is that of the choice
pub record HasStacking (g : Sheet) (pins : List Pin) (pairs : List (ℕ × ℕ)) (value : ℕ → Option Order) (parts : List (List ℕ))
    (choice : List (List Order)) : Type 0 where
  pub above : ℕ → ℕ → Bool
  pub set : IsSetOf pairs value parts choice above
  pub kept : IsKept g pins above

-- a choice whose set it is
pub record HasChoice (case : Case) (value : ℕ → Option Order) (parts : List (List ℕ)) (above : ℕ → ℕ → Bool) : Type 0 where
  pub choice : List (List Order)
  pub is_choice : IsChoice case.system.constraints value parts choice
  pub set : IsSetOf case.pairs value parts choice above

-- Choices correspond one-to-one to geometric stackings that keep the creases and the pins: the set of each choice is one, each is the
-- set of a choice, and two choices with one set are the same. Where a part has no solution there is none.
pub record AreStackings (g : Sheet) (pins : List Pin) (case : Case) (value : ℕ → Option Order) (parts : List (List ℕ)) : Type 0 where
  pub to_stacking : (choice : List (List Order)) → IsChoice case.system.constraints value parts choice
      → HasStacking g pins case.pairs value parts choice
  pub to_choice : (above : ℕ → ℕ → Bool) → IsKept g pins above → HasChoice case value parts above
  pub one_choice : (above : ℕ → ℕ → Bool) (c d : List (List Order)) → IsChoice case.system.constraints value parts c
      → IsChoice case.system.constraints value parts d → IsSetOf case.pairs value parts c above
      → IsSetOf case.pairs value parts d above → c ≡ d
  pub none : (part : List ℕ) → Contains parts part → solutions_of case.system.constraints value part ≡ []
      → (above : ℕ → ℕ → Bool) → IsKept g pins above → ⊥
