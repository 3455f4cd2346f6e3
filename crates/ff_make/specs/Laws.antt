-- That there is one accordion of so many panels. This project's own.
use Rattle.std.specs.Prelude.{◌≡◌, ℕ, ◌<◌, ◌≤◌}
use Rattle.ff_types.specs.declared.patterns.Pattern.{Pattern}
use Rattle.ff_make.specs.Accordions.{IsAccordion}

-- the pattern is an accordion
abbrev pub IsMade : ℕ → Pattern → Type 0
IsMade n p = IsAccordion n p.points p.edges p.marks

-- two accordions of as many panels have the same lists
abbrev pub AccordionIsOne : Type 0
AccordionIsOne = (n : ℕ) (p q : Pattern) → IsMade n p → IsMade n q → (p.points ≡ q.points) × (p.edges ≡ q.edges) × (p.marks ≡ q.marks)

-- from 1 to 400 panels there is one
abbrev pub SomeAccordion : Type 0
SomeAccordion = (n : ℕ) → 0 < n → n ≤ 400 → (p : Pattern) × IsMade n p
