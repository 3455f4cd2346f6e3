-- Lines have one drawing, and bytes spell one list of lines. This project's own.
use Rattle.std.specs.Prelude.{◌≡◌, ℕ, List}
use Rattle.std.specs.List.{All}
use Rattle.ff_types.specs.declared.patterns.Pattern.{Pattern}
use Rattle.ff_types.specs.declared.refusals.No.TheVariants.{Refused}
use Rattle.ff_types.specs.declared.refusals.Refusal.{Refusal}
use Rattle.ff_lines.specs.declared.items.LineItem.{LineItem}
use Rattle.ff_lines.specs.Lines.{IsProper}
use Rattle.ff_lines.specs.Drawings.{IsDrawn, WhyNotDrawn}
use Rattle.ff_lined.specs.Reading.{AreLinesIn, RefusesLines}

-- two drawings have the same vertices, edges and marks
abbrev pub AreSame : Pattern → Pattern → Type 0
AreSame p q = (p.points ≡ q.points) × (p.edges ≡ q.edges) × (p.marks ≡ q.marks)

-- lines come to one drawing or to one refusal, never to both, and it can't be that they come to none
pub record DrawingIsOne : Type 0 where
  pub pattern : (lines : List LineItem) (p q : Pattern) → IsDrawn lines p → IsDrawn lines q → AreSame p q
  pub refusal : (lines : List LineItem) (r s : Refusal) → WhyNotDrawn lines (Refused r) → WhyNotDrawn lines (Refused s) → r ≡ s
  pub not_both : (lines : List LineItem) (p : Pattern) (r : Refusal) → IsDrawn lines p → WhyNotDrawn lines (Refused r) → ⊥
  pub some : (lines : List LineItem) → All IsProper lines → ((p : Pattern) → IsDrawn lines p → ⊥)
      → ((r : Refusal) → WhyNotDrawn lines (Refused r) → ⊥) → ⊥

-- so do bytes come to lines
pub record LinesAreOne : Type 0 where
  pub lines : (bytes : List ℕ) (a b : List LineItem) → AreLinesIn bytes a → AreLinesIn bytes b → a ≡ b
  pub refusal : (bytes : List ℕ) (r s : Refusal) → RefusesLines bytes r → RefusesLines bytes s → r ≡ s
  pub not_both : (bytes : List ℕ) (lines : List LineItem) (r : Refusal) → AreLinesIn bytes lines → RefusesLines bytes r → ⊥
  pub some : (bytes : List ℕ) → ((lines : List LineItem) → AreLinesIn bytes lines → All IsProper lines → ⊥)
      → ((r : Refusal) → RefusesLines bytes r → ⊥) → ⊥
