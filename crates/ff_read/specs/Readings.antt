-- Bytes come to one pattern or to one refusal, and so they do to an input of `check` or `bench`.
use Rattle.std.specs.Prelude.{ℕ, ◌≡◌, List}
use Rattle.ff_types.specs.declared.patterns.Pattern.{Pattern}
use Rattle.ff_types.specs.declared.refusals.Refusal.{Refusal}
use Rattle.ff_read.specs.declared.benches.BenchInput.{BenchInput}
use Rattle.ff_read.specs.declared.checks.CheckInput.{CheckInput}
use Rattle.ff_read.specs.Read.{IsReadAs, RefusesBytes}
use Rattle.ff_read.specs.Benches.{IsBench, RefusesSession}
use Rattle.ff_read.specs.Checks.{IsCheck, RefusesInput}

-- bytes come to one pattern or to one refusal, never to both and never to neither
pub record ReadingIsOne : Type 0 where
  pub pattern : (bytes : List ℕ) (p q : Pattern) → IsReadAs bytes p → IsReadAs bytes q → (p.points ≡ q.points) × (p.edges ≡ q.edges) × (p.marks ≡ q.marks)
  pub refusal : (bytes : List ℕ) (r s : Refusal) → RefusesBytes bytes r → RefusesBytes bytes s → r ≡ s
  pub not_both : (bytes : List ℕ) (p : Pattern) (r : Refusal) → IsReadAs bytes p → RefusesBytes bytes r → ⊥
  -- They come to something. It is said by what can't be, since no definition decides what it is.
  pub some : (bytes : List ℕ) → ((p : Pattern) → IsReadAs bytes p → ⊥) → ((r : Refusal) → RefusesBytes bytes r → ⊥) → ⊥

-- bytes come to one input of `check` or to one refusal
pub record CheckIsOne : Type 0 where
  pub pattern : (bytes : List ℕ) (a b : CheckInput) → IsCheck bytes a → IsCheck bytes b
      → (a.pattern.points ≡ b.pattern.points) × (a.pattern.edges ≡ b.pattern.edges) × (a.pattern.marks ≡ b.pattern.marks)
  pub members : (bytes : List ℕ) (a b : CheckInput) → IsCheck bytes a → IsCheck bytes b → (a.pins ≡ b.pins) × (a.lines ≡ b.lines)
  pub refusal : (bytes : List ℕ) (r s : Refusal) → RefusesInput bytes r → RefusesInput bytes s → r ≡ s
  pub not_both : (bytes : List ℕ) (a : CheckInput) (r : Refusal) → IsCheck bytes a → RefusesInput bytes r → ⊥
  pub some : (bytes : List ℕ) → ((a : CheckInput) → IsCheck bytes a → ⊥) → ((r : Refusal) → RefusesInput bytes r → ⊥) → ⊥

-- bytes come to one bench input or to one refusal
pub record BenchIsOne : Type 0 where
  pub pattern : (bytes : List ℕ) (a b : BenchInput) → IsBench bytes a → IsBench bytes b
      → (a.pattern.points ≡ b.pattern.points) × (a.pattern.edges ≡ b.pattern.edges) × (a.pattern.marks ≡ b.pattern.marks)
  pub scripts : (bytes : List ℕ) (a b : BenchInput) → IsBench bytes a → IsBench bytes b → a.scripts ≡ b.scripts
  pub refusal : (bytes : List ℕ) (r s : Refusal) → RefusesSession bytes r → RefusesSession bytes s → r ≡ s
  pub not_both : (bytes : List ℕ) (a : BenchInput) (r : Refusal) → IsBench bytes a → RefusesSession bytes r → ⊥
  pub some : (bytes : List ℕ) → ((a : BenchInput) → IsBench bytes a → ⊥) → ((r : Refusal) → RefusesSession bytes r → ⊥) → ⊥
