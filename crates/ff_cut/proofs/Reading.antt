-- What is read of bytes and drawn, and why they are refused.
use Rattle.std.proofs.Common.{◌≡◌, inl, inr, ℕ, ◌≤◌, true, List, length, Result, Ok, Err, IfErr, IfOk, MatchResult, sym, subst}
use Rattle.ff_types.specs.declared.limits.TheConstants.{MOST_BYTES}
use Rattle.ff_types.specs.declared.patterns.Pattern.{Pattern}
use Rattle.ff_types.specs.declared.refusals.No.{No}
use Rattle.ff_types.specs.declared.refusals.No.TheVariants as no
use Rattle.ff_lines.specs.declared.items.LineItem.{LineItem}
use Rattle.ff_lines.specs.declared.items.TheConstants.{MOST_LINES}
use Rattle.ff_lines.specs.Drawings.{IsDrawn, WhyNotDrawn}
use Rattle.ff_lined.specs.Reading.{AreLinesIn, WhyNoLines}
use Rattle.ff_tables.specs.declared.memory.NoMemory.{NoMemory}
use Rattle.ff_lined.specs.Texts.{IsTextOf}
use Rattle.ff_cut.specs.declared.answers.Answer.{Answer}
use Rattle.ff_cut.specs.Drawn.{DrawsLines, WhyNoDrawing}
use Rattle.ff_cut.specs.Answers.{AnswersLines}

pub read_few : (bytes : List ℕ) (r : Result (List LineItem) No) → MatchResult r (AreLinesIn bytes) (WhyNoLines bytes) → IfOk r (λ lines. length lines ≤ MOST_LINES)
read_few bytes (Ok lines) h = h.is.few
read_few bytes (Err n) h = tt

why_unread : (bytes : List ℕ) → length bytes ≤ MOST_BYTES → (n : No) → WhyNoLines bytes n → WhyNoDrawing bytes n
why_unread bytes few (no.Refused r) h = inr (few, inl h)
why_unread bytes few no.NoMemory h = tt

pub not_read : (bytes : List ℕ) → length bytes ≤ MOST_BYTES → (r : Result (List LineItem) No) → MatchResult r (AreLinesIn bytes) (WhyNoLines bytes) → IfErr r (WhyNoDrawing bytes)
not_read bytes few (Ok lines) h = tt
not_read bytes few (Err n) h = why_unread bytes few n h

pub is_drawn : (bytes : List ℕ) (lines : List LineItem) → length bytes ≤ MOST_BYTES → AreLinesIn bytes lines → (r : Result Pattern No) → MatchResult r (IsDrawn lines) (WhyNotDrawn lines)
    → IfOk r (DrawsLines bytes)
is_drawn bytes lines few read (Ok p) h = record { within = few; lines = lines; read = read; drawn = h }
is_drawn bytes lines few read (Err n) h = tt

why_undrawn : (bytes : List ℕ) (lines : List LineItem) → length bytes ≤ MOST_BYTES → AreLinesIn bytes lines → (n : No) → WhyNotDrawn lines n → WhyNoDrawing bytes n
why_undrawn bytes lines few read (no.Refused r) h = inr (few, inr (record { lines = lines; read = read; refused = h }))
why_undrawn bytes lines few read no.NoMemory h = tt

pub not_drawn : (bytes : List ℕ) (lines : List LineItem) → length bytes ≤ MOST_BYTES → AreLinesIn bytes lines → (r : Result Pattern No) → MatchResult r (IsDrawn lines) (WhyNotDrawn lines)
    → IfErr r (WhyNoDrawing bytes)
not_drawn bytes lines few read (Ok p) h = tt
not_drawn bytes lines few read (Err n) h = why_undrawn bytes lines few read n h

pub shown : (bytes : List ℕ) (p : Pattern) → DrawsLines bytes p → (r : Result Answer NoMemory) → IfOk r (λ a. (a.drawn ≡ true) × IsTextOf p a.text) → IfOk r (λ a. AnswersLines bytes a.drawn a.text)
shown bytes p d (Ok a) h = subst (λ b. AnswersLines bytes b a.text) (sym h.0) (p, d, h.1)
shown bytes p d (Err e) h = tt
