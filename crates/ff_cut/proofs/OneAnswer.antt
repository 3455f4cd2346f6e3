-- The answer to `lines` is one, and there is one.
use Rattle.std.proofs.Common.{◌≡◌, ◌∙◌, ◌⊎◌, inl, inr, ℕ, ◌<◌, ◌≤◌, Bool, true, false, List, length, refl, sym, ap, subst, arith}
use Rattle.std.proofs.lemmas.Bool.{cases_lt}
use Rattle.ff_basics.proofs.Options.{same_value}
use Rattle.ff_types.specs.declared.limits.TheConstants.{MOST_BYTES}
use Rattle.ff_types.specs.declared.patterns.Pattern.{Pattern}
use Rattle.ff_types.specs.declared.refusals.No.TheVariants as no
use Rattle.ff_types.specs.declared.refusals.Refusal.{Refusal}
use Rattle.ff_types.specs.declared.refusals.Refusal.TheVariants.{TooLong}
use Rattle.ff_report.specs.Refusals.{refusal_line}
use Rattle.ff_lines.specs.declared.items.LineItem.{LineItem}
use Rattle.ff_lines.specs.Drawings.{IsDrawn, WhyNotDrawn}
use Rattle.ff_lined.specs.Reading.{RefusesLines}
use Rattle.ff_lined.specs.Texts.{IsTextOf, pattern_line}
use Rattle.ff_cut.specs.Laws.{AreSame, DrawingIsOne, LinesAreOne}
use Rattle.ff_cut.specs.Drawn.{DrawsLines, IsRefused, StopsLines}
use Rattle.ff_cut.specs.Answers.{AnswersLines, OneDrawing, SomeDrawing}

one_text : (p q : Pattern) (x y : List ℕ) → AreSame p q → IsTextOf p x → IsTextOf q y → x ≡ y
one_text p q x y same (m, a, e) (n, b, f) =
    let marks : m ≡ n = same_value (sym same.2 ∙ a) b in
    e ∙ ap (λ ps. pattern_line ps p.edges m) same.0 ∙ ap (λ es. pattern_line q.points es m) same.1 ∙ ap (λ ms. pattern_line q.points q.edges ms) marks ∙ sym f

module _ (drawing : DrawingIsOne) (reading : LinesAreOne) where
  -- ---- one answer

  stopped_there : (bytes : List ℕ) (lines : List LineItem) (r : Refusal) → (s : StopsLines bytes r) → s.lines ≡ lines → WhyNotDrawn lines (no.Refused r)
  stopped_there bytes lines r s e = subst (λ (ls : List LineItem). WhyNotDrawn ls (no.Refused r)) e s.refused

  one_inner : (bytes : List ℕ) (q r : Refusal) → RefusesLines bytes q ⊎ StopsLines bytes q → RefusesLines bytes r ⊎ StopsLines bytes r → q ≡ r
  one_inner bytes q r (inl a) (inl b) = reading.refusal bytes q r a b
  one_inner bytes q r (inl a) (inr b) = absurd (reading.not_both bytes b.lines q b.read a)
  one_inner bytes q r (inr a) (inl b) = absurd (reading.not_both bytes a.lines r a.read b)
  one_inner bytes q r (inr a) (inr b) = drawing.refusal b.lines q r (stopped_there bytes b.lines q a (reading.lines bytes a.lines b.lines a.read b.read)) b.refused

  one_refusal : (bytes : List ℕ) (q r : Refusal) → IsRefused bytes q → IsRefused bytes r → q ≡ r
  one_refusal bytes q r (inl a) (inl b) = a.1 ∙ sym b.1
  one_refusal bytes q r (inl a) (inr b) = absurd (omega (arith, a.0, b.0))
  one_refusal bytes q r (inr a) (inl b) = absurd (omega (arith, a.0, b.0))
  one_refusal bytes q r (inr a) (inr b) = one_inner bytes q r a.1 b.1

  not_inner : (bytes : List ℕ) (p : Pattern) (r : Refusal) → DrawsLines bytes p → RefusesLines bytes r ⊎ StopsLines bytes r → ⊥
  not_inner bytes p r d (inl a) = reading.not_both bytes d.lines r d.read a
  not_inner bytes p r d (inr a) = drawing.not_both d.lines p r d.drawn (stopped_there bytes d.lines r a (reading.lines bytes a.lines d.lines a.read d.read))

  not_refused : (bytes : List ℕ) (p : Pattern) (r : Refusal) → DrawsLines bytes p → IsRefused bytes r → ⊥
  not_refused bytes p r d (inl a) = let w = d.within in omega (arith, a.0, w)
  not_refused bytes p r d (inr a) = not_inner bytes p r d a.1

  same_drawing : (bytes : List ℕ) (p q : Pattern) → DrawsLines bytes p → DrawsLines bytes q → AreSame p q
  same_drawing bytes p q a b = drawing.pattern b.lines p q (subst (λ (ls : List LineItem). IsDrawn ls p) (reading.lines bytes a.lines b.lines a.read b.read) a.drawn) b.drawn

  pub one_drawing : OneDrawing
  one_drawing bytes true true x y (p, a, e) (q, b, f) = (refl, one_text p q x y (same_drawing bytes p q a b) e f)
  one_drawing bytes true false x y (p, a, e) (r, b, f) = absurd (not_refused bytes p r a b)
  one_drawing bytes false true x y (r, a, e) (p, b, f) = absurd (not_refused bytes p r b a)
  one_drawing bytes false false x y (q, a, e) (r, b, f) = (refl, e ∙ ap refusal_line (one_refusal bytes q r a b) ∙ sym f)

  -- ---- some answer

  module _ (bytes : List ℕ) (none : (drawn : Bool) (text : List ℕ) → AnswersLines bytes drawn text → ⊥) where
    refused : (r : Refusal) → IsRefused bytes r → ⊥
    refused r h = none false (refusal_line r) (r, h, refl)

    shown : (p : Pattern) → DrawsLines bytes p → ⊥
    shown p d = none true (pattern_line p.points p.edges d.drawn.marks) (p, d, (d.drawn.marks, d.drawn.marked, refl))

    of_bytes : length bytes ≤ MOST_BYTES → ⊥
    of_bytes within = reading.some bytes
        (λ lines read proper. drawing.some lines proper
        (λ p drawn. shown p (record { within = within; lines = lines; read = read; drawn = drawn }))
        (λ r h. refused r (inr (within, inr (record { lines = lines; read = read; refused = h })))))
        (λ r h. refused r (inr (within, inl h)))

    of_length : (MOST_BYTES < length bytes) ⊎ (length bytes ≤ MOST_BYTES) → ⊥
    of_length (inl l) = refused TooLong (inl (l, refl))
    of_length (inr l) = of_bytes l

  pub some_drawing : SomeDrawing
  some_drawing bytes none = of_length bytes none (cases_lt MOST_BYTES (length bytes))
