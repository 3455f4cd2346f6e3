-- Of a flat edge at a plain border place, the matching face lies on the side of the given face, the opposed
-- one not.
use Rattle.std.proofs.Common.{◌≡◌, ◌≢◌, ℕ, ◌<◌, inl, inr, refl, sym, ◌∙◌, Bool, true, false, ◌&&◌, ◌||◌, IsTrue, [], ◌∷◌, length, if◌then◌else◌}
use Rattle.std.proofs.lemmas.Bool.{false≢true}
use Rattle.ff_basics.proofs.Tests.{of_both, of_first, of_second}
use Rattle.ff_types.specs.declared.patterns.Pattern.{Pattern}
use Rattle.ff_types.specs.declared.patterns.Mark.TheVariants.{B}
use Rattle.ff_types.specs.declared.faces.Faces.{Faces}
use Rattle.ff_types.specs.declared.faces.Folded.{Folded}
use Rattle.ff_types.specs.Sheets.{Sheet, sheet_of, mark_of, bounds}
use Rattle.ff_types.specs.Covering.{lies_left, lies_right}
use Rattle.ff_types.specs.Cites.{lesser, greater, on_one_side}
use Rattle.ff_types.specs.Terms.{matching, opposed}
use Rattle.ff_types.specs.FoldedPatterns.{IsFoldedPattern}
use Rattle.ff_borders.specs.Lying.{IsLeftAlone, IsRightAlone}
use Rattle.ff_borders.specs.Terms.{MatchingLies}
use Rattle.ff_borders.proofs.TwoSides.{lesser_bounds, greater_bounds}
use Rattle.ff_borders.proofs.Lying.{flat_faces_part}

-- ---- two faces on one side

two_left : (g : Sheet) (e f k : ℕ) → IsTrue (lies_left g e f) → IsTrue (lies_left g e k)
    → on_one_side g e (f ∷ k ∷ []) ≡ true
two_left g e f k a b = of_first _ _
    (of_both (lies_left g e f) (lies_left g e k && true) a (of_both (lies_left g e k) true b refl))

two_right : (g : Sheet) (e f k : ℕ) → IsTrue (lies_right g e f) → IsTrue (lies_right g e k)
    → on_one_side g e (f ∷ k ∷ []) ≡ true
two_right g e f k a b = of_second _ _
    (of_both (lies_right g e f) (lies_right g e k && true) a (of_both (lies_right g e k) true b refl))

none_of : (a b c d : Bool) → b ≡ false → c ≡ false → (a && (b && true)) || (c && (d && true)) ≡ false
none_of true true c d x y = absurd (false≢true (sym x))
none_of a b true d x y = absurd (false≢true (sym y))
none_of true false false d x y = refl
none_of false b false d x y = refl

none_of_too : (a b c d : Bool) → a ≡ false → d ≡ false → (a && (b && true)) || (c && (d && true)) ≡ false
none_of_too true b c d x y = absurd (false≢true (sym x))
none_of_too a b c true x y = absurd (false≢true (sym y))
none_of_too false b true false x y = refl
none_of_too false b false false x y = refl

-- one on the left and one on the right
left_right : (g : Sheet) (e f k : ℕ) → IsLeftAlone g e f → IsRightAlone g e k
    → on_one_side g e (f ∷ k ∷ []) ≡ false
left_right g e f k a b = none_of (lies_left g e f) (lies_left g e k) (lies_right g e f) (lies_right g e k) b.1
    a.1

right_left : (g : Sheet) (e f k : ℕ) → IsRightAlone g e f → IsLeftAlone g e k
    → on_one_side g e (f ∷ k ∷ []) ≡ false
right_left g e f k a b = none_of_too (lies_left g e f) (lies_left g e k) (lies_right g e f) (lies_right g e k)
    a.1 b.1

-- ---- the two faces of the edge

-- a property of both, in either order, is one of the matching and the opposed face
pub by_matching : (g : Sheet) (R : ℕ → ℕ → Type 0) (e f k : ℕ)
    → (on_one_side g e (f ∷ lesser g k ∷ []) ≡ true → R (lesser g k) (greater g k))
    → (on_one_side g e (f ∷ lesser g k ∷ []) ≡ false → R (greater g k) (lesser g k))
    → R (matching g e f k) (opposed g e f k)
by_matching g R e f k x y = by (on_one_side g e (f ∷ lesser g k ∷ [])) x y where
  by : (b : Bool) → (b ≡ true → R (lesser g k) (greater g k)) → (b ≡ false → R (greater g k) (lesser g k))
      → R (if b then lesser g k else greater g k) (if b then greater g k else lesser g k)
  by true x y = x refl
  by false x y = y refl

module _ {pattern : Pattern} {faces : Faces} {folded : Folded}
    (h : IsFoldedPattern pattern faces folded) where
  abbrev g : Sheet
  g = sheet_of pattern faces folded

  pub matching_lies : MatchingLies g
  matching_lies e k f s plain on t = (
    (λ a. by_matching g (λ x y. IsLeftAlone g e x × IsRightAlone g e y) e f k
        (λ same. elim (flat_faces_part h e k s plain on t)
        [ inl p ↦ p | inr p ↦ absurd (false≢true (sym (left_right g e f (lesser g k) a p.0) ∙ same)) ])
        (λ other. elim (flat_faces_part h e k s plain on t) [
          | inl p ↦ absurd (false≢true (sym other ∙ two_left g e f (lesser g k) a.0 p.0.0))
          | inr p ↦
              (p.1, p.0)
        ])),
    (λ a. by_matching g (λ x y. IsRightAlone g e x × IsLeftAlone g e y) e f k
        (λ same. elim (flat_faces_part h e k s plain on t)
        [ inl p ↦ absurd (false≢true (sym (right_left g e f (lesser g k) a p.0) ∙ same)) | inr p ↦ p ])
        (λ other. elim (flat_faces_part h e k s plain on t) [
          | inl p ↦ (p.1, p.0)
          | inr p ↦ absurd
              (false≢true (sym other ∙ two_right g e f (lesser g k) a.0 p.0.0))
        ])),
  )

  -- both are faces of the edge
  pub matching_bounds : (e f k : ℕ) → k < length pattern.edges → mark_of g k ≢ B
      → IsTrue (bounds g k (matching g e f k)) × IsTrue (bounds g k (opposed g e f k))
  matching_bounds e f k l n = by_matching g (λ x y. IsTrue (bounds g k x) × IsTrue (bounds g k y)) e f k
      (λ d. (lesser_bounds h k l n, greater_bounds h k l n))
      (λ d. (greater_bounds h k l n, lesser_bounds h k l n))
