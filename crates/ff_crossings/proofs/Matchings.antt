-- The faces of a flat edge that match and oppose a face, and edges with all their faces on one side, at a
-- plain border place, by any edge that holds it.
use Rattle.std.proofs.Common.{◌≡◌, ℕ, ◌<◌, inl, inr, Bool, true, false, ◌&&◌, List, [], ◌∷◌, length, refl, sym, ap, ◌∙◌, IsTrue}
use Rattle.std.specs.Prelude.{if◌then◌else◌}
use Rattle.std.specs.List.{list_all}
use Rattle.std.proofs.lemmas.Bool.{false≢true, and_from, and_left, and_right, and_parts, or_left, or_right, or_from, or_cases}
use Rattle.ff_whole.specs.declared.places.Place.{Place}
use Rattle.ff_types.specs.Sheets.{Sheet}
use Rattle.ff_types.specs.Borders.{is_on, IsPlainBorder}
use Rattle.ff_types.specs.Covering.{lies_left, lies_right}
use Rattle.ff_types.specs.Cites.{lesser, greater, on_one_side}
use Rattle.ff_types.specs.Terms.{matching, opposed}
use Rattle.ff_borders.specs.Lying.{IsLeftAlone, IsRightAlone}
use Rattle.ff_crossings.proofs.BorderLaws.{HasBorderLaws}
use Rattle.ff_crossings.proofs.ChordForms.{left_of, right_of, IsFlatThere, IsLeftThere, IsRightThere}

third : (p q r t : Bool) → (p && (q && (r && (t && true)))) ≡ true → r ≡ true
third p q r t h = (and_parts r (t && true)
    (and_parts q (r && (t && true)) (and_parts p (q && (r && (t && true))) h).1).1).0

module _ (g : Sheet) (e : ℕ) where
  both_left : (f h : ℕ) → IsLeftAlone g e f → IsLeftAlone g e h → on_one_side g e (f ∷ h ∷ []) ≡ true
  both_left f h a b = or_left _ _ (and_from _ _ a.0 (and_from _ _ b.0 refl))

  both_right : (f h : ℕ) → IsRightAlone g e f → IsRightAlone g e h → on_one_side g e (f ∷ h ∷ []) ≡ true
  both_right f h a b = or_right _ _ (and_from _ _ a.0 (and_from _ _ b.0 refl))

  left_right : (f h : ℕ) → IsLeftAlone g e f → IsRightAlone g e h → on_one_side g e (f ∷ h ∷ []) ≡ false
  left_right f h a b =
      or_from _ _ (and_right (lies_left g e f) (lies_left g e h && true)
      (and_left (lies_left g e h) true b.1)) (and_left (lies_right g e f) (lies_right g e h && true) a.1)

  right_left : (f h : ℕ) → IsRightAlone g e f → IsLeftAlone g e h → on_one_side g e (f ∷ h ∷ []) ≡ false
  right_left f h a b =
      or_from _ _ (and_left (lies_left g e f) (lies_left g e h && true) a.1)
      (and_right (lies_right g e f) (lies_right g e h && true) (and_left (lies_right g e h) true b.1))

  four_left : (a b c d : ℕ) → IsLeftAlone g e a → IsLeftAlone g e b → IsLeftAlone g e c → IsLeftAlone g e d
      → IsTrue (on_one_side g e (a ∷ b ∷ c ∷ d ∷ []))
  four_left a b c d p q r t =
      or_left _ _ (and_from _ _ p.0 (and_from _ _ q.0 (and_from _ _ r.0 (and_from _ _ t.0 refl))))

  four_right : (a b c d : ℕ) → IsRightAlone g e a → IsRightAlone g e b → IsRightAlone g e c
      → IsRightAlone g e d → IsTrue (on_one_side g e (a ∷ b ∷ c ∷ d ∷ []))
  four_right a b c d p q r t =
      or_right _ _ (and_from _ _ p.0 (and_from _ _ q.0 (and_from _ _ r.0 (and_from _ _ t.0 refl))))

  -- of the first and the third of four one isn't on the left, and one isn't on the right
  four_apart : (a b c d : ℕ) → lies_left g e c ≡ false → lies_right g e a ≡ false → IsTrue
      (on_one_side g e (a ∷ b ∷ c ∷ d ∷ [])) → ⊥
  four_apart a b c d p q t =
      elim (or_cases (list_all (lies_left g e) (a ∷ b ∷ c ∷ d ∷ []))
      (list_all (lies_right g e) (a ∷ b ∷ c ∷ d ∷ [])) t) [
        | inl h ↦ false≢true
            (sym p ∙ third (lies_left g e a) (lies_left g e b) (lies_left g e c) (lies_left g e d) h)
        | inr h ↦ false≢true
            (sym q ∙ (and_parts (lies_right g e a) (list_all (lies_right g e) (b ∷ c ∷ d ∷ [])) h).0)
      ]

  four_apart_too : (a b c d : ℕ) → lies_left g e a ≡ false → lies_right g e c ≡ false → IsTrue
      (on_one_side g e (a ∷ b ∷ c ∷ d ∷ [])) → ⊥
  four_apart_too a b c d p q t =
      elim (or_cases (list_all (lies_left g e) (a ∷ b ∷ c ∷ d ∷ []))
      (list_all (lies_right g e) (a ∷ b ∷ c ∷ d ∷ [])) t) [
        | inl h ↦ false≢true
            (sym p ∙ (and_parts (lies_left g e a) (list_all (lies_left g e) (b ∷ c ∷ d ∷ [])) h).0)
        | inr h ↦ false≢true
            (sym q ∙ third (lies_right g e a) (lies_right g e b) (lies_right g e c) (lies_right g e d) h)
      ]

  -- what the test chooses
  chosen : (x y : ℕ) (t v : Bool) → t ≡ v → (if t then x else y) ≡ (if v then x else y)
  chosen x y t v q = ap (λ b. if b then x else y) q

module _ (g : Sheet) (laws : HasBorderLaws g) (e : ℕ) (s : Place) (plain : IsPlainBorder g e s) (k : ℕ)
    (number : k < length g.edges) (on : IsTrue (is_on g k s)) where
  -- by the edge k it is as by e
  one_side_same : (faces : List ℕ) → on_one_side g k faces ≡ on_one_side g e faces
  one_side_same faces = laws.one_side e k faces (laws.along e k s plain number on).sides

  module _ (f : ℕ) (b : Bool) (l : ℕ) (flat : IsFlatThere g e s b l) where
    pub matching_left : IsLeftAlone g e f → matching g k f l ≡ left_of g b l
    matching_left a = by b flat where
      by : (b : Bool) → IsFlatThere g e s b l → matching g k f l ≡ left_of g b l
      by true t = chosen g e (lesser g l) (greater g l) _ true
          (one_side_same (f ∷ lesser g l ∷ []) ∙ both_left g e f (lesser g l) a t.left)
      by false t = chosen g e (lesser g l) (greater g l) _ false
          (one_side_same (f ∷ lesser g l ∷ []) ∙ left_right g e f (lesser g l) a t.right)

    pub opposed_left : IsLeftAlone g e f → opposed g k f l ≡ right_of g b l
    opposed_left a = by b flat where
      by : (b : Bool) → IsFlatThere g e s b l → opposed g k f l ≡ right_of g b l
      by true t = chosen g e (greater g l) (lesser g l) _ true
          (one_side_same (f ∷ lesser g l ∷ []) ∙ both_left g e f (lesser g l) a t.left)
      by false t = chosen g e (greater g l) (lesser g l) _ false
          (one_side_same (f ∷ lesser g l ∷ []) ∙ left_right g e f (lesser g l) a t.right)

    pub matching_right : IsRightAlone g e f → matching g k f l ≡ right_of g b l
    matching_right a = by b flat where
      by : (b : Bool) → IsFlatThere g e s b l → matching g k f l ≡ right_of g b l
      by true t = chosen g e (lesser g l) (greater g l) _ false
          (one_side_same (f ∷ lesser g l ∷ []) ∙ right_left g e f (lesser g l) a t.left)
      by false t = chosen g e (lesser g l) (greater g l) _ true
          (one_side_same (f ∷ lesser g l ∷ []) ∙ both_right g e f (lesser g l) a t.right)

    pub opposed_right : IsRightAlone g e f → opposed g k f l ≡ left_of g b l
    opposed_right a = by b flat where
      by : (b : Bool) → IsFlatThere g e s b l → opposed g k f l ≡ left_of g b l
      by true t = chosen g e (greater g l) (lesser g l) _ false
          (one_side_same (f ∷ lesser g l ∷ []) ∙ right_left g e f (lesser g l) a t.left)
      by false t = chosen g e (greater g l) (lesser g l) _ true
          (one_side_same (f ∷ lesser g l ∷ []) ∙ both_right g e f (lesser g l) a t.right)

  abbrev faces_with : ℕ → List ℕ
  faces_with l = lesser g k ∷ greater g k ∷ lesser g l ∷ greater g l ∷ []

  pub left_caps_one_side : (l : ℕ) → IsLeftThere g e s k → IsLeftThere g e s l → IsTrue
      (on_one_side g k (faces_with l))
  left_caps_one_side l p q =
      one_side_same (faces_with l) ∙ four_left g e (lesser g k) (greater g k) (lesser g l)
      (greater g l) p.first p.second q.first q.second

  pub right_caps_one_side : (l : ℕ) → IsRightThere g e s k → IsRightThere g e s l → IsTrue
      (on_one_side g k (faces_with l))
  right_caps_one_side l p q =
      one_side_same (faces_with l) ∙ four_right g e (lesser g k) (greater g k) (lesser g l)
      (greater g l) p.first p.second q.first q.second

  pub left_right_apart : (l : ℕ) → IsLeftThere g e s k → IsRightThere g e s l → IsTrue
      (on_one_side g k (faces_with l)) → ⊥
  left_right_apart l p q t =
      four_apart g e (lesser g k) (greater g k) (lesser g l) (greater g l) q.first.1 p.first.1
      (sym (one_side_same (faces_with l)) ∙ t)

  pub right_left_apart : (l : ℕ) → IsRightThere g e s k → IsLeftThere g e s l → IsTrue
      (on_one_side g k (faces_with l)) → ⊥
  right_left_apart l p q t =
      four_apart_too g e (lesser g k) (greater g k) (lesser g l) (greater g l) p.first.1 q.first.1
      (sym (one_side_same (faces_with l)) ∙ t)
