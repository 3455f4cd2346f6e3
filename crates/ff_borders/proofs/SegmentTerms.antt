-- The terms where two edges share a segment.
use Rattle.std.proofs.Common.{◌≡◌, ◌≢◌, ℕ, ◌<◌, ◌⊎◌, inl, inr, refl, sym, subst, Bool, true, IsTrue, List, [], ◌∷◌, length}
use Rattle.std.specs.List.{list_all}
use Rattle.ff_basics.proofs.Tests.{both_of, either_of}
use Rattle.ff_whole.specs.declared.places.Place.{Place}
use Rattle.ff_types.specs.declared.patterns.Pattern.{Pattern}
use Rattle.ff_types.specs.declared.patterns.Mark.TheVariants.{B}
use Rattle.ff_types.specs.declared.faces.Faces.{Faces}
use Rattle.ff_types.specs.declared.faces.Folded.{Folded}
use Rattle.ff_types.specs.Sheets.{Sheet, sheet_of, mark_of, bounds}
use Rattle.ff_types.specs.Inside.{Overlap}
use Rattle.ff_types.specs.Borders.{is_on, IsPlainBorder}
use Rattle.ff_types.specs.Covering.{is_on_ring, lies_left, lies_right}
use Rattle.ff_types.specs.Segments.{ShareSegment}
use Rattle.ff_types.specs.Cites.{is_folded_edge, is_flat_edge, lesser, greater, on_one_side}
use Rattle.ff_types.specs.Terms.{matching, opposed}
use Rattle.ff_types.specs.FoldedPatterns.{IsFoldedPattern}
use Rattle.ff_borders.specs.Terms.{IsOverlapping}
use Rattle.ff_borders.proofs.Tests.{on_ring_edge}
use Rattle.ff_borders.proofs.TwoSides.{lesser_bounds, greater_bounds}
use Rattle.ff_borders.proofs.Lying.{flat_faces_part, folded_faces_meet}
use Rattle.ff_borders.proofs.Running.{sharing_have_no_common, segments_have_plain}
use Rattle.ff_borders.proofs.Matching.{matching_lies, matching_bounds}
use Rattle.ff_borders.proofs.PairKeys.{pairs_apart, in_their_order, also, Each, Distinct}
use Rattle.ff_borders.proofs.CoveringFaces.{left_overlap, right_overlap, lesser_there, greater_there, differ}

module _ {pattern : Pattern} {faces : Faces} {folded : Folded}
    (h : IsFoldedPattern pattern faces folded) where
  abbrev g : Sheet
  g = sheet_of pattern faces folded

  -- faces of the two are different
  apart : (e k : ℕ) → e < length pattern.edges → k < length pattern.edges → e ≢ k → ShareSegment g e k
      → (f j : ℕ) → IsTrue (bounds g e f) → IsTrue (bounds g k j) → f ≢ j
  apart e k el kl ne p f j b c d =
      sharing_have_no_common h e k f el kl ne p b (subst (λ x. IsTrue (bounds g k x)) (sym d) c)

  abbrev six : ℕ → ℕ → ℕ → ℕ → List (ℕ × ℕ)
  six a b c d = (a, b) ∷ (a, c) ∷ (a, d) ∷ (b, c) ∷ (b, d) ∷ (c, d) ∷ []

  six_distinct : (a b c d : ℕ) → a ≢ b → a ≢ c → a ≢ d → b ≢ c → b ≢ d → c ≢ d → Distinct (six a b c d)
  six_distinct a b c d ab ac ad bc bd cd =
      also (also (pairs_apart a b a c (inr bc) (inl ac)) (also (pairs_apart a b a d (inr bd) (inl ad))
      (also (pairs_apart a b b c (inl ab) (inl ac)) (also (pairs_apart a b b d (inl ab) (inl ad))
      (also (pairs_apart a b c d (inl ac) (inl ad)) tt)))))
      (also (also (pairs_apart a c a d (inr cd) (inl ad)) (also (pairs_apart a c b c (inl ab) (inl ac))
      (also (pairs_apart a c b d (inl ab) (inl ad)) (also (pairs_apart a c c d (inl ac) (inl ad)) tt))))
      (also (also (pairs_apart a d b c (inl ab) (inl ac)) (also (pairs_apart a d b d (inl ab) (inl ad))
      (also (pairs_apart a d c d (inl ac) (inl ad)) tt)))
      (also (also (pairs_apart b c b d (inr cd) (inl bd)) (also (pairs_apart b c c d (inl bc) (inl bd)) tt))
      (also (also (pairs_apart b d c d (inl bc) (inl bd)) tt) (tt, tt)))))

  -- one of the four
  abbrev OneOf : ℕ → ℕ → ℕ → ℕ → ℕ → Type 0
  OneOf a b c d x = (x ≡ a) ⊎ ((x ≡ b) ⊎ ((x ≡ c) ⊎ (x ≡ d)))

  six_overlap : (a b c d : ℕ) → ((x y : ℕ) → x ≢ y → OneOf a b c d x → OneOf a b c d y → Overlap g x y)
      → a ≢ b → a ≢ c → a ≢ d → b ≢ c → b ≢ d → c ≢ d → Each (IsOverlapping g) (six a b c d)
  six_overlap a b c d o ab ac ad bc bd cd =
      let first : OneOf a b c d a = inl refl in
      let second : OneOf a b c d b = inr (inl refl) in
      let third : OneOf a b c d c = inr (inr (inl refl)) in
      let fourth : OneOf a b c d d = inr (inr (inr refl)) in
      also (in_their_order g a b (o a b ab first second)) (also (in_their_order g a c (o a c ac first third))
      (also (in_their_order g a d (o a d ad first fourth))
      (also (in_their_order g b c (o b c bc second third))
      (also (in_their_order g b d (o b d bd second fourth))
      (also (in_their_order g c d (o c d cd third fourth)) tt)))))

  module _ (e k : ℕ) (el : e < length pattern.edges) (kl : k < length pattern.edges) (ne : e ≢ k)
      (en : mark_of g e ≢ B) (kn : mark_of g k ≢ B) (share : ShareSegment g e k) where
    abbrev a : ℕ
    a = lesser g e

    abbrev b : ℕ
    b = greater g e

    abbrev c : ℕ
    c = lesser g k

    abbrev d : ℕ
    d = greater g k

    be : IsTrue (bounds g e a) × IsTrue (bounds g e b)
    be = (lesser_bounds h e el en, greater_bounds h e el en)

    bk : IsTrue (bounds g k c) × IsTrue (bounds g k d)
    bk = (lesser_bounds h k kl kn, greater_bounds h k kl kn)

    -- a plain border place of both
    abbrev Placed : Place → Type 0
    Placed s = IsPlainBorder g e s × IsTrue (is_on g k s)

    placed : (s : Place) × Placed s
    placed = let r = segments_have_plain h e k el kl share in (r.0, (r.1.0, r.2.0.on))

    -- all four faces on one side of the first edge
    module _ (side : IsTrue (on_one_side g e (a ∷ b ∷ c ∷ d ∷ []))) where
      all_overlap : (x y : ℕ) → x ≢ y → OneOf a b c d x → OneOf a b c d y → Overlap g x y
      all_overlap x y n p q = by placed where
        there : (s : Place) → Placed s → (x : ℕ) → OneOf a b c d x → IsTrue (is_on_ring g x s)
        there s l x (inl i) = subst (λ z. IsTrue (is_on_ring g z s)) (sym i)
            (lesser_there h e s l.0 e el en l.0.on)
        there s l x (inr (inl i)) =
            subst (λ z. IsTrue (is_on_ring g z s)) (sym i) (greater_there h e s l.0 e el en l.0.on)
        there s l x (inr (inr (inl i))) =
            subst (λ z. IsTrue (is_on_ring g z s)) (sym i) (lesser_there h e s l.0 k kl kn l.1)
        there s l x (inr (inr (inr i))) =
            subst (λ z. IsTrue (is_on_ring g z s)) (sym i) (greater_there h e s l.0 k kl kn l.1)

        each : (test : ℕ → Bool) → IsTrue (list_all test (a ∷ b ∷ c ∷ d ∷ [])) → (x : ℕ) → OneOf a b c d x
            → IsTrue (test x)
        each test t x i =
            let u = both_of (test a) (list_all test (b ∷ c ∷ d ∷ [])) t in
            let v = both_of (test b) (list_all test (c ∷ d ∷ [])) u.1 in
            let w = both_of (test c) (list_all test (d ∷ [])) v.1 in
            let z = both_of (test d) true w.1 in
            elim i [
              | inl j ↦ subst (λ r. IsTrue (test r)) (sym j) u.0
              | inr j ↦ elim j [
                | inl m ↦ subst (λ r. IsTrue (test r)) (sym m) v.0
                | inr m ↦ elim m [
                  | inl o ↦ subst (λ r. IsTrue (test r)) (sym o) w.0
                  | inr o ↦ subst (λ r. IsTrue (test r)) (sym o) z.0
                ]
              ]
            ]

        by : (s : Place) × Placed s → Overlap g x y
        by (s, l) = elim (either_of (list_all (lies_left g e) (a ∷ b ∷ c ∷ d ∷ []))
            (list_all (lies_right g e) (a ∷ b ∷ c ∷ d ∷ [])) side) [
              | inl t ↦ left_overlap h e s l.0 x y n (there s l x p) (there s l y q)
                  (each (lies_left g e) t x p) (each (lies_left g e) t y q)
              | inr t ↦ right_overlap h e s l.0 x y n (there s l x p) (there s l y q)
                  (each (lies_right g e) t x p) (each (lies_right g e) t y q)
            ]

    ab : a ≢ b
    ab = differ h e el en

    cd : c ≢ d
    cd = differ h k kl kn

    ac : a ≢ c
    ac = apart e k el kl ne share a c be.0 bk.0

    ad : a ≢ d
    ad = apart e k el kl ne share a d be.0 bk.1

    bc : b ≢ c
    bc = apart e k el kl ne share b c be.1 bk.0

    bd : b ≢ d
    bd = apart e k el kl ne share b d be.1 bk.1

    pub taco_terms : IsTrue (on_one_side g e (a ∷ b ∷ c ∷ d ∷ [])) → Each (IsOverlapping g) (six a b c d)
    taco_terms side = six_overlap a b c d (all_overlap side) ab ac ad bc bd cd

    pub taco_distinct : Distinct (six a b c d)
    taco_distinct = six_distinct a b c d ab ac ad bc bd cd

    -- ---- the second edge is flat

    module _ (flat : IsTrue (is_flat_edge g k)) where
      abbrev m : ℕ
      m = matching g e a k

      abbrev o : ℕ
      o = opposed g e a k

      bm : IsTrue (bounds g k m) × IsTrue (bounds g k o)
      bm = matching_bounds h e a k kl kn

      am : a ≢ m
      am = apart e k el kl ne share a m be.0 bm.0

      bm_apart : b ≢ m
      bm_apart = apart e k el kl ne share b m be.1 bm.0

      bo : b ≢ o
      bo = apart e k el kl ne share b o be.1 bm.1

      ao : a ≢ o
      ao = apart e k el kl ne share a o be.0 bm.1

      -- the first is folded
      pub edge_terms : IsTrue (is_folded_edge g e) → Each (IsOverlapping g) ((a, m) ∷ (b, m) ∷ [])
      edge_terms folded_too = by placed where
        by : (s : Place) × Placed s → Each (IsOverlapping g) ((a, m) ∷ (b, m) ∷ [])
        by (s, l) = elim (folded_faces_meet h e e s l.0 l.0.on folded_too) [
          | inl p ↦ (let q = (matching_lies h e k a s l.0 l.1 flat).0 p.0 in
              also (in_their_order g a m (left_overlap h e s l.0 a m am at_a at_m p.0.0 q.0.0))
              (also (in_their_order g b m (left_overlap h e s l.0 b m bm_apart at_b at_m p.1.0 q.0.0)) tt))
          | inr p ↦ (let q = (matching_lies h e k a s l.0 l.1 flat).1 p.0 in
              also (in_their_order g a m (right_overlap h e s l.0 a m am at_a at_m p.0.0 q.0.0))
              (also (in_their_order g b m (right_overlap h e s l.0 b m bm_apart at_b at_m p.1.0 q.0.0)) tt))
        ] where
          at_a : IsTrue (is_on_ring g a s)
          at_a = lesser_there h e s l.0 e el en l.0.on

          at_b : IsTrue (is_on_ring g b s)
          at_b = greater_there h e s l.0 e el en l.0.on

          at_m : IsTrue (is_on_ring g m s)
          at_m = on_ring_edge g m k s kl l.1 bm.0

      pub edge_distinct : Distinct ((a, m) ∷ (b, m) ∷ [])
      edge_distinct = ((pairs_apart a m b m (inl ab) (inl am), tt), (tt, tt))

      -- the first is flat too
      pub flats_terms : IsTrue (is_flat_edge g e) → Each (IsOverlapping g) ((a, m) ∷ (b, o) ∷ [])
      flats_terms flat_too = by placed where
        by : (s : Place) × Placed s → Each (IsOverlapping g) ((a, m) ∷ (b, o) ∷ [])
        by (s, l) = elim (flat_faces_part h e e s l.0 l.0.on flat_too) [
          | inl p ↦ (let q = (matching_lies h e k a s l.0 l.1 flat).0 p.0 in
              also (in_their_order g a m (left_overlap h e s l.0 a m am at_a at_m p.0.0 q.0.0))
              (also (in_their_order g b o (right_overlap h e s l.0 b o bo at_b at_o p.1.0 q.1.0)) tt))
          | inr p ↦ (let q = (matching_lies h e k a s l.0 l.1 flat).1 p.0 in
              also (in_their_order g a m (right_overlap h e s l.0 a m am at_a at_m p.0.0 q.0.0))
              (also (in_their_order g b o (left_overlap h e s l.0 b o bo at_b at_o p.1.0 q.1.0)) tt))
        ] where
          at_a : IsTrue (is_on_ring g a s)
          at_a = lesser_there h e s l.0 e el en l.0.on

          at_b : IsTrue (is_on_ring g b s)
          at_b = greater_there h e s l.0 e el en l.0.on

          at_m : IsTrue (is_on_ring g m s)
          at_m = on_ring_edge g m k s kl l.1 bm.0

          at_o : IsTrue (is_on_ring g o s)
          at_o = on_ring_edge g o k s kl l.1 bm.1

      pub flats_distinct : Distinct ((a, m) ∷ (b, o) ∷ [])
      flats_distinct = ((pairs_apart a m b o (inl ab) (inl ao), tt), (tt, tt))
