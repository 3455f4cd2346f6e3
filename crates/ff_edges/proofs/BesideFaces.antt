-- No part of an edge is inside a face that it is beside.
use Rattle.std.proofs.Common.{◌≡◌, inl, inr, sym, subst, arith, ℕ, ◌<◌, ◌≤◌, ℤ, pos, neg_ℤ, ◌-ℤ◌, ◌*ℤ◌, ◌≤ℤ◌, refl, List, [], ◌∷◌, length}
use Rattle.std.proofs.lemmas.Int.{ints}
use Rattle.ff_basics.proofs.Tests.{both_of}
use Rattle.ff_whole.specs.declared.points.Pt.{Pt}
use Rattle.ff_whole.specs.declared.lines.Line.{Line}
use Rattle.ff_whole.specs.declared.places.Place.{Place}
use Rattle.ff_whole.specs.Places.{place_of, height, blend}
use Rattle.ff_whole.specs.Convex.{point_at}
use Rattle.ff_whole.proofs.Formulas.{point_e, point_env, place_e, place_env, place_of_e, height_e}
use Rattle.ff_whole.proofs.Ring.{var, num, opp, ◌⊖◌, ◌⊗◌, solve}
use Rattle.ff_whole.proofs.Signs.{linear}
use Rattle.ff_whole.proofs.Images.{distance_positive}
use Rattle.ff_types.specs.declared.patterns.Pattern.{Pattern}
use Rattle.ff_types.specs.declared.faces.Faces.{Faces}
use Rattle.ff_types.specs.declared.faces.Folded.{Folded}
use Rattle.ff_types.specs.Rings.{corner}
use Rattle.ff_types.specs.Faces.{ring_at}
use Rattle.ff_types.specs.Sheets.{Sheet, sheet_of, tail, head, lies_up}
use Rattle.ff_types.specs.Borders.{is_on}
use Rattle.ff_types.specs.Segments.{HasEdgeInside}
use Rattle.ff_types.specs.FoldedPatterns.{IsFoldedPattern}
use Rattle.ff_types.proofs.FoldedEdges.{ends_apart}
use Rattle.ff_edges.specs.declared.extents.Extent.{Extent}
use Rattle.ff_edges.specs.Extents.{IsRoundEdge, IsRoundFace, IsBeside, AreExtents, IsRoundAll}
use Rattle.ff_edges.proofs.OnWays.{on_from, not_left_on}
use Rattle.ff_edges.proofs.FaceParts.{blend_place, blend_on}
use Rattle.ff_edges.proofs.FaceSteps.{inner_of}
use Rattle.ff_edges.proofs.StrictlyInside.{HasDirection, strictly_left}

-- the lines from south to north and from west to east, with what is past them on the left
abbrev pub past_x : ℤ → Line
past_x c = record { a = pos 1; b = pos 0; c = c }

abbrev pub before_x : ℤ → Line
before_x c = record { a = neg_ℤ (pos 1); b = pos 0; c = neg_ℤ c }

abbrev pub past_y : ℤ → Line
past_y c = record { a = pos 0; b = pos 1; c = c }

abbrev pub before_y : ℤ → Line
before_y c = record { a = pos 0; b = neg_ℤ (pos 1); c = neg_ℤ c }

pub over_past_x : (c : ℤ) (p : Pt) → height (past_x c) (place_of p) ≡ p.x -ℤ c
over_past_x c p = let p' = point_e 0 in
    solve (point_env p (c ∷ [])) (height_e (record { a = num (pos 1); b = num (pos 0); c = var 2 }) (place_of_e p')) (p'.x ⊖ var 2) refl

pub over_before_x : (c : ℤ) (p : Pt) → height (before_x c) (place_of p) ≡ c -ℤ p.x
over_before_x c p = let p' = point_e 0 in
    solve (point_env p (c ∷ [])) (height_e (record { a = opp (num (pos 1)); b = num (pos 0); c = opp (var 2) }) (place_of_e p')) (var 2 ⊖ p'.x) refl

pub over_past_y : (c : ℤ) (p : Pt) → height (past_y c) (place_of p) ≡ p.y -ℤ c
over_past_y c p = let p' = point_e 0 in
    solve (point_env p (c ∷ [])) (height_e (record { a = num (pos 0); b = num (pos 1); c = var 2 }) (place_of_e p')) (p'.y ⊖ var 2) refl

pub over_before_y : (c : ℤ) (p : Pt) → height (before_y c) (place_of p) ≡ c -ℤ p.y
over_before_y c p = let p' = point_e 0 in
    solve (point_env p (c ∷ [])) (height_e (record { a = num (pos 0); b = opp (num (pos 1)); c = opp (var 2) }) (place_of_e p')) (var 2 ⊖ p'.y) refl

-- the same of places
pub at_past_x : (c : ℤ) (s : Place) → height (past_x c) s ≡ s.x -ℤ s.w *ℤ c
at_past_x c s = let s' = place_e 0 in
    solve (place_env s (c ∷ [])) (height_e (record { a = num (pos 1); b = num (pos 0); c = var 3 }) s') (s'.x ⊖ s'.w ⊗ var 3) refl

pub at_before_x : (c : ℤ) (s : Place) → height (before_x c) s ≡ s.w *ℤ c -ℤ s.x
at_before_x c s = let s' = place_e 0 in
    solve (place_env s (c ∷ [])) (height_e (record { a = opp (num (pos 1)); b = num (pos 0); c = opp (var 3) }) s') (s'.w ⊗ var 3 ⊖ s'.x) refl

pub at_past_y : (c : ℤ) (s : Place) → height (past_y c) s ≡ s.y -ℤ s.w *ℤ c
at_past_y c s = let s' = place_e 0 in
    solve (place_env s (c ∷ [])) (height_e (record { a = num (pos 0); b = num (pos 1); c = var 3 }) s') (s'.y ⊖ s'.w ⊗ var 3) refl

pub at_before_y : (c : ℤ) (s : Place) → height (before_y c) s ≡ s.w *ℤ c -ℤ s.y
at_before_y c s = let s' = place_e 0 in
    solve (place_env s (c ∷ [])) (height_e (record { a = num (pos 0); b = opp (num (pos 1)); c = opp (var 3) }) s') (s'.w ⊗ var 3 ⊖ s'.y) refl

module _ {pattern : Pattern} {faces : Faces} {folded : Folded} (h : IsFoldedPattern pattern faces folded) where
  abbrev g : Sheet
  g = sheet_of pattern faces folded

  module _ (e f : ℕ) (edge : e < length pattern.edges) (face : f < length faces.rings) where
    -- a line that no corner of the face is right of and no end of the edge is left of
    parted : (l : Line) → HasDirection l → ((k : ℕ) → k < length (ring_at g.rings f) → pos 0 ≤ℤ height l (place_of (point_at g.images (corner (ring_at g.rings f) k))))
        → height l (place_of (tail g e)) ≤ℤ pos 0 → height l (place_of (head g e)) ≤ℤ pos 0 → HasEdgeInside g f e → ⊥
    parted l d all low high c =
        let m = blend 1 c.s 1 c.t in
        let on = both_of (is_on g e c.s) (is_on g e c.t) c.on in
        let there = blend_on (tail g e) (head g e) 1 1 c.s c.t (on_from (tail g e) (head g e) c.s on.0) (on_from (tail g e) (head g e) c.t on.1) in
        let three = (h.faces_are.rings_are.each f face).three in
        let up = strictly_left g.images (lies_up g f) (ring_at g.rings f) m (blend_place 1 1 c.s c.t (omega arith) c.s_place c.t_place) (omega (arith, three)) (inner_of g f m (c.inside 1 1 (omega arith) (omega arith))) l d all in
        let down = not_left_on l (tail g e) (head g e) m (distance_positive (tail g e) (head g e) (ends_apart h e edge)) there low high in
        omega (arith, linear)

    pub beside_none : (a b : Extent) → IsRoundEdge g e a → IsRoundFace g f b → IsBeside a b → HasEdgeInside g f e → ⊥
    beside_none a b r s (inl (inl w)) =
        let t = r.tail.east in let u = r.head.east in
        let x = over_past_x b.low.x (tail g e) in let y = over_past_x b.low.x (head g e) in
        parted (past_x b.low.x) (inl (λ i. omega (arith, ints, i))) (λ k l. let v = (s k l).west in let z = over_past_x b.low.x (point_at g.images (corner (ring_at g.rings f) k)) in omega (arith, linear))
        (omega (arith, linear)) (omega (arith, linear))
    beside_none a b r s (inl (inr w)) =
        let t = r.tail.west in let u = r.head.west in
        let x = over_before_x b.high.x (tail g e) in let y = over_before_x b.high.x (head g e) in
        parted (before_x b.high.x) (inl (λ i. omega (arith, ints, i))) (λ k l. let v = (s k l).east in let z = over_before_x b.high.x (point_at g.images (corner (ring_at g.rings f) k)) in omega (arith, linear))
        (omega (arith, linear)) (omega (arith, linear))
    beside_none a b r s (inr (inl w)) =
        let t = r.tail.north in let u = r.head.north in
        let x = over_past_y b.low.y (tail g e) in let y = over_past_y b.low.y (head g e) in
        parted (past_y b.low.y) (inr (λ i. omega (arith, ints, i))) (λ k l. let v = (s k l).south in let z = over_past_y b.low.y (point_at g.images (corner (ring_at g.rings f) k)) in omega (arith, linear))
        (omega (arith, linear)) (omega (arith, linear))
    beside_none a b r s (inr (inr w)) =
        let t = r.tail.south in let u = r.head.south in
        let x = over_before_y b.high.y (tail g e) in let y = over_before_y b.high.y (head g e) in
        parted (before_y b.high.y) (inr (λ i. omega (arith, ints, i))) (λ k l. let v = (s k l).north in let z = over_before_y b.high.y (point_at g.images (corner (ring_at g.rings f) k)) in omega (arith, linear))
        (omega (arith, linear)) (omega (arith, linear))

  -- nor inside one of a block that it is beside
  pub block_none : (e from to : ℕ) (a b : Extent) (extents : List Extent) → e < length pattern.edges → AreExtents (IsRoundFace g) (length faces.rings) extents → IsRoundAll extents from to b
      → IsRoundEdge g e a → IsBeside a b → (f : ℕ) → from ≤ f → f < to → f < length faces.rings → HasEdgeInside g f e → ⊥
  block_none e from to a b extents edge x all r w f low l face =
      let inside = subst (λ n. f < n) (sym x.count) face in
      beside_none e f edge face a b r (λ k m. all f low l inside _ (x.round f face k m)) w
