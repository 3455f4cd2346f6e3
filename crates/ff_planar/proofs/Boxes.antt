-- A vertex inside a ring is within each extent that is round its corners.
use Rattle.std.proofs.Common.{◌≡◌, ◌⊎◌, inl, inr, ℕ, ◌+◌, ◌<◌, ◌≤◌, List, [], ◌∷◌, length, arith, refl, sym, ap, ◌∙◌, subst, ℤ, pos, neg_ℤ, ◌-ℤ◌, ◌<ℤ◌, ◌≤ℤ◌, ◌+ℤ◌, ◌*ℤ◌}
use Rattle.std.proofs.lemmas.Int.{ints, by_lt_z}
use Rattle.std.specs.List.Sorted.{IsPermutation}
use Rattle.std.proofs.lemmas.Bool.{cases_lt}
use Rattle.ff_basics.proofs.Numbers.{last_or}
use Rattle.ff_whole.specs.declared.points.Pt.{Pt}
use Rattle.ff_whole.specs.declared.lines.Line.{Line}
use Rattle.ff_whole.specs.Points.{IsNear}
use Rattle.ff_whole.specs.Places.{height, place_of}
use Rattle.ff_whole.specs.Convex.{point_at, next}
use Rattle.ff_whole.proofs.Signs.{linear, le-mul_left}
use Rattle.ff_whole.proofs.ClosedLists.{next-below}
use Rattle.ff_whole.proofs.Ring.{var, num, opp, ◌⊗◌, ◌⊕◌, ◌⊖◌, solve}
use Rattle.ff_whole.proofs.Turns.{height-through}
use Rattle.ff_whole.proofs.Slabs.{left-closed}
use Rattle.ff_types.specs.Rings.{corner}
use Rattle.ff_types.specs.Faces.{ring_at}
use Rattle.ff_drawn.specs.declared.extents.Extent.{Extent}
use Rattle.ff_drawn.proofs.VertexSpots.{same_each, same_all}
use Rattle.ff_planar.specs.Reflex.{IsInside}
use Rattle.ff_drawn.specs.Extents.{extent_at, IsAround, AreInOrder, IsVertexExtent, AreVertexExtents}
use Rattle.ff_planar.specs.Frames.{IsAroundCorners, IsRingExtent, AreRingExtents, AreWest, HoldsNone, AreHollow, NoneInside}

-- how far a point is from the lines through p, south to north
upwards : (p q : Pt) → height (record { a = pos 0; b = pos 1; c = p.y }) (place_of q) ≡ q.y -ℤ p.y
upwards p q = solve (q.x ∷ q.y ∷ p.y ∷ []) ((num (pos 0) ⊗ var 0 ⊕ num (pos 1) ⊗ var 1) ⊖ var 2 ⊗ num (pos 1)) (var 1 ⊖ var 2) refl

downwards : (p q : Pt) → height (record { a = pos 0; b = neg_ℤ (pos 1); c = neg_ℤ p.y }) (place_of q) ≡ p.y -ℤ q.y
downwards p q = solve (q.x ∷ q.y ∷ p.y ∷ []) ((num (pos 0) ⊗ var 0 ⊕ opp (num (pos 1)) ⊗ var 1) ⊖ opp (var 2) ⊗ num (pos 1)) (var 2 ⊖ var 1) refl

-- the same of steep lines
steeply : (k : ℤ) (p q : Pt) → height (record { a = k; b = neg_ℤ (pos 1); c = k *ℤ p.x -ℤ p.y }) (place_of q) ≡ k *ℤ (q.x -ℤ p.x) -ℤ (q.y -ℤ p.y)
steeply k p q = solve (k ∷ q.x ∷ q.y ∷ p.x ∷ p.y ∷ []) ((var 0 ⊗ var 1 ⊕ opp (num (pos 1)) ⊗ var 2) ⊖ (var 0 ⊗ var 3 ⊖ var 4) ⊗ num (pos 1)) (var 0 ⊗ (var 1 ⊖ var 3) ⊖ (var 2 ⊖ var 4)) refl

backwards : (k : ℤ) (p q : Pt) → height (record { a = neg_ℤ k; b = pos 1; c = p.y -ℤ k *ℤ p.x }) (place_of q) ≡ k *ℤ (p.x -ℤ q.x) -ℤ (p.y -ℤ q.y)
backwards k p q = solve (k ∷ q.x ∷ q.y ∷ p.x ∷ p.y ∷ []) ((opp (var 0) ⊗ var 1 ⊕ num (pos 1) ⊗ var 2) ⊖ (var 4 ⊖ var 0 ⊗ var 3) ⊗ num (pos 1)) (var 0 ⊗ (var 3 ⊖ var 1) ⊖ (var 4 ⊖ var 2)) refl

flat : (k : ℤ) (p : Pt) → k *ℤ (p.x -ℤ p.x) -ℤ (p.y -ℤ p.y) ≡ pos 0 -ℤ pos 0
flat k p = solve (k ∷ p.x ∷ p.y ∷ []) (var 0 ⊗ (var 1 ⊖ var 1) ⊖ (var 2 ⊖ var 2)) (num (pos 0) ⊖ num (pos 0)) refl

pub not_less : (a b : ℤ) → (b <ℤ a → ⊥) → a ≤ℤ b
not_less a b h = by_lt_z b a (λ l. absurd (h l)) (λ l. l)

by_order : {P : Type 0} (a b : ℤ) → a ≤ℤ b → (a <ℤ b → P) → (a ≡ b → P) → P
by_order a b l f g = by_lt_z a b f (λ m. g (omega (arith, linear, l, m)))

times_nothing : (k : ℤ) → k *ℤ pos 0 ≡ pos 0
times_nothing k = solve (k ∷ []) (var 0 ⊗ num (pos 0)) (num (pos 0)) refl

-- a step to the left of a point that begins right below or above it
steep_west : (px py qx qy nx ny : ℤ) → px ≡ qx → px ≤ℤ nx → pos 0 <ℤ (((nx -ℤ qx) *ℤ (py -ℤ qy)) -ℤ ((ny -ℤ qy) *ℤ (px -ℤ qx))) → qy <ℤ py
steep_west px py qx qy nx ny e l h = by_lt_z qy py (λ o. o) (λ o.
    let d : px -ℤ qx ≡ pos 0 = omega (arith, linear, e) in
    let z = ap (λ t. (ny -ℤ qy) *ℤ t) d in
    let x = le-mul_left (nx -ℤ qx) (py -ℤ qy) (pos 0) (omega (arith, linear, l, e)) (omega (arith, linear, o)) in
    let f = times_nothing (ny -ℤ qy) in
    let g = times_nothing (nx -ℤ qx) in
    absurd (omega (arith, linear, h, x, z, f, g)))

steep_east : (px py qx qy nx ny : ℤ) → px ≡ qx → nx ≤ℤ px → pos 0 <ℤ (((nx -ℤ qx) *ℤ (py -ℤ qy)) -ℤ ((ny -ℤ qy) *ℤ (px -ℤ qx))) → py <ℤ qy
steep_east px py qx qy nx ny e l h = by_lt_z py qy (λ o. o) (λ o.
    let d : px -ℤ qx ≡ pos 0 = omega (arith, linear, e) in
    let z = ap (λ t. (ny -ℤ qy) *ℤ t) d in
    let x = le-mul_left (qx -ℤ nx) (pos 0) (py -ℤ qy) (omega (arith, linear, l, e)) (omega (arith, linear, o)) in
    let f = times_nothing (ny -ℤ qy) in
    let g = times_nothing (qx -ℤ nx) in
    let w : (nx -ℤ qx) *ℤ (py -ℤ qy) ≡ neg_ℤ ((qx -ℤ nx) *ℤ (py -ℤ qy)) = solve (nx ∷ qx ∷ py ∷ qy ∷ []) ((var 0 ⊖ var 1) ⊗ (var 2 ⊖ var 3)) (opp ((var 1 ⊖ var 0) ⊗ (var 2 ⊖ var 3))) refl in
    absurd (omega (arith, linear, h, x, z, f, g, w)))

-- what is right of a steep line, or right above where it comes from below
tall : (k d r : ℤ) → pos 0 ≤ℤ k → pos 0 <ℤ d → r <ℤ k → pos 0 <ℤ ((k *ℤ d) -ℤ r)
tall k d r f g l =
    let x = le-mul_left k (pos 1) d f (omega (arith, linear, g)) in
    let y : k *ℤ pos 1 ≡ k = solve (k ∷ []) (var 0 ⊗ num (pos 1)) (var 0) refl in
    omega (arith, linear, x, y, l)

level : (k d r : ℤ) → d ≡ pos 0 → r <ℤ pos 0 → pos 0 <ℤ ((k *ℤ d) -ℤ r)
level k d r e l = let z = ap (λ t. k *ℤ t) e in let y = times_nothing k in omega (arith, linear, z, y, l)

at_zero : {h : ℤ} (z : ℤ) → h ≡ z -ℤ z → h ≡ pos 0
at_zero z e = omega (arith, linear, e)

module _ (points : List Pt) (ring : List ℕ) (v : ℕ) (some : 0 < length ring) (inside : IsInside points ring v) where
  abbrev p : Pt
  p = point_at points v

  abbrev at : ℕ → Pt
  at i = point_at points (corner ring i)

  -- not all corners are strictly left of a line through it
  not_all_left : (l : Line) → height l (place_of p) ≡ pos 0 → ((i : ℕ) → i < length ring → pos 0 <ℤ height l (place_of (at i))) → ⊥
  not_all_left l on all =
      let h = left-closed (length ring) at (place_of p) (omega (arith, ints)) some (λ i m. subst (λ z. pos 0 <ℤ z) (sym (height-through (at i) (at (next (length ring) i)) p)) (inside i m)) l all in
      omega (arith, linear, h, on)

  -- a corner right below or above it is on the side that the next step leaves behind
  below_first : (i : ℕ) → i < length ring → p.x ≤ℤ (at (next (length ring) i)).x → p.x ≡ (at i).x → (at i).y <ℤ p.y
  below_first i m l e = steep_west p.x p.y (at i).x (at i).y (at (next (length ring) i)).x (at (next (length ring) i)).y e l (inside i m)

  above_last : (i : ℕ) → i < length ring → (at (next (length ring) i)).x ≤ℤ p.x → p.x ≡ (at i).x → p.y <ℤ (at i).y
  above_last i m l e = steep_east p.x p.y (at i).x (at i).y (at (next (length ring) i)).x (at (next (length ring) i)).y e l (inside i m)

  module _ (e : Extent) (a : IsAroundCorners points ring (length ring) e) where
    pub not_south : p.y <ℤ e.low.y → ⊥
    not_south l = not_all_left (record { a = pos 0; b = pos 1; c = p.y }) (at_zero p.y (upwards p p)) (λ i m. let w = (a.around i m).south in let h = upwards p (at i) in omega (arith, linear, w, l, h))

    pub not_north : e.high.y <ℤ p.y → ⊥
    not_north l = not_all_left (record { a = pos 0; b = neg_ℤ (pos 1); c = neg_ℤ p.y }) (at_zero p.y (downwards p p)) (λ i m. let w = (a.around i m).north in let h = downwards p (at i) in omega (arith, linear, w, l, h))

    -- more than the height of the extent
    abbrev steep : ℤ
    steep = (e.high.y -ℤ e.low.y) +ℤ pos 1

    pub not_west : p.x ≤ℤ e.low.x → ⊥
    not_west l = not_all_left (record { a = steep; b = neg_ℤ (pos 1); c = steep *ℤ p.x -ℤ p.y }) (at_zero (pos 0) (steeply steep p p ∙ flat steep p)) (λ i m. subst (λ z. pos 0 <ℤ z) (sym (steeply steep p (at i))) (here i m)) where
      here : (i : ℕ) → i < length ring → pos 0 <ℤ ((steep *ℤ ((at i).x -ℤ p.x)) -ℤ ((at i).y -ℤ p.y))
      here i m =
          let w = (a.around i m).west in
          let n = (a.around (next (length ring) i) (next-below (length ring) i m)).west in
          let north = (a.around i m).north in
          let south = not_less e.low.y p.y not_south in
          let high = (a.around i m).south in
          by_order p.x (at i).x (omega (arith, linear, w, l))
          (λ o. tall steep ((at i).x -ℤ p.x) ((at i).y -ℤ p.y) (omega (arith, linear, north, high)) (omega (arith, linear, o)) (omega (arith, linear, north, south)))
          (λ o. let k = below_first i m (omega (arith, linear, n, l)) o in level steep ((at i).x -ℤ p.x) ((at i).y -ℤ p.y) (omega (arith, linear, o)) (omega (arith, linear, k)))

    pub not_east : e.high.x ≤ℤ p.x → ⊥
    not_east l = not_all_left (record { a = neg_ℤ steep; b = pos 1; c = p.y -ℤ steep *ℤ p.x }) (at_zero (pos 0) (backwards steep p p ∙ flat steep p)) (λ i m. subst (λ z. pos 0 <ℤ z) (sym (backwards steep p (at i))) (here i m)) where
      here : (i : ℕ) → i < length ring → pos 0 <ℤ ((steep *ℤ (p.x -ℤ (at i).x)) -ℤ (p.y -ℤ (at i).y))
      here i m =
          let w = (a.around i m).east in
          let n = (a.around (next (length ring) i) (next-below (length ring) i m)).east in
          let south = (a.around i m).south in
          let north = not_less p.y e.high.y not_north in
          let high = (a.around i m).north in
          by_order (at i).x p.x (omega (arith, linear, w, l))
          (λ o. tall steep (p.x -ℤ (at i).x) (p.y -ℤ (at i).y) (omega (arith, linear, south, high)) (omega (arith, linear, o)) (omega (arith, linear, north, south)))
          (λ o. let k = above_last i m (omega (arith, linear, n, l)) (sym o) in level steep (p.x -ℤ (at i).x) (p.y -ℤ (at i).y) (omega (arith, linear, o)) (omega (arith, linear, k)))

-- ---- lists of extents

pub same_rings : (points : List Pt) (rings : List (List ℕ)) (old new : List Extent) → AreRingExtents points rings old → IsPermutation old new → AreRingExtents points rings new
same_rings points rings old new a p = record { each = same_each (IsRingExtent points rings) old new p a.each; all = same_all (length rings) old new p a.all }

-- one corner more
pub around_more : (points : List Pt) (ring : List ℕ) (n : ℕ) (old new : Extent) → IsAroundCorners points ring n old → IsNear new.low → IsNear new.high → IsAround (point_at points (corner ring n)) new
    → ((q : Pt) → IsAround q old → IsAround q new) → IsAroundCorners points ring (n + 1) new
around_more points ring n old new a low high here others = record {
  low_near = low;
  high_near = high;
  around = λ k l. elim (last_or k n l) [ inl o ↦ others _ (a.around k o) | inr e ↦ subst (λ i. IsAround (point_at points (corner ring i)) new) (sym e) here ];
}

pub ring_is : (points : List Pt) (rings : List (List ℕ)) (f : ℕ) (ring : List ℕ) (e : Extent) → f < length rings → ring ≡ ring_at rings f → e.number ≡ f → IsAroundCorners points ring (length ring) e → IsRingExtent points rings e
ring_is points rings f ring e l same number a = record {
  there = subst (λ k. k < length rings) (sym number) l;
  corners = subst (λ (r : List ℕ). IsAroundCorners points r (length r) e) (same ∙ ap (ring_at rings) (sym number)) a;
}

-- ---- no vertex inside

pub west_more : (spots : List Extent) (frame : Extent) (n : ℕ) → AreWest spots frame n → (extent_at spots n).low.x ≤ℤ frame.low.x → AreWest spots frame (n + 1)
west_more spots frame n h l j m = elim (last_or j n m) [ inl o ↦ h j o | inr e ↦ subst (λ k. (extent_at spots k).low.x ≤ℤ frame.low.x) (sym e) l ]

-- a vertex with such an extent isn't inside
module _ (points : List Pt) (ring : List ℕ) (some : 0 < length ring) (frame : Extent) (a : IsAroundCorners points ring (length ring) frame) (v : Extent) (e : IsVertexExtent points v) where
  pub none_west : v.low.x ≤ℤ frame.low.x → IsInside points ring v.number → ⊥
  none_west l h = not_west points ring v.number some h frame a (subst (λ (q : Pt). q.x ≤ℤ frame.low.x) e.low_is l)

  pub none_east : frame.high.x ≤ℤ v.low.x → IsInside points ring v.number → ⊥
  none_east l h = not_east points ring v.number some h frame a (subst (λ (q : Pt). frame.high.x ≤ℤ q.x) e.low_is l)

  pub none_south : v.low.y <ℤ frame.low.y → IsInside points ring v.number → ⊥
  none_south l h = not_south points ring v.number some h frame a (subst (λ (q : Pt). q.y <ℤ frame.low.y) e.low_is l)

  pub none_north : frame.high.y <ℤ v.low.y → IsInside points ring v.number → ⊥
  none_north l h = not_north points ring v.number some h frame a (subst (λ (q : Pt). frame.high.y <ℤ q.y) e.low_is l)

module _ (points : List Pt) (ring : List ℕ) (some : 0 < length ring) (frame : Extent) (a : IsAroundCorners points ring (length ring) frame) (spots : List Extent) (s : AreVertexExtents points spots) where
  pub holds_more : (start n : ℕ) → HoldsNone points ring spots start n → (IsInside points ring (extent_at spots n).number → ⊥) → HoldsNone points ring spots start (n + 1)
  holds_more start n h x j l m = elim (last_or j n m) [ inl o ↦ h j l o | inr e ↦ subst (λ k. IsInside points ring (extent_at spots k).number → ⊥) (sym e) x ]

  pub holds_rest : (start n : ℕ) → AreInOrder spots → n < length spots → frame.high.x ≤ℤ (extent_at spots n).low.x → HoldsNone points ring spots start n → HoldsNone points ring spots start (length spots)
  holds_rest start n o l east h j m k = elim (which j n) [
    | inl x ↦ h j m x
    | inr (inl x) ↦ none_east points ring some frame a (extent_at spots j) (s.each j k) (let w = o.rises n j x k in omega (arith, linear, w, east))
    | inr (inr x) ↦ none_east points ring some frame a (extent_at spots j) (s.each j k) (subst (λ i. frame.high.x ≤ℤ (extent_at spots i).low.x) (sym x) east)
  ]
    where
      which : (i j : ℕ) → (i < j) ⊎ ((j < i) ⊎ (i ≡ j))
      which i j = grind arith

  pub holds_all : (start : ℕ) → start ≤ length spots → AreWest spots frame start → HoldsNone points ring spots start (length spots) → HoldsNone points ring spots 0 (length spots)
  holds_all start l w h j m k = elim (cases_lt j start) [
    | inl x ↦ none_west points ring some frame a (extent_at spots j) (s.each j k) (w j x)
    | inr x ↦ h j x k
  ]

pub none_inside : (points : List Pt) (rings : List (List ℕ)) (spots frames : List Extent) (n : ℕ) → AreVertexExtents points spots → AreRingExtents points rings frames → AreHollow points rings spots frames n → length frames ≤ n → NoneInside points rings
none_inside points rings spots frames n s r h l f v m k i =
    let x = r.all f m in
    let y = s.all v k in
    h x.0 (let o = x.1 in omega (arith, o, l)) y.0 (omega arith) y.1 (subst (λ g. IsInside points (ring_at rings g) (extent_at spots y.0).number) (sym x.2) (subst (IsInside points (ring_at rings f)) (sym y.2) i))

-- one ring more
pub west_of_next : (spots frames : List Extent) (i start : ℕ) → AreInOrder frames → AreWest spots (extent_at frames i) start → (k : ℕ) → i + 1 ≤ k → k < length frames → AreWest spots (extent_at frames k) start
west_of_next spots frames i start o w k l m j n = let a = w j n in let b = o.rises i k (omega (arith, l)) m in omega (arith, linear, a, b)

pub hollow_more : (points : List Pt) (rings : List (List ℕ)) (spots frames : List Extent) (i start : ℕ) (ring : List ℕ) → ((f : ℕ) → f < length rings → 0 < length (ring_at rings f)) → AreVertexExtents points spots → AreRingExtents points rings frames
    → i < length frames → ring ≡ ring_at rings (extent_at frames i).number → start ≤ length spots → AreWest spots (extent_at frames i) start → HoldsNone points ring spots start (length spots)
    → AreHollow points rings spots frames i → AreHollow points rings spots frames (i + 1)
hollow_more points rings spots frames i start ring some s r l same within west none h k m = elim (last_or k i m) [
  | inl o ↦ h k o
  | inr e ↦ subst (λ n. HoldsNone points (ring_at rings (extent_at frames n).number) spots 0 (length spots)) (sym e) here
]
  where
    here : HoldsNone points (ring_at rings (extent_at frames i).number) spots 0 (length spots)
    here = let x = r.each i l in
        holds_all points (ring_at rings (extent_at frames i).number) (some (extent_at frames i).number x.there) (extent_at frames i) x.corners spots s start within west (subst (λ q. HoldsNone points q spots start (length spots)) same none)
