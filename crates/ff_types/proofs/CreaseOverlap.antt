-- A convex ring folded along a crease: its two faces overlap.
use Rattle.std.proofs.Common.{◌≡◌, ◌≢◌, ℕ, ◌+◌, ◌<◌, ◌≤◌, ◌⊎◌, inl, inr, refl, sym, ◌∙◌, ap, subst, arith, ℤ, pos, ◌+ℤ◌, ◌*ℤ◌, ◌<ℤ◌, ◌≤ℤ◌, Bool, true, false, not, ◌&&◌, IsTrue, List, [], ◌∷◌, length}
use Rattle.std.proofs.lemmas.Bool.{false≢true}
use Rattle.std.proofs.lemmas.List.{length-map}
use Rattle.std.specs.Prelude.{neg_ℤ}
use lib.IntN.{*ℤ-zero}
use Rattle.std.proofs.lemmas.Int.{ints, by_lt_z}
use Rattle.ff_basics.proofs.Tests.{both_of}
use Rattle.ff_whole.specs.declared.points.Pt.{Pt}
use Rattle.ff_whole.specs.declared.places.Place.{Place}
use Rattle.ff_whole.specs.Points.{turn}
use Rattle.ff_whole.specs.Places.{place_of, through, height}
use Rattle.ff_whole.specs.Convex.{next, point_at, IsConvex}
use Rattle.ff_whole.proofs.Ring.{var, num, ◌⊕◌, ◌⊖◌, ◌⊗◌, opp, solve}
use Rattle.ff_whole.proofs.Signs.{linear, pos-mul, pos-mul_neg, nonneg-mul}
use Rattle.ff_whole.proofs.ClosedLists.{next-below}
use Rattle.ff_whole.proofs.Directions.{turn-first}
use Rattle.ff_types.specs.Rings.{corner, corners, Goes}
use Rattle.ff_types.specs.Faces.{ring_at}
use Rattle.ff_types.specs.Foldings.{signed, RingKeepsShape}
use Rattle.ff_types.specs.Sheets.{Sheet, lies_up}
use Rattle.ff_types.specs.Inside.{is_inside, depth, Overlap}
use Rattle.ff_types.proofs.ConvexEdges.{turn-last, turn_cycled, turn_swapped}
use Rattle.ff_types.proofs.SubRings.{corner_point}
use Rattle.ff_types.specs.OneCrease.{inner, outer}
use Rattle.ff_types.proofs.CutRings.{inner_goes, inner_closes, inner_steps, outer_crosses, outer_steps}
use Rattle.ff_types.proofs.OneCrease.{IsChord}
use Rattle.ff_types.proofs.FoldedOverlap.{Good, overlap_near, inside_step}

height_point : (p q r : Pt) → height (through p q) (place_of r) ≡ turn p q r
height_point p q r = solve (p.x ∷ p.y ∷ q.x ∷ q.y ∷ r.x ∷ r.y ∷ [])
    (((var 1 ⊖ var 3) ⊗ var 4 ⊕ (var 2 ⊖ var 0) ⊗ var 5) ⊖ ((var 1 ⊖ var 3) ⊗ var 0 ⊕ (var 2 ⊖ var 0) ⊗ var 1) ⊗ num (pos 1))
    ((var 2 ⊖ var 0) ⊗ (var 5 ⊖ var 1) ⊖ (var 3 ⊖ var 1) ⊗ (var 4 ⊖ var 0)) refl

-- the place in the middle of two points
abbrev middle : Pt → Pt → Place
middle a b = record { x = a.x +ℤ b.x; y = a.y +ℤ b.y; w = pos 2 }

height_middle : (p q a b : Pt) → height (through p q) (middle a b) ≡ turn p q a +ℤ turn p q b
height_middle p q a b = solve (p.x ∷ p.y ∷ q.x ∷ q.y ∷ a.x ∷ a.y ∷ b.x ∷ b.y ∷ [])
    (((var 1 ⊖ var 3) ⊗ (var 4 ⊕ var 6) ⊕ (var 2 ⊖ var 0) ⊗ (var 5 ⊕ var 7)) ⊖ ((var 1 ⊖ var 3) ⊗ var 0 ⊕ (var 2 ⊖ var 0) ⊗ var 1) ⊗ num (pos 2))
    (((var 2 ⊖ var 0) ⊗ (var 5 ⊖ var 1) ⊖ (var 3 ⊖ var 1) ⊗ (var 4 ⊖ var 0)) ⊕ ((var 2 ⊖ var 0) ⊗ (var 7 ⊖ var 1) ⊖ (var 3 ⊖ var 1) ⊗ (var 6 ⊖ var 0))) refl

signed_twice : (b : Bool) (z : ℤ) → signed b (signed b z) ≡ z
signed_twice true z = refl
signed_twice false z = solve (z ∷ []) (opp (opp (var 0))) (var 0) refl

signed_other : (a b : Bool) (z : ℤ) → a ≡ not b → signed a (signed b z) ≡ neg_ℤ z
signed_other true true z e = absurd (false≢true (sym e))
signed_other true false z e = refl
signed_other false true z e = refl
signed_other false false z e = absurd (false≢true e)

signed_plus : (b : Bool) (x y : ℤ) → signed b (x +ℤ y) ≡ signed b x +ℤ signed b y
signed_plus true x y = refl
signed_plus false x y = solve (x ∷ y ∷ []) (opp (var 0 ⊕ var 1)) (opp (var 0) ⊕ opp (var 1)) refl

-- the vertex stands in the list
pub record Listed (list : List ℕ) (x : ℕ) : Type 0 where
  pub at : ℕ
  pub inside : at < length list
  pub there : corner list at ≡ x

from_listed : (list : List ℕ) (u v : ℕ) → Goes list u v → Listed list u
from_listed list u v g = record { at = g.place; inside = g.inside; there = g.from }

to_listed : (list : List ℕ) (u v : ℕ) → Goes list u v → Listed list v
to_listed list u v g = record { at = next (length list) g.place; inside = next-below (length list) g.place g.inside; there = g.to }

turns_equal : (p q r u v w : Pt) → p ≡ u → q ≡ v → r ≡ w → turn p q r ≡ turn u v w
turns_equal p q r u v w e f g = ap (λ x. turn x q r) e ∙ (ap (λ y. turn u y r) f ∙ ap (λ z. turn u v z) g)

module _ (points images : List Pt) (scale : ℤ) where
  -- three corners of a face keep their turn, times the scale twice, and turned round where the face is down
  turn_kept : (list : List ℕ) (up : Bool) → RingKeepsShape scale up (corners points list) (corners images list) → (x y z : ℕ) → Listed list x → Listed list y → Listed list z
      → turn (point_at images x) (point_at images y) (point_at images z) ≡ signed up ((scale *ℤ scale) *ℤ turn (point_at points x) (point_at points y) (point_at points z))
  turn_kept list up k x y z a b c =
      turns_equal _ _ _ _ _ _ (at_corner images x a) (at_corner images y b) (at_corner images z c)
      ∙ ((k a.at b.at c.at (listed_size a) (listed_size b) (listed_size c)).crosses
      ∙ ap (λ t. signed up ((scale *ℤ scale) *ℤ t)) (sym (turns_equal _ _ _ _ _ _ (at_corner points x a) (at_corner points y b) (at_corner points z c)))) where
        at_corner : (ps : List Pt) (x : ℕ) (l : Listed list x) → point_at ps x ≡ point_at (corners ps list) l.at
        at_corner ps x l = sym (corner_point ps list l.at l.inside ∙ ap (point_at ps) l.there)

        listed_size : {x : ℕ} (l : Listed list x) → l.at < length (corners points list)
        listed_size l = subst (λ m. l.at < m) (sym (length-map list (point_at points))) l.inside

  -- how deep the image of a corner, and the middle of two, lie on the inner side of a step
  module _ (g : Sheet) (same_images : g.images ≡ images) (f : ℕ) (list : List ℕ) (keeps : RingKeepsShape scale (lies_up g f) (corners points list) (corners images list)) where
    depth_point : (x y z : ℕ) → depth g f (place_of (point_at images z)) (x, y) ≡ signed (lies_up g f) (turn (point_at images x) (point_at images y) (point_at images z))
    depth_point x y z = ap (λ ps. signed (lies_up g f) (height (through (point_at ps x) (point_at ps y)) (place_of (point_at images z)))) same_images ∙ ap (signed (lies_up g f)) (height_point (point_at images x) (point_at images y) (point_at images z))

    depth_corner : (x y z : ℕ) → Listed list x → Listed list y → Listed list z → depth g f (place_of (point_at images z)) (x, y) ≡ (scale *ℤ scale) *ℤ turn (point_at points x) (point_at points y) (point_at points z)
    depth_corner x y z a b c = depth_point x y z ∙ (ap (signed (lies_up g f)) (turn_kept list (lies_up g f) keeps x y z a b c) ∙ signed_twice (lies_up g f) _)

    depth_middle : (x y z w : ℕ) → Listed list x → Listed list y → Listed list z → Listed list w → depth g f (middle (point_at images z) (point_at images w)) (x, y)
        ≡ (scale *ℤ scale) *ℤ turn (point_at points x) (point_at points y) (point_at points z) +ℤ (scale *ℤ scale) *ℤ turn (point_at points x) (point_at points y) (point_at points w)
    depth_middle x y z w a b c d = ap (λ ps. signed (lies_up g f) (height (through (point_at ps x) (point_at ps y)) (middle (point_at images z) (point_at images w)))) same_images
        ∙ (ap (signed (lies_up g f)) (height_middle (point_at images x) (point_at images y) (point_at images z) (point_at images w))
        ∙ (signed_plus (lies_up g f) _ _
        ∙ sum (ap (signed (lies_up g f)) (turn_kept list (lies_up g f) keeps x y z a b c) ∙ signed_twice (lies_up g f) _) (ap (signed (lies_up g f)) (turn_kept list (lies_up g f) keeps x y w a b d) ∙ signed_twice (lies_up g f) _))) where
          sum : {a b c d : ℤ} → a ≡ c → b ≡ d → a +ℤ b ≡ c +ℤ d
          sum {a} {b} {c} {d} e f = ap (λ z. z +ℤ b) e ∙ ap (λ z. c +ℤ z) f

-- a sum of two numbers that aren't negative and aren't both_of 0, times a square
deep : (s a b : ℤ) → pos 1 ≤ℤ s → pos 0 ≤ℤ a → pos 0 ≤ℤ b → (a ≡ pos 0 → b ≡ pos 0 → ⊥) → pos 0 <ℤ ((s *ℤ s) *ℤ a +ℤ (s *ℤ s) *ℤ b)
deep s a b h k l n =
    let q = pos-mul s s (omega (arith, ints, h)) (omega (arith, ints, h)) in
    by_lt_z (pos 0) a
    (λ m. let x = pos-mul (s *ℤ s) a q m in let y = nonneg-mul (s *ℤ s) b (omega (arith, linear)) l in omega (arith, linear))
    (λ m. by_lt_z (pos 0) b
    (λ o. let x = nonneg-mul (s *ℤ s) a (omega (arith, linear)) k in let y = pos-mul (s *ℤ s) b q o in omega (arith, linear))
    (λ o. absurd (n (omega (arith, linear)) (omega (arith, linear)))))

flat_sum : (s a b : ℤ) → a ≡ pos 0 → b ≡ pos 0 → (s *ℤ s) *ℤ a +ℤ (s *ℤ s) *ℤ b ≡ pos 0
flat_sum s a b e f = let x = ap (λ z. (s *ℤ s) *ℤ z) e ∙ *ℤ-zero (s *ℤ s) in let y = ap (λ z. (s *ℤ s) *ℤ z) f ∙ *ℤ-zero (s *ℤ s) in omega (arith, linear)

-- The two faces of a sheet that is folded along one crease overlap, whichever is numbered first.
module _ (points : List Pt) (ring : IsConvex points) (i j : ℕ) (chord : IsChord points i j) (images : List Pt) (scale : ℤ) (positive : pos 1 ≤ℤ scale)
    (g : Sheet) (same_images : g.images ≡ images) (f h : ℕ) (f_ring : ring_at g.rings f ≡ inner i j) (h_ring : ring_at g.rings h ≡ outer (length points) i j) (folded : lies_up g h ≡ not (lies_up g f))
    (f_keeps : RingKeepsShape scale (lies_up g f) (corners points (inner i j)) (corners images (inner i j)))
    (h_keeps : RingKeepsShape scale (lies_up g h) (corners points (outer (length points) i j)) (corners images (outer (length points) i j))) where
  abbrev n : ℕ
  n = length points

  abbrev R : ℕ → Pt
  R k = point_at points k

  abbrev P : ℕ → Pt
  P k = point_at images k

  i_low : i < n
  i_low = omega (arith, chord.far, chord.low)

  i_inner : Listed (inner i j) i
  i_inner = to_listed (inner i j) j i (inner_closes n i j chord.far chord.low)

  j_inner : Listed (inner i j) j
  j_inner = from_listed (inner i j) j i (inner_closes n i j chord.far chord.low)

  i_outer : Listed (outer n i j) i
  i_outer = from_listed (outer n i j) i j (outer_crosses n i j chord.far chord.low)

  j_outer : Listed (outer n i j) j
  j_outer = to_listed (outer n i j) i j (outer_crosses n i j chord.far chord.low)

  -- no step of the ring has the crease on its line
  step_deep : (k : ℕ) → k < n → pos 0 <ℤ ((scale *ℤ scale) *ℤ turn (R k) (R (next n k)) (R i) +ℤ (scale *ℤ scale) *ℤ turn (R k) (R (next n k)) (R j))
  step_deep k l = deep scale (turn (R k) (R (next n k)) (R i)) (turn (R k) (R (next n k)) (R j)) positive (ring.left k i l i_low) (ring.left k j l chord.low) (chord.across k l)

  module _ (m : ℕ) (im : i < m) (mj : m < j) (right : turn (R i) (R j) (R m) <ℤ pos 0) where
    m_inner : Listed (inner i j) m
    m_inner = from_listed (inner i j) m (next n m) (inner_goes n i j chord.far chord.low m (omega (arith, im)) mj)

    square : pos 0 <ℤ (scale *ℤ scale)
    square = pos-mul scale scale (omega (arith, ints, positive)) (omega (arith, ints, positive))

    inner_good : (x y : ℕ) → Goes (inner i j) x y → Good g f (middle (P i) (P j)) (place_of (P m)) (x, y)
    inner_good x y s = by (inner_steps n i j chord.far chord.low x y s) where
      a : Listed (inner i j) x
      a = from_listed (inner i j) x y s

      b : Listed (inner i j) y
      b = to_listed (inner i j) x y s

      mid : depth g f (middle (P i) (P j)) (x, y) ≡ (scale *ℤ scale) *ℤ turn (R x) (R y) (R i) +ℤ (scale *ℤ scale) *ℤ turn (R x) (R y) (R j)
      mid = depth_middle points images scale g same_images f (inner i j) f_keeps x y i j a b i_inner j_inner

      by : ((i ≤ x) × (x < j) × (y ≡ next n x)) ⊎ ((x ≡ j) × (y ≡ i)) → Good g f (middle (P i) (P j)) (place_of (P m)) (x, y)
      by (inl (l, h, e)) = inl (subst (λ z. pos 0 <ℤ z) (sym mid) (subst (λ q. pos 0 <ℤ ((scale *ℤ scale) *ℤ turn (R x) (R q) (R i) +ℤ (scale *ℤ scale) *ℤ turn (R x) (R q) (R j))) (sym e) (step_deep x (omega (arith, h, chord.low)))))
      by (inr (e, f')) = inr (
        mid ∙ flat_sum scale _ _ (turns_equal _ _ _ _ _ _ (ap R e) (ap R f') refl ∙ turn-last (R j) (R i)) (turns_equal _ _ _ _ _ _ (ap R e) (ap R f') refl ∙ turn-first (R j) (R i)),
        subst (λ z. pos 0 <ℤ z) (sym (depth_corner points images scale g same_images f (inner i j) f_keeps x y m a b m_inner)) (pos-mul (scale *ℤ scale) _ square over),
      ) where
        over : pos 0 <ℤ turn (R x) (R y) (R m)
        over = let t = turns_equal (R x) (R y) (R m) (R j) (R i) (R m) (ap R e) (ap R f') refl in let u = turn_cycled (R j) (R i) (R m) in let v = turn_swapped (R i) (R m) (R j) in omega (arith, linear)

    outer_good : (x y : ℕ) → Goes (outer n i j) x y → Good g h (middle (P i) (P j)) (place_of (P m)) (x, y)
    outer_good x y s = by (outer_steps n i j chord.far chord.low x y s) where
      a : Listed (outer n i j) x
      a = from_listed (outer n i j) x y s

      b : Listed (outer n i j) y
      b = to_listed (outer n i j) x y s

      mid : depth g h (middle (P i) (P j)) (x, y) ≡ (scale *ℤ scale) *ℤ turn (R x) (R y) (R i) +ℤ (scale *ℤ scale) *ℤ turn (R x) (R y) (R j)
      mid = depth_middle points images scale g same_images h (outer n i j) h_keeps x y i j a b i_outer j_outer

      by : (((x < i) ⊎ (j ≤ x)) × (x < n) × (y ≡ next n x)) ⊎ ((x ≡ i) × (y ≡ j)) → Good g h (middle (P i) (P j)) (place_of (P m)) (x, y)
      by (inl (l, k, e)) = inl (subst (λ z. pos 0 <ℤ z) (sym mid) (subst (λ q. pos 0 <ℤ ((scale *ℤ scale) *ℤ turn (R x) (R q) (R i) +ℤ (scale *ℤ scale) *ℤ turn (R x) (R q) (R j))) (sym e) (step_deep x k)))
      by (inr (e, f')) = inr (mid ∙ flat_sum scale _ _ (turns_equal _ _ _ _ _ _ (ap R e) (ap R f') refl ∙ turn-first (R i) (R j)) (turns_equal _ _ _ _ _ _ (ap R e) (ap R f') refl ∙ turn-last (R i) (R j)), under) where
        -- the corner m of the other face lies on this face's side now
        turned : turn (P i) (P j) (P m) ≡ signed (lies_up g f) ((scale *ℤ scale) *ℤ turn (R i) (R j) (R m))
        turned = turn_kept points images scale (inner i j) (lies_up g f) f_keeps i j m i_inner j_inner m_inner

        is_depth : depth g h (place_of (P m)) (x, y) ≡ neg_ℤ ((scale *ℤ scale) *ℤ turn (R i) (R j) (R m))
        is_depth = depth_point points images scale g same_images h (outer n i j) h_keeps x y m ∙ (ap (signed (lies_up g h)) (turns_equal _ _ _ _ _ _ (ap P e) (ap P f') refl ∙ turned) ∙ signed_other (lies_up g h) (lies_up g f) _ folded)

        under : pos 0 <ℤ depth g h (place_of (P m)) (x, y)
        under = let p = pos-mul_neg (scale *ℤ scale) (turn (R i) (R j) (R m)) square right in let d = is_depth in omega (arith, linear)

  pub crease_overlap : f ≢ h → f < length g.rings → h < length g.rings → Overlap g f h
  crease_overlap d fl hl = by chord.some_right where
    by : (m : ℕ) × (i < m) × (m < j) × (turn (R i) (R j) (R m) <ℤ pos 0) → Overlap g f h
    by (m, im, mj, right) = overlap_near g f h (middle (P i) (P j)) (place_of (P m)) d fl hl (omega (arith, ints)) (omega (arith, ints))
        (λ x y s. inner_good m im mj right x y (subst (λ r. Goes r x y) f_ring s)) (λ x y s. outer_good m im mj right x y (subst (λ r. Goes r x y) h_ring s))

-- The two faces of a sheet with one flat crease don't overlap: they lie on the two sides of it.
pub flat_crease_apart : (n i j : ℕ) → i + 1 < j → j < n → (g : Sheet) (f h : ℕ) → ring_at g.rings f ≡ inner i j → ring_at g.rings h ≡ outer n i j → lies_up g h ≡ lies_up g f → Overlap g f h → ⊥
flat_crease_apart n i j far low g f h fr hr same o = by o.common.at (both_of (is_inside g f o.common.at) _ o.common.inside) where
  by : (s : Place) → IsTrue (is_inside g f s) × IsTrue (is_inside g h s && true) → ⊥
  by s t =
      let a = inside_step g f s j i t.0 (subst (λ r. Goes r j i) (sym fr) (inner_closes n i j far low)) in
      let b = inside_step g h s i j (both_of (is_inside g h s) true t.1).0 (subst (λ r. Goes r i j) (sym hr) (outer_crosses n i j far low)) in
      opposite (lies_up g f) (lies_up g h) (height (through (point_at g.images j) (point_at g.images i)) s) (height (through (point_at g.images i) (point_at g.images j)) s) same (turned (point_at g.images i) (point_at g.images j) s) a b where
        turned : (p q : Pt) (s : Place) → height (through q p) s ≡ neg_ℤ (height (through p q) s)
        turned p q s = solve (p.x ∷ p.y ∷ q.x ∷ q.y ∷ s.x ∷ s.y ∷ s.w ∷ [])
            (((var 3 ⊖ var 1) ⊗ var 4 ⊕ (var 0 ⊖ var 2) ⊗ var 5) ⊖ ((var 3 ⊖ var 1) ⊗ var 2 ⊕ (var 0 ⊖ var 2) ⊗ var 3) ⊗ var 6)
            (opp (((var 1 ⊖ var 3) ⊗ var 4 ⊕ (var 2 ⊖ var 0) ⊗ var 5) ⊖ ((var 1 ⊖ var 3) ⊗ var 0 ⊕ (var 2 ⊖ var 0) ⊗ var 1) ⊗ var 6)) refl

        opposite : (b c : Bool) (x y : ℤ) → c ≡ b → x ≡ neg_ℤ y → pos 0 <ℤ signed b x → pos 0 <ℤ signed c y → ⊥
        opposite true true x y e f p q = omega (arith, linear)
        opposite false false x y e f p q = omega (arith, linear)
        opposite true false x y e f p q = false≢true e
        opposite false true x y e f p q = false≢true (sym e)
