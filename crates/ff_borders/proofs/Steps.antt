-- What a folded pattern says of its rings' steps: none has a vertex of its ring on its outer side, and not
-- all are on its line. And the two faces of each edge.
use Rattle.std.proofs.Common.{◌≡◌, ℕ, ◌<◌, refl, sym, ◌∙◌, ap, subst, arith, ℤ, pos, ◌*ℤ◌, ◌<ℤ◌, ◌≤ℤ◌, Bool, true, false, List, [], ◌∷◌, length, Some}
use lib.IntN.{neg_ℤ}
use Rattle.std.proofs.lemmas.Int.{ints}
use Rattle.std.proofs.lemmas.List.{length-map}
use Rattle.std.proofs.lemmas.Option.{same_Some}
use Rattle.ff_whole.specs.declared.points.Pt.{Pt}
use Rattle.ff_whole.specs.declared.places.Place.{Place}
use Rattle.ff_whole.specs.declared.lines.Line.{Line}
use Rattle.ff_whole.specs.Points.{minus, dot, turn}
use Rattle.ff_whole.specs.Places.{place_of, through, height}
use Rattle.ff_whole.specs.Convex.{next, point_at, left_of, IsConvex}
use Rattle.ff_whole.proofs.Ring.{var, opp, solve}
use Rattle.ff_whole.proofs.Signs.{linear, pos-mul, nonneg-mul}
use Rattle.ff_whole.proofs.Turns.{height-through, height-back}
use Rattle.ff_whole.proofs.Images.{distance_positive}
use Rattle.ff_whole.proofs.ClosedLists.{next-below}
use Rattle.ff_types.specs.declared.patterns.Pattern.{Pattern}
use Rattle.ff_types.specs.declared.faces.Faces.{Faces}
use Rattle.ff_types.specs.declared.faces.Folded.{Folded}
use Rattle.ff_types.specs.Patterns.{edge_at}
use Rattle.ff_types.specs.Rings.{corner, corners, Goes}
use Rattle.ff_types.specs.Faces.{ring_at}
use Rattle.ff_types.specs.Sides.{IsFaceOf}
use Rattle.ff_types.specs.Foldings.{signed, KeepsShape, is_up}
use Rattle.ff_types.specs.Sheets.{Sheet, sheet_of, tail, head, lies_up, left_face, right_face}
use Rattle.ff_types.specs.Inside.{depth}
use Rattle.ff_types.specs.FoldedPatterns.{IsFoldedPattern}
use Rattle.ff_types.proofs.SubRings.{corner_point}
use Rattle.ff_types.proofs.CreaseOverlap.{Listed}
use Rattle.ff_types.proofs.FoldedEdges.{ends_apart}

-- ---- vertices of a ring

pub from_listed : (list : List ℕ) (u v : ℕ) → Goes list u v → Listed list u
from_listed list u v g = record { at = g.place; inside = g.inside; there = g.from }

pub to_listed : (list : List ℕ) (u v : ℕ) → Goes list u v → Listed list v
to_listed list u v g = record {
  at = next (length list) g.place;
  inside = next-below (length list) g.place
      g.inside;
  there = g.to;
}

-- ---- a step as a line with the inner side on its left

abbrev pub side_line : Bool → Pt → Pt → Line
side_line true p q = through p q
side_line false p q = through q p

pub signed-line : (b : Bool) (p q : Pt) (s : Place)
    → signed b (height (through p q) s) ≡ height (side_line b p q) s
signed-line true p q s = refl
signed-line false p q s = sym (height-back p q s)

-- the other way the inner side is the other one
pub signed-back : (b : Bool) (p q : Pt) (s : Place)
    → signed b (height (through q p) s) ≡ neg_ℤ (signed b (height (through p q) s))
signed-back true p q s = height-back p q s
signed-back false p q s = ap neg_ℤ (height-back p q s)

pub signed-twice : (b : Bool) (z : ℤ) → signed b (signed b z) ≡ z
signed-twice true z = refl
signed-twice false z = solve (z ∷ []) (opp (opp (var 0))) (var 0) refl

-- the line of a step of the face
abbrev pub step_line : Sheet → ℕ → ℕ × ℕ → Line
step_line g f step = side_line (lies_up g f) (point_at g.images step.0) (point_at g.images step.1)

pub depth-line : (g : Sheet) (f : ℕ) (s : Place) (x y : ℕ)
    → depth g f s (x, y) ≡ height (step_line g f (x, y)) s
depth-line g f s x y = signed-line (lies_up g f) (point_at g.images x) (point_at g.images y) s

same_shape : (scale : ℤ) (up : Bool) (p q r u v w p' q' r' u' v' w' : Pt) → p ≡ p' → q ≡ q' → r ≡ r' → u ≡ u'
    → v ≡ v' → w ≡ w'
    → KeepsShape scale up p q r u v w → KeepsShape scale up p' q' r' u' v' w'
same_shape scale up p q r u v w p' q' r' u' v' w' a b c d e f k =
    subst (λ z. KeepsShape scale up z q' r' u' v' w') a
    (subst (λ z. KeepsShape scale up p z r' u' v' w') b (subst (λ z. KeepsShape scale up p q z u' v' w') c
    (subst (λ z. KeepsShape scale up p q r z v' w') d
    (subst (λ z. KeepsShape scale up p q r u z w') e
    (subst (λ z. KeepsShape scale up p q r u v z) f k)))))

module _ {pattern : Pattern} {faces : Faces} {folded : Folded}
    (h : IsFoldedPattern pattern faces folded) where
  abbrev g : Sheet
  g = sheet_of pattern faces folded

  abbrev ring : ℕ → List ℕ
  ring f = ring_at faces.rings f

  -- where a vertex was drawn, and where it lies now
  abbrev P : ℕ → Pt
  P v = point_at pattern.points v

  abbrev Q : ℕ → Pt
  Q v = point_at folded.points v

  -- ---- shapes

  -- three vertices of a face keep their shape
  pub kept : (f x y z : ℕ) → f < length faces.rings → Listed (ring f) x → Listed (ring f) y
      → Listed (ring f) z
      → KeepsShape folded.scale (is_up folded.up f) (P x) (P y) (P z) (Q x) (Q y) (Q z)
  kept f x y z l a b c =
      same_shape folded.scale (is_up folded.up f) _ _ _ _ _ _ _ _ _ _ _ _ (drawn x a) (drawn y b) (drawn z c)
      (lies x a) (lies y b) (lies z c)
      (h.folding.shapes f l a.at b.at c.at (sized a) (sized b) (sized c))
    where
      at_corner : (ps : List Pt) (x : ℕ) (a : Listed (ring f) x)
          → point_at (corners ps (ring f)) a.at ≡ point_at ps x
      at_corner ps x a = corner_point ps (ring f) a.at a.inside ∙ ap (point_at ps) a.there

      drawn : (x : ℕ) (a : Listed (ring f) x) → point_at (corners pattern.points (ring f)) a.at ≡ P x
      drawn x a = at_corner pattern.points x a

      lies : (x : ℕ) (a : Listed (ring f) x) → point_at (corners folded.points (ring f)) a.at ≡ Q x
      lies x a = at_corner folded.points x a

      sized : {x : ℕ} (a : Listed (ring f) x) → a.at < length (corners pattern.points (ring f))
      sized a = subst (λ m. a.at < m) (sym (length-map (ring f) (point_at pattern.points))) a.inside

  -- how deep a vertex lies at a step of its face: its turn on the sheet as it was drawn, times the scale
  -- twice
  pub depth-kept : (f x y z : ℕ) → f < length faces.rings → Listed (ring f) x → Listed (ring f) y
      → Listed (ring f) z
      → height (step_line g f (x, y)) (place_of (Q z)) ≡ (folded.scale *ℤ folded.scale) *ℤ turn (P x) (P y)
      (P z)
  depth-kept f x y z l a b c =
      sym (signed-line (is_up folded.up f) (Q x) (Q y) (place_of (Q z)))
      ∙ (ap (signed (is_up folded.up f)) (height-through (Q x) (Q y) (Q z) ∙ (kept f x y z l a b c).crosses)
      ∙ signed-twice (is_up folded.up f) _)

  -- ---- the ring is convex

  convex : (f : ℕ) → f < length faces.rings → IsConvex (corners pattern.points (ring f))
  convex f l = (h.faces_are.rings_are.each f l).convex

  turn_at : (f x y : ℕ) → (s : Goes (ring f) x y) → (j : ℕ) → j < length (ring f)
      → left_of (corners pattern.points (ring f)) s.place (point_at (corners pattern.points (ring f)) j)
      ≡ turn (P x) (P y) (P (corner (ring f) j))
  turn_at f x y s j l =
      ap (λ p. left_of (corners pattern.points (ring f)) s.place p) (corner_point pattern.points (ring f) j l)
      ∙ (ap (λ p. turn p (point_at (corners pattern.points (ring f))
      (next (length (corners pattern.points (ring f))) s.place)) (P (corner (ring f) j)))
      (corner_point pattern.points (ring f) s.place s.inside ∙ ap P s.from)
      ∙ ap (λ p. turn (P x) p (P (corner (ring f) j)))
      (ap (λ m. point_at (corners pattern.points (ring f)) (next m s.place))
      (length-map (ring f) (point_at pattern.points))
      ∙ corner_point pattern.points (ring f) (next (length (ring f)) s.place)
      (next-below (length (ring f)) s.place s.inside) ∙ ap P s.to))

  placed : (f j : ℕ) → j < length (ring f) → j < length (corners pattern.points (ring f))
  placed f j l = subst (λ m. j < m) (sym (length-map (ring f) (point_at pattern.points))) l

  square : pos 0 <ℤ (folded.scale *ℤ folded.scale)
  square = let p = h.folding.positive in
      pos-mul folded.scale folded.scale (omega (arith, ints)) (omega (arith, ints))

  -- no vertex of the face is on the outer side of a step
  pub step_left : (f x y z : ℕ) → f < length faces.rings → Goes (ring f) x y → Listed (ring f) z
      → pos 0 ≤ℤ height (step_line g f (x, y)) (place_of (Q z))
  step_left f x y z l s c =
      let t = (convex f l).left s.place c.at (placed f s.place s.inside) (placed f c.at c.inside) in
      let u = subst (λ v. pos 0 ≤ℤ turn (P x) (P y) (P v)) c.there
      (subst (λ k. pos 0 ≤ℤ k) (turn_at f x y s c.at c.inside) t) in
      subst (λ k. pos 0 ≤ℤ k) (sym
      (depth-kept f x y z l (from_listed (ring f) x y s) (to_listed (ring f) x y s) c))
      (nonneg-mul (folded.scale *ℤ folded.scale) (turn (P x) (P y) (P z))
      (let q = square in omega (arith, linear)) u)

  -- and some vertex is on its inner side
  pub step_wide : (f x y : ℕ) → f < length faces.rings → Goes (ring f) x y
      → (z : ℕ) × Listed (ring f) z × (pos 0 <ℤ height (step_line g f (x, y)) (place_of (Q z)))
  step_wide f x y l s =
      let o = (convex f l).wide s.place (placed f s.place s.inside) in
      let inside = subst (λ m. o.0 < m) (length-map (ring f) (point_at pattern.points)) o.1 in
      let z = corner (ring f) o.0 in
      let c : Listed (ring f) z = record { at = o.0; inside = inside; there = refl } in
      let u = subst (λ k. pos 0 <ℤ k) (turn_at f x y s o.0 inside) o.2 in (
        z,
        c,
        subst (λ k. pos 0 <ℤ k) (sym
            (depth-kept f x y z l (from_listed (ring f) x y s) (to_listed (ring f) x y s) c))
            (pos-mul (folded.scale *ℤ folded.scale) (turn (P x) (P y) (P z)) square u),
      )

  -- ---- edges and the steps of their faces

  pub left_goes : (e f : ℕ) → e < length pattern.edges → left_face g e ≡ Some f
      → (f < length faces.rings) × Goes (ring f) (edge_at pattern.edges e).a (edge_at pattern.edges e).b
  left_goes e f l d = subst (IsFaceOf faces.rings (edge_at pattern.edges e).a (edge_at pattern.edges e).b) d
      (h.faces_are.sides_are e l).left

  pub right_goes : (e f : ℕ) → e < length pattern.edges → right_face g e ≡ Some f
      → (f < length faces.rings) × Goes (ring f) (edge_at pattern.edges e).b (edge_at pattern.edges e).a
  right_goes e f l d = subst (IsFaceOf faces.rings (edge_at pattern.edges e).b (edge_at pattern.edges e).a) d
      (h.faces_are.sides_are e l).right

  -- the images of an edge's ends are apart
  pub long : (e : ℕ) → e < length pattern.edges
      → pos 0 <ℤ dot (minus (head g e) (tail g e)) (minus (head g e) (tail g e))
  long e l = distance_positive (tail g e) (head g e) (ends_apart h e l)

  -- no ring goes both ways along an edge
  pub not_back : (f x y : ℕ) → f < length faces.rings → Goes (ring f) x y → Goes (ring f) y x → ⊥
  not_back f x y l s t = by (step_wide f x y l s) where
    by : (z : ℕ) × Listed (ring f) z × (pos 0 <ℤ height (step_line g f (x, y)) (place_of (Q z))) → ⊥
    by (z, c, more) =
        let less = step_left f y x z l t c in
        let a = signed-line (is_up folded.up f) (Q x) (Q y) (place_of (Q z)) in
        let b = signed-line (is_up folded.up f) (Q y) (Q x) (place_of (Q z)) in
        let e = signed-back (is_up folded.up f) (Q x) (Q y) (place_of (Q z)) in
        omega (arith, linear)
