-- What a folding does to the faces of the placing order: their flags and places are the carried ones.
use Rattle.std.proofs.Common.{◌≡◌, ℕ, zero, suc, ◌<◌, inl, inr, arith, refl, sym, ap, ◌∙◌, subst, true, false, not, Bool, ◌&&◌, List, [], ◌∷◌, length, IsTrue, ℤ, pos, ◌*ℤ◌, ◌<ℤ◌}
use Rattle.std.proofs.lemmas.Int.{ints}
use Rattle.std.proofs.lemmas.Bool.{false≢true}
use Rattle.std.proofs.lemmas.Bool.Decides.{Decides-int_eq}
use Rattle.std.proofs.lemmas.List.{length-map, get_or_default}
use Rattle.std.specs.List.{Contains}
use Rattle.std.specs.Ordering.{int_eq}
use Rattle.ff_whole.specs.declared.points.Pt.{Pt}
use Rattle.ff_whole.specs.declared.places.Place.{Place}
use Rattle.ff_whole.specs.Places.{IsPlace, place_of, same_place}
use Rattle.ff_whole.specs.Convex.{point_at}
use Rattle.ff_whole.proofs.Images.{distance_positive}
use Rattle.ff_whole.proofs.Signs.{cancel_left}
use Rattle.ff_whole.proofs.Laws.{one-*ℤ}
use Rattle.ff_whole.proofs.Ring.{var, ◌⊗◌, solve}
use Rattle.ff_types.specs.declared.patterns.EdgeEnds.{EdgeEnds}
use Rattle.ff_types.specs.declared.patterns.Mark.{Mark}
use Rattle.ff_types.specs.declared.patterns.Mark.TheVariants.{B, M, V, F, U}
use Rattle.ff_types.specs.Patterns.{edge_at}
use Rattle.ff_types.specs.Rings.{corner, corners}
use Rattle.ff_types.specs.Faces.{ring_at, mark_at}
use Rattle.ff_types.specs.Sides.{sides_at}
use Rattle.ff_types.specs.Foldings.{is_up, scaled, spread, KeepsShape, FitFlags, IsFolding}
use Rattle.ff_types.specs.Placing.{Meeting, meetings_of, AreFlags, IsParent, IsFirstBroken}
use Rattle.ff_types.specs.Carrying.{IsCarried}
use Rattle.ff_reflect.specs.Images.{IsAt}
use Rattle.ff_reflect.specs.Sheets.{Paper, HasFaces}
use Rattle.ff_reflect.proofs.Shapes.{image_from_shape, image_at, at_from_image}
use Rattle.ff_reflect.proofs.Meetings.{is_meeting, in_meetings, HasSides}
use Rattle.ff_reflect.proofs.Across.{IsBetween, between_faces, from_in, to_in, no_border}
use Rattle.ff_reflect.proofs.Orders.{IsOrdered, all_of, get_in, along_order, order_closed}

-- a folding of the paper
abbrev pub Folds : Paper → ℤ → List Pt → List Bool → Type 0
Folds paper scale images up = IsFolding paper.points paper.rings paper.sides paper.marks scale images up

-- ---- a meeting's two faces

-- what is known of a meeting
pub record IsKnown (paper : Paper) (m : Meeting) : Type 0 where
  pub edge : m.edge < length paper.edges
  pub sides_are : HasSides (sides_at paper.sides m.edge) m.face m.across
  pub faces : IsBetween paper.rings (edge_at paper.edges m.edge) m.face m.across

pub known_of : (paper : Paper) → HasFaces paper → (f : ℕ) (m : Meeting) → Contains (meetings_of paper.rings paper.edges paper.sides f) m → IsKnown paper m
known_of paper h f m c =
    let meeting = is_meeting paper.rings paper.edges paper.sides f m c in
    let s = subst (λ f. HasSides (sides_at paper.sides m.edge) f m.across) (sym meeting.face) meeting.sides_are in
    let a = h.faces in
    record { edge = meeting.edge; sides_are = s; faces = between_faces paper.rings _ _ m.face m.across (a.sides_are m.edge meeting.edge) s }

pub known : (paper : Paper) (order : List ℕ) → HasFaces paper → (m : Meeting) → Contains (all_of paper order) m → IsKnown paper m
known paper order h m c = let from = in_meetings paper.rings paper.edges paper.sides order m c in known_of paper h from.0 m from.2

pub face_in_order : (paper : Paper) (order : List ℕ) (m : Meeting) → Contains (all_of paper order) m → Contains order m.face
face_in_order paper order m c =
    let from = in_meetings paper.rings paper.edges paper.sides order m c in
    let meeting = is_meeting paper.rings paper.edges paper.sides from.0 m from.2 in
    subst (Contains order) (sym meeting.face) from.1

-- the ends of the edge are corners of both faces
pub ends_in : (rings : List (List ℕ)) (e : EdgeEnds) (f g : ℕ) → IsBetween rings e f g
    → (Contains (ring_at rings f) e.a × Contains (ring_at rings f) e.b) × (Contains (ring_at rings g) e.a × Contains (ring_at rings g) e.b)
ends_in rings e f g b = elim b.along [
  | inl (p, q) ↦ ((from_in _ _ _ p, to_in _ _ _ p), (to_in _ _ _ q, from_in _ _ _ q))
  | inr (p, q) ↦ ((to_in _ _ _ p, from_in _ _ _ p), (from_in _ _ _ q, to_in _ _ _ q))
]

-- ---- flags

turned : (a b : Bool) → a ≡ not b → b ≡ not a
turned true true e = e
turned true false e = refl
turned false true e = refl
turned false false e = e

fit_turned : (mark : Mark) (a b : Bool) → FitFlags mark a b → FitFlags mark b a
fit_turned B a b h = tt
fit_turned F a b h = sym h
fit_turned M a b h = turned a b h
fit_turned V a b h = turned a b h
fit_turned U a b h = turned a b h

-- a test of which it isn't false that it is c, is c
pub not_not : (d b c : Bool) → d ≡ b → ((d ≡ c → ⊥) → ⊥) → b ≡ c
not_not d true true e f = refl
not_not d true false e f = absurd (f (λ q. false≢true (sym q ∙ e)))
not_not d false true e f = absurd (f (λ q. false≢true (sym e ∙ q)))
not_not d false false e f = refl

not_same : (a b : Bool) → not a ≡ not b → a ≡ b
not_same true true e = refl
not_same true false e = sym e
not_same false true e = sym e
not_same false false e = refl

pub fit_one : (mark : Mark) (a b c : Bool) → (mark ≡ B → ⊥) → FitFlags mark a b → ((FitFlags mark a c → ⊥) → ⊥) → b ≡ c
fit_one B a b c n h k = absurd (n refl)
fit_one F a b c n h k = not_not a b c h k
fit_one M a b c n h k = not_same b c (not_not a (not b) (not c) h k)
fit_one V a b c n h k = not_same b c (not_not a (not b) (not c) h k)
fit_one U a b c n h k = not_same b c (not_not a (not b) (not c) h k)

-- the rule of flags, seen from either face
pub folds_flags : (paper : Paper) (scale : ℤ) (images : List Pt) (up : List Bool) → HasFaces paper → Folds paper scale images up
    → (m : Meeting) → IsKnown paper m → FitFlags (mark_at paper.marks m.edge) (is_up up m.face) (is_up up m.across)
folds_flags paper scale images up h fold m k =
    let a = h.faces in
    let l : m.edge < length paper.sides = subst (λ n. m.edge < n) (sym a.as_many_sides) k.edge in
    elim k.sides_are [
      | inl (p, q) ↦ fold.flags m.edge m.face m.across l p q
      | inr (p, q) ↦ fit_turned _ _ _ (fold.flags m.edge m.across m.face l p q)
    ]

-- the flags of a folding are those by the parents
pub same_flags : (paper : Paper) (order : List ℕ) (up : List Bool) → IsOrdered paper order → AreFlags (all_of paper order) paper.marks up
    → (scale : ℤ) (images : List Pt) (flags : List Bool) → Folds paper scale images flags → (f : ℕ) → Contains order f → is_up flags f ≡ is_up up f
same_flags paper order up o by scale images flags fold = along_order paper order o (λ f. is_up flags f ≡ is_up up f) (fold.first_up ∙ sym by.first)
    (λ i m parent c e.
    let k = known paper order o.has_faces m (get_in _ i m parent.0) in
    fit_one (mark_at paper.marks m.edge) (is_up up m.face) (is_up flags m.across) (is_up up m.across)
    (no_border paper o.has_faces m.edge m.face m.across k.edge k.sides_are)
    (subst (λ b. FitFlags (mark_at paper.marks m.edge) b (is_up flags m.across)) e (folds_flags paper scale images flags o.has_faces fold m k))
    (by.by_parents i m parent))

-- a broken meeting: no folding
pub broken_folds_not : (paper : Paper) (order : List ℕ) (up : List Bool) → IsOrdered paper order → AreFlags (all_of paper order) paper.marks up
    → (e : ℕ) → IsFirstBroken (all_of paper order) paper.marks up e → (scale : ℤ) (images : List Pt) (flags : List Bool) → Folds paper scale images flags → ⊥
broken_folds_not paper order up o by e broken scale images flags fold =
    let m = broken.meeting in
    let c = get_in (all_of paper order) broken.place m broken.there in
    let k = known paper order o.has_faces m c in
    let same = same_flags paper order up o by scale images flags fold in
    broken.broken (subst (λ b. FitFlags (mark_at paper.marks m.edge) b (is_up up m.across)) (same m.face (face_in_order paper order m c))
    (subst (λ b. FitFlags (mark_at paper.marks m.edge) (is_up flags m.face) b) (same m.across (order_closed paper order o m c))
    (folds_flags paper scale images flags o.has_faces fold m k)))

-- ---- shapes, by vertices

-- a corner of a ring, by its place
pub point_corner : (points : List Pt) (ring : List ℕ) (i : ℕ) → i < length ring → point_at (corners points ring) i ≡ point_at points (corner ring i)
point_corner points [] i h = absurd (omega (arith, h))
point_corner points (v ∷ ring) zero h = refl
point_corner points (v ∷ ring) (suc i) h = point_corner points ring i (omega (arith, h))

-- the place of a member
pub place_in : (ring : List ℕ) (v : ℕ) → Contains ring v → (i : ℕ) × (i < length ring) × (corner ring i ≡ v)
place_in ring v (i, l, e) = (i, l, get_or_default ring i 0 v l ∙ e)

-- the shapes of a folding, by vertices
pub folds_shape : (paper : Paper) (scale : ℤ) (images : List Pt) (up : List Bool) → Folds paper scale images up → (f u v w : ℕ) → f < length paper.rings
    → Contains (ring_at paper.rings f) u → Contains (ring_at paper.rings f) v → Contains (ring_at paper.rings f) w
    → KeepsShape scale (is_up up f) (point_at paper.points u) (point_at paper.points v) (point_at paper.points w) (point_at images u) (point_at images v) (point_at images w)
folds_shape paper scale images up fold f u v w l cu cv cw =
    let ring = ring_at paper.rings f in
    let i = place_in ring u cu in let j = place_in ring v cv in let k = place_in ring w cw in
    let lc = λ (ps : List Pt) (n : ℕ) (h : n < length ring). subst (λ m. n < m) (sym (length-map ring (point_at ps))) h in
    let at = λ (ps : List Pt) (n x : ℕ) (h : n < length ring) (e : corner ring n ≡ x). point_corner ps ring n h ∙ ap (point_at ps) e in
    let s = fold.shapes f l i.0 j.0 k.0 (lc paper.points i.0 i.1) (lc paper.points j.0 j.1) (lc paper.points k.0 k.1) in
    rw (← at paper.points i.0 u i.1 i.2, ← at paper.points j.0 v j.1 j.2, ← at paper.points k.0 w k.1 k.2, ← at images i.0 u i.1 i.2, ← at images j.0 v j.1 j.2, ← at images k.0 w k.1 k.2) s

-- ---- places

-- the ends of an edge have different points
pub ends_apart : (paper : Paper) → HasFaces paper → (e : ℕ) → e < length paper.edges
    → pos 0 <ℤ spread (point_at paper.points (edge_at paper.edges e).a) (point_at paper.points (edge_at paper.edges e).b) (point_at paper.points (edge_at paper.edges e).b)
ends_apart paper h e l =
    let d = h.drawing in
    let j = d.edges_join e l in
    let a = d.apart in
    distance_positive _ _ (λ q. j.differ (a.differ _ _ j.first j.second q))

-- the test of one place, by its two equations
pub equal_test : (a b : ℤ) → a ≡ b → int_eq a b ≡ true
equal_test a b e = (Decides-int_eq a b).1 e

pub equal_from_test : (a b : ℤ) → int_eq a b ≡ true → a ≡ b
equal_from_test a b e = (Decides-int_eq a b).0 e

pub both_true : (a b : Bool) → a ≡ true → b ≡ true → IsTrue (a && b)
both_true a b e f = rw (e, f) refl

pub first_true : (a b : Bool) → IsTrue (a && b) → (a ≡ true) × (b ≡ true)
first_true true true h = (refl, refl)
first_true true false h = absurd (false≢true h)
first_true false b h = absurd (false≢true h)

-- one place at a scale is another place of the same point
pub at_same : (d : ℤ) (s t : Place) (p : Pt) → IsPlace t → IsTrue (same_place s t) → IsAt d t p → IsAt d s p
at_same d s t p ht same e =
    let b = first_true _ _ same in
    record { x = go s.x t.x p.x (equal_from_test _ _ b.0) e.x; y = go s.y t.y p.y (equal_from_test _ _ b.1) e.y }
  where
    go : (x y c : ℤ) → x *ℤ t.w ≡ y *ℤ s.w → d *ℤ y ≡ t.w *ℤ c → d *ℤ x ≡ s.w *ℤ c
    go x y c f g = cancel_left t.w (d *ℤ x) (s.w *ℤ c) ht
        (solve (t.w ∷ d ∷ x ∷ []) (var 0 ⊗ (var 1 ⊗ var 2)) (var 1 ⊗ (var 2 ⊗ var 0)) refl ∙ ap (λ z. d *ℤ z) f
        ∙ solve (d ∷ y ∷ s.w ∷ []) (var 0 ⊗ (var 1 ⊗ var 2)) (var 2 ⊗ (var 0 ⊗ var 1)) refl ∙ ap (λ z. s.w *ℤ z) g
        ∙ solve (s.w ∷ t.w ∷ c ∷ []) (var 0 ⊗ (var 1 ⊗ var 2)) (var 1 ⊗ (var 0 ⊗ var 2)) refl)

-- two places of one point are one
pub same_from_at : (d : ℤ) (s t : Place) (p : Pt) → pos 0 <ℤ d → IsAt d s p → IsAt d t p → IsTrue (same_place s t)
same_from_at d s t p h e f = both_true _ _ (equal_test _ _ (go s.x t.x p.x e.x f.x)) (equal_test _ _ (go s.y t.y p.y e.y f.y)) where
  go : (x y c : ℤ) → d *ℤ x ≡ s.w *ℤ c → d *ℤ y ≡ t.w *ℤ c → x *ℤ t.w ≡ y *ℤ s.w
  go x y c i j = cancel_left d (x *ℤ t.w) (y *ℤ s.w) h
      (solve (d ∷ x ∷ t.w ∷ []) (var 0 ⊗ (var 1 ⊗ var 2)) (var 2 ⊗ (var 0 ⊗ var 1)) refl ∙ ap (λ z. t.w *ℤ z) i
      ∙ solve (t.w ∷ s.w ∷ c ∷ []) (var 0 ⊗ (var 1 ⊗ var 2)) (var 1 ⊗ (var 0 ⊗ var 2)) refl ∙ ap (λ z. s.w *ℤ z) (sym j)
      ∙ solve (s.w ∷ d ∷ y ∷ []) (var 0 ⊗ (var 1 ⊗ var 2)) (var 1 ⊗ (var 2 ⊗ var 0)) refl)

-- a folding has each vertex where each face carries it, times its scale
pub folds_carried : (paper : Paper) (order : List ℕ) (up : List Bool) (carried : ℕ → ℕ → Place) → IsOrdered paper order → AreFlags (all_of paper order) paper.marks up
    → IsCarried paper.points paper.rings paper.edges (all_of paper order) up order carried
    → (scale : ℤ) (images : List Pt) (flags : List Bool) → Folds paper scale images flags
    → (f : ℕ) → Contains order f → (v : ℕ) → Contains (ring_at paper.rings f) v → IsAt scale (carried f v) (point_at images v)
folds_carried paper order up carried o by so scale images flags fold =
    along_order paper order o (λ f. (v : ℕ) → Contains (ring_at paper.rings f) v → IsAt scale (carried f v) (point_at images v)) first step
  where
    positive : pos 0 <ℤ scale
    positive = let p = fold.positive in omega (arith, ints)

    first : (v : ℕ) → Contains (ring_at paper.rings 0) v → IsAt scale (carried 0 v) (point_at images v)
    first v c =
        let i = place_in (ring_at paper.rings 0) v c in
        let q = point_at paper.points v in
        let at : point_at images v ≡ scaled scale q = subst (λ n. point_at images n ≡ scaled scale (point_at paper.points n)) i.2 (fold.first_stays i.0 i.1) in
        at_same scale (carried 0 v) (place_of q) (point_at images v) (omega (arith, ints)) (so.still v)
        (record { x = sym (one-*ℤ _ ∙ ap (λ (z : Pt). z.x) at); y = sym (one-*ℤ _ ∙ ap (λ (z : Pt). z.y) at) })

    step : (i : ℕ) (m : Meeting) → IsParent (all_of paper order) i m → Contains order m.face
        → ((v : ℕ) → Contains (ring_at paper.rings m.face) v → IsAt scale (carried m.face v) (point_at images v))
        → (v : ℕ) → Contains (ring_at paper.rings m.across) v → IsAt scale (carried m.across v) (point_at images v)
    step i m parent c below v cv =
        let in_all = get_in (all_of paper order) i m parent.0 in
        let k = known paper order o.has_faces m in_all in
        let e = edge_at paper.edges m.edge in
        let b = k.faces in
        let ends = ends_in paper.rings e m.face m.across b in
        let across = order_closed paper order o m in_all in
        let ua = at_same scale _ _ _ (so.places m.face e.a) (so.agree_first i m parent) (below e.a ends.0.0) in
        let ub = at_same scale _ _ _ (so.places m.face e.b) (so.agree_second i m parent) (below e.b ends.0.1) in
        let flag = same_flags paper order up o by scale images flags fold m.across across in
        let shape = λ (w : ℕ) (cw : Contains (ring_at paper.rings m.across) w).
        subst (λ u. KeepsShape scale u (point_at paper.points e.a) (point_at paper.points e.b) (point_at paper.points w) (point_at images e.a) (point_at images e.b) (point_at images w)) flag
        (folds_shape paper scale images flags fold m.across e.a e.b w b.second ends.1.0 ends.1.1 cw) in
        let image = image_from_shape scale (is_up up m.across) _ _ _ _ _ _ positive (shape e.b ends.1.1) (shape v cv) in
        let there = image_at scale (is_up up m.across) _ _ (point_at paper.points v) _ _ (carried m.across v) _ _ positive
        (so.places m.across e.a) (so.places m.across e.b) (so.places m.across v)
        (so.shapes m.across e.a e.b e.b across ends.1.0 ends.1.1 ends.1.1) (so.shapes m.across e.a e.b v across ends.1.0 ends.1.1 cv) ua ub in
        at_from_image scale (is_up up m.across) _ _ _ _ _ (carried m.across v) (point_at images v) (ends_apart paper o.has_faces m.edge k.edge) there image
