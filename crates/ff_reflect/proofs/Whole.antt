-- The start, with face 0 still, and the end: all faces placed are the folding.
use Rattle.std.proofs.Common.{◌≡◌, ◌≢◌, ◌∙◌, ℕ, zero, suc, ◌<◌, inl, inr, List, [], ◌∷◌, ◌++◌, length, ℤ, Bool, true, false, not, arith, refl, sym, ap, subst, map, take, slice_get, slice_index_or, slice_set, replicate, Some, pos, ◌<ℤ◌, lit<}
use Rattle.std.proofs.lemmas.Int.{ints}
use Rattle.std.proofs.lemmas.Bool.{false≢true}
use Rattle.std.proofs.lemmas.List.{length-set, get_or-set_same, get_or-set_other, length-replicate, append-nil, length-map}
use Rattle.std.proofs.lemmas.List.Elements.{Contains-get_or, Contains-append_left, Contains-push, Contains-push_cases}
use Rattle.std.proofs.Math.Nat.{one-dvd}
use Rattle.std.specs.List.{Contains}
use Rattle.ff_basics.proofs.Memberships.{by_member, first_member, in_map, later_member, no_member}
use Rattle.ff_basics.proofs.Lists.{place_of_member}
use Rattle.ff_whole.specs.declared.points.Pt.{Pt}
use Rattle.ff_whole.specs.declared.sizes.TheConstants.{SLOPE_SIZE}
use Rattle.ff_whole.specs.Sizes.{IsBelow}
use Rattle.ff_whole.specs.Points.{origin, IsNear}
use Rattle.ff_whole.specs.declared.places.Place.{Place}
use Rattle.ff_whole.specs.Places.{place_of}
use Rattle.ff_whole.specs.Convex.{point_at}
use Rattle.ff_whole.proofs.Laws.{one-*ℤ}
use Rattle.ff_types.specs.declared.patterns.Mark.{Mark}
use Rattle.ff_types.specs.declared.patterns.Mark.TheVariants.{B, M, V, F, U}
use Rattle.ff_types.specs.Rings.{corner, corners}
use Rattle.ff_types.specs.Faces.{ring_at, mark_at}
use Rattle.ff_types.specs.Sides.{sides_at, AreSides}
use Rattle.ff_types.specs.Foldings.{is_up, scaled, KeepsShape, FitFlags, AreNear, DividesAll}
use Rattle.ff_types.specs.Placing.{Meeting}
use Rattle.ff_types.specs.Carrying.{IsCarried}
use Rattle.ff_types.specs.FoldRefusals.{placings}
use Rattle.ff_reflect.specs.declared.placed.Placed.{Placed}
use Rattle.ff_reflect.specs.Images.{IsAt}
use Rattle.ff_reflect.specs.Sheets.{Paper}
use Rattle.ff_reflect.specs.Trees.{order_along}
use Rattle.ff_reflect.specs.Puts.{IsNothing, AreNearPoints, IsLaid, has_place}
use Rattle.ff_reflect.specs.Standing.{IsLeast, Stands, IsReady, IsStanding}
use Rattle.ff_reflect.proofs.Cases.{by_same, by_test}
use Rattle.ff_reflect.proofs.Shapes.{shape_at}
use Rattle.ff_reflect.proofs.Growth.{none_from_least}
use Rattle.ff_types.specs.declared.patterns.EdgeEnds.{EdgeEnds}
use Rattle.ff_types.specs.declared.faces.EdgeSides.{EdgeSides}
use Rattle.ff_types.specs.Patterns.{edge_at}
use Rattle.ff_reflect.proofs.Across.{met, face_goes}
use Rattle.ff_reflect.proofs.Meetings.{meetings_in}
use Rattle.ff_reflect.proofs.Orders.{all_of, order_has}
use Rattle.ff_reflect.proofs.Foldings.{Folds, at_same, point_corner, not_not}
use Rattle.ff_reflect.proofs.Carried.{carried_by, carried_so}
use Rattle.ff_reflect.proofs.Stops.{turned_same, near_origin}
use Rattle.ff_reflect.proofs.Carry.{ordered, placings_in}

-- ---- face 0 is laid

flag_none : (n u : ℕ) → slice_index_or (replicate n false) u false ≡ false
flag_none zero u = refl
flag_none (suc n) zero = refl
flag_none (suc n) (suc u) = flag_none n u

point_none : (n u : ℕ) → point_at (replicate n origin) u ≡ origin
point_none zero u = refl
point_none (suc n) zero = refl
point_none (suc n) (suc u) = point_none n u

pub laid_none : (points : List Pt) (s : Placed) → IsNothing (length points) s → IsLaid points [] s
laid_none points s h = record {
  scale = h.scale;
  as_many = ap length h.points ∙ length-replicate (length points) origin;
  as_many_flags = ap length h.placed ∙ length-replicate (length points) false;
  placed = λ u e. absurd (false≢true (sym (ap (λ fs. slice_index_or fs u false) h.placed ∙ flag_none (length points) u) ∙ e));
  there = λ u c. absurd (no_member u c);
  empty = λ u e. ap (λ ps. point_at ps u) h.points ∙ point_none (length points) u;
}

pub laid_more : (points : List Pt) (front : List ℕ) (v : ℕ) (old new : Placed) → IsLaid points front old → v < length points → new.scale ≡ old.scale
    → new.points.items ≡ slice_set old.points.items v (point_at points v) → new.placed.items ≡ slice_set old.placed.items v true → IsLaid points (front ++ v ∷ []) new
laid_more points front v old new h l es ep ef = record {
  scale = es ∙ h.scale;
  as_many = ap length ep ∙ length-set old.points.items v (point_at points v) ∙ h.as_many;
  as_many_flags = ap length ef ∙ length-set old.placed.items v true ∙ h.as_many_flags;
  placed = λ u e. by_same u v
      (λ q. (subst (Contains (front ++ v ∷ [])) (sym q) (Contains-push front v), ap (point_at new.points.items) q ∙ point_here ∙ ap (point_at points) (sym q)))
      (λ d. let r = h.placed u (sym (flag_other u d) ∙ e) in (Contains-append_left front (v ∷ []) u r.0, point_other u d ∙ r.1));
  there = λ u c. by_same u v (λ q. ap (has_place new) q ∙ flag_here)
      (λ d. flag_other u d ∙ h.there u (elim (Contains-push_cases front v u c) [ inl k ↦ k | inr e ↦ absurd (d (sym e)) ]));
  empty = λ u e. by_same u v (λ q. absurd (false≢true (sym e ∙ ap (has_place new) q ∙ flag_here))) (λ d. point_other u d ∙ h.empty u (sym (flag_other u d) ∙ e));
}
  where
    flag_here : has_place new v ≡ true
    flag_here = ap (λ fs. slice_index_or fs v false) ef ∙ get_or-set_same old.placed.items v true false (let a = h.as_many_flags in omega (arith, a, l))

    flag_other : (u : ℕ) → u ≢ v → has_place new u ≡ has_place old u
    flag_other u d = ap (λ fs. slice_index_or fs u false) ef ∙ get_or-set_other old.placed.items v u true false d

    point_here : point_at new.points.items v ≡ point_at points v
    point_here = ap (λ ps. point_at ps v) ep ∙ get_or-set_same old.points.items v (point_at points v) origin (let a = h.as_many in omega (arith, a, l))

    point_other : (u : ℕ) → u ≢ v → point_at new.points.items u ≡ point_at old.points.items u
    point_other u d = ap (λ ps. point_at ps u) ep ∙ get_or-set_other old.points.items v u (point_at points v) origin d

-- face 0 is carried where it lies
pub laid_stands : (paper : Paper) (tree : List Meeting) (up : List Bool) (s : Placed) → IsReady paper tree up → AreNearPoints paper.points → IsLaid paper.points (ring_at paper.rings 0) s
    → IsStanding paper tree up (placings paper.rings (order_along (take 0 tree))) s
laid_stands paper tree up s r near h = record { carried = carried_by paper tree; so = so; stands = subst (λ ps. Stands (length paper.points) (carried_by paper tree) ps s) (sym (append-nil (map (λ v. (0, v)) (ring_at paper.rings 0)))) stands } where
  so : IsCarried paper.points paper.rings paper.edges (all_of paper (order_along tree)) up (order_along tree) (carried_by paper tree)
  so = let t = r.tree_is in carried_so paper (order_along tree) tree up (ordered paper tree up r) t.grows t.first r.flags

  one_at : (v : ℕ) → IsAt s.scale (carried_by paper tree 0 v) (point_at paper.points v)
  one_at v = subst (λ d. IsAt d (carried_by paper tree 0 v) (point_at paper.points v)) (sym h.scale)
      (at_same (pos 1) (carried_by paper tree 0 v) (place_of (point_at paper.points v)) (point_at paper.points v) (omega (arith, ints)) (so.still v) (record { x = refl; y = refl }))

  pair : (p : ℕ × ℕ) → Contains (map (λ v. (0, v)) (ring_at paper.rings 0)) p → (v : ℕ) × Contains (ring_at paper.rings 0) v × ((0, v) ≡ p)
  pair p c = in_map (λ v. (0, v)) (ring_at paper.rings 0) p c

  back : (v : ℕ) (ring : List ℕ) → Contains ring v → Contains {X = ℕ × ℕ} (map (λ u. (0, u)) ring) (0, v)
  back v [] c = absurd (no_member v c)
  back v (u ∷ ring) c = by_member u ring v (λ e. first_member (0, u) (map (λ w. (0, w)) ring) (0, v) (ap (λ w. (0, w)) e)) (λ k. later_member (0, u) (map (λ w. (0, w)) ring) (0, v) (back v ring k)) c

  stands : Stands (length paper.points) (carried_by paper tree) (map (λ v. (0, v)) (ring_at paper.rings 0)) s
  stands = record {
    positive = subst (λ d. pos 0 <ℤ d) (sym h.scale) (omega (arith, ints));
    small = subst (IsBelow SLOPE_SIZE) (sym h.scale) (record { below = lit< tt });
    as_many = h.as_many;
    as_many_flags = h.as_many_flags;
    near = λ u. by_test (has_place s u) (λ e. subst IsNear (sym (h.placed u e).1) (near u)) (λ e. subst IsNear (sym (h.empty u e)) near_origin);
    at = λ p c. let q = pair p c in subst (λ (p : ℕ × ℕ). IsAt s.scale (carried_by paper tree p.0 p.1) (point_at s.points.items p.1)) q.2
        (subst (IsAt s.scale (carried_by paper tree 0 q.0)) (sym (h.placed q.0 (h.there q.0 q.1)).1) (one_at q.0));
    placed = λ v e. (0, back v (ring_at paper.rings 0) (h.placed v e).0);
    there = λ p c. let q = pair p c in ap (λ (p : ℕ × ℕ). has_place s p.1) (sym q.2) ∙ h.there q.0 q.1;
    empty = h.empty;
    least = subst (λ d. IsLeast d s.points.items) (sym h.scale) (λ t k. one-dvd t);
  }

-- ---- all faces are placed

-- a rule that it is false that it is broken holds
pub fits_then : (mark : Mark) (a b : Bool) → ((FitFlags mark a b → ⊥) → ⊥) → FitFlags mark a b
fits_then B a b h = tt
fits_then F a b h = not_not a a b refl h
fits_then M a b h = not_not a a (not b) refl h
fits_then V a b h = not_not a a (not b) refl h
fits_then U a b h = not_not a a (not b) refl h

-- the points at a scale where the faces carry their vertices, at no greater scale than they need
pub record ArePut (paper : Paper) (tree : List Meeting) (up : List Bool) (scale : ℤ) (images : List Pt) : Type 0 where
  pub carried : ℕ → ℕ → Place
  pub so : IsCarried paper.points paper.rings paper.edges (all_of paper (order_along tree)) up (order_along tree) carried
  pub positive : pos 0 <ℤ scale
  pub as_many : length images ≡ length paper.points
  pub at : (p : ℕ × ℕ) → Contains (placings paper.rings (order_along tree)) p → IsAt scale (carried p.0 p.1) (point_at images p.1)
  pub near : AreNear images
  pub least : (d : ℕ) → 1 < d → DividesAll d scale images → ⊥

pub put_folds : (paper : Paper) (tree : List Meeting) (up : List Bool) (scale : ℤ) (images : List Pt) → IsReady paper tree up → ArePut paper tree up scale images → Folds paper scale images up
put_folds paper tree up scale images r h = record {
  positive = (let p = h.positive in omega (arith, ints));
  as_many_points = h.as_many;
  as_many_flags = r.as_many;
  first_up = (let f = r.flags in f.first);
  first_stays = first_stays;
  shapes = λ f l i j n li lj ln. shape f l i j n li lj ln;
  flags = flags;
  least = h.least;
}
  where
    so : IsCarried paper.points paper.rings paper.edges (all_of paper (order_along tree)) up (order_along tree) h.carried
    so = h.so

    in_order : (f : ℕ) → f < length paper.rings → Contains (order_along tree) f
    in_order = order_has paper (order_along tree) (ordered paper tree up r)

    at : (f v : ℕ) → Contains (order_along tree) f → Contains (ring_at paper.rings f) v → IsAt scale (h.carried f v) (point_at images v)
    at f v c cv = h.at (f, v) (placings_in paper.rings (order_along tree) f v c cv)

    first_stays : (i : ℕ) → i < length (ring_at paper.rings 0) → point_at images (corner (ring_at paper.rings 0) i) ≡ scaled scale (point_at paper.points (corner (ring_at paper.rings 0) i))
    first_stays i l =
        let v = corner (ring_at paper.rings 0) i in
        let a = at 0 v (first_member 0 _ 0 refl) (Contains-get_or (ring_at paper.rings 0) i 0 l) in
        let b = at_same scale (place_of (point_at paper.points v)) (h.carried 0 v) (point_at images v) (so.places 0 v) (turned_same (h.carried 0 v) (place_of (point_at paper.points v)) (so.still v)) a in
        let x = sym (b.x ∙ one-*ℤ _) in
        let y = sym (b.y ∙ one-*ℤ _) in
        λ i. record { x = x i; y = y i }

    shape : (f : ℕ) → f < length paper.rings → (i j n : ℕ) → i < length (corners paper.points (ring_at paper.rings f)) → j < length (corners paper.points (ring_at paper.rings f)) → n < length (corners paper.points (ring_at paper.rings f))
        → KeepsShape scale (is_up up f) (point_at (corners paper.points (ring_at paper.rings f)) i) (point_at (corners paper.points (ring_at paper.rings f)) j) (point_at (corners paper.points (ring_at paper.rings f)) n)
        (point_at (corners images (ring_at paper.rings f)) i) (point_at (corners images (ring_at paper.rings f)) j) (point_at (corners images (ring_at paper.rings f)) n)
    shape f l i j n li lj ln =
        let ring = ring_at paper.rings f in
        let in_ring = λ (m : ℕ) (h : m < length (corners paper.points ring)). subst (λ z. m < z) (length-map ring (point_at paper.points)) h in
        let hi = in_ring i li in let hj = in_ring j lj in let hn = in_ring n ln in
        let ci = Contains-get_or ring i 0 hi in let cj = Contains-get_or ring j 0 hj in let cn = Contains-get_or ring n 0 hn in
        let c = in_order f l in
        let u = corner ring i in let v = corner ring j in let w = corner ring n in
        let base = shape_at scale (is_up up f) (point_at paper.points u) (point_at paper.points v) (point_at paper.points w) (h.carried f u) (h.carried f v) (h.carried f w)
        (point_at images u) (point_at images v) (point_at images w) (so.places f u) (so.places f v) (so.places f w) (so.shapes f u v w c ci cj cn) (at f u c ci) (at f v c cj) (at f w c cn) in
        rw (
          point_corner paper.points ring i hi,
          point_corner paper.points ring j hj,
          point_corner paper.points ring n hn,
          point_corner images ring i hi,
          point_corner images ring j hj,
          point_corner images ring n hn,
        ) base

    flags : (e f g : ℕ) → e < length paper.sides → (sides_at paper.sides e).left ≡ Some f → (sides_at paper.sides e).right ≡ Some g → FitFlags (mark_at paper.marks e) (is_up up f) (is_up up g)
    flags e f g l p q =
        let a = r.has_faces.faces in
        let le : e < length paper.edges = subst (λ n. e < n) a.as_many_sides l in
        let sd = a.sides_are e le in
        let there = face_on (edge_at paper.edges e) (sides_at paper.sides e) f sd p in
        let m = met paper r.has_faces e f g le (inl (p, q)) in
        let at = place_of_member (all_of paper (order_along tree)) _ (meetings_in paper.rings paper.edges paper.sides (order_along tree) f _ (in_order f there) m) in
        fits_then (mark_at paper.marks e) (is_up up f) (is_up up g) (r.whole at.0 _ at.1)
      where
        face_on : (x : EdgeEnds) (s : EdgeSides) (f : ℕ) → AreSides paper.rings x s → s.left ≡ Some f → f < length paper.rings
        face_on x s f h e = (face_goes paper.rings x.a x.b s.left f h.left e).0

pub all_folded : (paper : Paper) (tree : List Meeting) (up : List Bool) (s : Placed) → IsReady paper tree up → IsStanding paper tree up (placings paper.rings (order_along tree)) s
    → Folds paper s.scale s.points.items up × AreNear s.points.items
all_folded paper tree up s r h =
    let k = h.stands in (
      put_folds paper tree up s.scale s.points.items r (record {
        carried = h.carried;
        so = h.so;
        positive = k.positive;
        as_many = k.as_many;
        at = k.at;
        near = λ v l. k.near v;
        least = none_from_least s.scale s.points.items k.positive k.least;
      }),
      λ v l. k.near v,
    )
