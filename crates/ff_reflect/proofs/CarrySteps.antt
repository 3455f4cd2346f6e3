-- A face carried vertex by vertex: what stands after each, and what a stop refuses.
use Rattle.std.proofs.Common.{◌≡◌, ◌≢◌, ◌∙◌, ℕ, suc, ◌+◌, ◌<◌, inl, inr, List, [], ◌∷◌, ◌++◌, length, Bool, true, false, arith, refl, sym, ap, subst, map, take, drop, slice_get, slice_index_or, Some, ℤ, pos, ◌-ℤ◌, ◌*ℤ◌, ◌<ℤ◌}
use lib.IntN.{*ℤ_comm}
use Rattle.std.proofs.lemmas.Bool.{false≢true}
use Rattle.std.proofs.lemmas.List.{take-append-drop, drop_more, map-append, append_assoc, take_more, get_or_read, get_or_default}
use Rattle.std.proofs.lemmas.List.Elements.{Contains-get_or, Contains-append_left}
use Rattle.std.specs.List.{Contains}
use Rattle.ff_basics.proofs.Memberships.{first_member}
use Rattle.ff_whole.specs.declared.points.Pt.{Pt}
use Rattle.ff_whole.specs.declared.sizes.TheConstants.{SLOPE_SIZE, POINT_SIZE}
use Rattle.ff_whole.specs.Sizes.{IsBelow}
use Rattle.ff_whole.specs.Points.{IsNear}
use Rattle.ff_whole.specs.Places.{place_of}
use Rattle.ff_whole.specs.Convex.{point_at}
use Rattle.ff_whole.proofs.Signs.{linear, by_sign}
use Rattle.ff_whole.proofs.Laws.{one-*ℤ}
use Rattle.ff_whole.proofs.Signs.{*ℤ-distrib_sub}
use Rattle.ff_whole.proofs.Bounds.{below_factor, below-sub, below-more}
use Rattle.ff_types.specs.declared.refusals.Refusal.{Refusal}
use Rattle.ff_types.specs.declared.refusals.Refusal.TheVariants.{Inconsistent, Oversized}
use Rattle.ff_types.specs.Rings.{corner}
use Rattle.ff_types.specs.declared.patterns.EdgeEnds.{EdgeEnds}
use Rattle.ff_types.specs.Patterns.{edge_at}
use Rattle.ff_types.specs.Foldings.{is_up}
use Rattle.ff_types.specs.Faces.{ring_at}
use Rattle.ff_types.specs.Placing.{Meeting}
use Rattle.ff_types.specs.Carrying.{IsCarried}
use Rattle.ff_types.specs.FoldRefusals.{placings, GoesUpTo, IsTornAt, IsTooFarAt, RefusesFolding}
use Rattle.ff_reflect.specs.declared.image.Image.{Image}
use Rattle.ff_reflect.specs.declared.placed.Placed.{Placed}
use Rattle.ff_reflect.specs.Images.{IsAt, IsImageOf}
use Rattle.ff_reflect.specs.Sheets.{Paper, HasFaces}
use Rattle.ff_reflect.specs.Trees.{faces_across, order_along}
use Rattle.ff_reflect.specs.Puts.{IsAdded, IsSame, IsEnd, Puts, Refuses, Moves, StopsCarrying, has_place}
use Rattle.ff_reflect.specs.Standing.{Stands, IsReady, IsStanding}
use Rattle.ff_reflect.proofs.Orders.{all_of}
use Rattle.ff_reflect.proofs.Foldings.{at_same}
use Rattle.ff_reflect.proofs.Refused.{corner_there}
use Rattle.ff_reflect.proofs.Stand.{IsImageHere, here_at, stands_same, stands_added, grown_at}
use Rattle.ff_reflect.proofs.Stops.{goes_on, torn_here, far_here, turned_same}
use Rattle.ff_reflect.proofs.Carry.{known_at, placings-append, placings_in, placed_so, hinge_of, done_to, IsCarriage, carriage, image_here, split_at}

-- ---- the scale is small where two points of face 0 are near

part_small : (d p q a b : ℤ) → d *ℤ p ≡ a → d *ℤ q ≡ b → IsBelow POINT_SIZE a → IsBelow POINT_SIZE b → pos 0 <ℤ (p -ℤ q) → IsBelow SLOPE_SIZE d
part_small d p q a b e f ha hb l = below_factor SLOPE_SIZE (p -ℤ q) d l
    (subst (IsBelow SLOPE_SIZE) (sym (*ℤ_comm (p -ℤ q) d ∙ *ℤ-distrib_sub d p q ∙ ap (λ z. z -ℤ (d *ℤ q)) e ∙ ap (λ z. a -ℤ z) f)) (below-more (below-sub ha hb) tt))

pub scale_small : (d : ℤ) (p q a b : Pt) → p ≢ q → IsAt d (place_of p) a → IsAt d (place_of q) b → IsNear a → IsNear b → IsBelow SLOPE_SIZE d
scale_small d p q a b apart ea eb na nb =
    by_sign (p.x -ℤ q.x)
    (λ l. part_small d q.x p.x b.x a.x (out b.x eb.x) (out a.x ea.x) nb.x_below na.x_below (omega (arith, linear)))
    (λ x. by_sign (p.y -ℤ q.y)
    (λ l. part_small d q.y p.y b.y a.y (out b.y eb.y) (out a.y ea.y) nb.y_below na.y_below (omega (arith, linear)))
    (λ y. absurd (apart (let e : p.x ≡ q.x = omega (arith, linear) in let f : p.y ≡ q.y = omega (arith, linear) in λ i. record { x = e i; y = f i })))
    (λ l. part_small d p.y q.y a.y b.y (out a.y ea.y) (out b.y eb.y) na.y_below nb.y_below l))
    (λ l. part_small d p.x q.x a.x b.x (out a.x ea.x) (out b.x eb.x) na.x_below nb.x_below l)
  where
    out : {z : ℤ} (c : ℤ) → z ≡ pos 1 *ℤ c → z ≡ c
    out c e = e ∙ one-*ℤ c

-- two corners of face 0 that are placed
two_placed : (paper : Paper) (order : List ℕ) (rest : List (ℕ × ℕ)) → HasFaces paper → Contains order 0 → 0 < length paper.rings
    → (u v : ℕ) × Contains (placings paper.rings order ++ rest) (0, u) × Contains (placings paper.rings order ++ rest) (0, v) × (point_at paper.points u ≢ point_at paper.points v)
two_placed paper order rest h c some =
    let a = h.faces in let r = a.rings_are in let ring = r.each 0 some in
    let d = h.drawing in let ap = d.apart in
    let three = ring.three in
    let first : 0 < length (ring_at paper.rings 0) = omega (arith, three) in
    let second : 1 < length (ring_at paper.rings 0) = omega (arith, three) in
    let u = corner (ring_at paper.rings 0) 0 in
    let v = corner (ring_at paper.rings 0) 1 in
    let placed = λ (w : ℕ) (k : Contains (ring_at paper.rings 0) w). Contains-append_left (placings paper.rings order) rest (0, w) (placings_in paper.rings order 0 w c k) in (
      u,
      v,
      placed u (Contains-get_or (ring_at paper.rings 0) 0 0 first),
      placed v (Contains-get_or (ring_at paper.rings 0) 1 0 second),
      λ e. let same : 0 ≡ 1 = ring.differ 0 1 first second (ap.differ u v (ring.there 0 first) (ring.there 1 second) e) in absurd (omega (arith, same)),
    )

-- ---- lists of placings

done_more : (paper : Paper) (tree : List Meeting) (k f i : ℕ) → i < length (ring_at paper.rings f) → done_to paper tree k f (i + 1) ≡ done_to paper tree k f i ++ (f, corner (ring_at paper.rings f) i) ∷ []
done_more paper tree k f i l = ap (λ vs. placings paper.rings (order_along (take k tree)) ++ map (λ v. (f, v)) vs) (take_more (ring_at paper.rings f) i 0 l)
    ∙ ap (λ ps. placings paper.rings (order_along (take k tree)) ++ ps) (map-append (λ v. (f, v)) (take i (ring_at paper.rings f)) (corner (ring_at paper.rings f) i ∷ []))
    ∙ sym (append_assoc (placings paper.rings (order_along (take k tree))) (map (λ v. (f, v)) (take i (ring_at paper.rings f))) ((f, corner (ring_at paper.rings f) i) ∷ []))

-- what comes after a corner of a face
rest_of : Paper → List Meeting → ℕ → ℕ → ℕ → List (ℕ × ℕ)
rest_of paper tree k f i = map (λ v. (f, v)) (drop (i + 1) (ring_at paper.rings f)) ++ placings paper.rings (faces_across (drop (suc k) tree))

all_placings : (paper : Paper) (tree : List Meeting) (k i : ℕ) (m : Meeting) → slice_get tree k ≡ Some m → i < length (ring_at paper.rings m.across)
    → placings paper.rings (order_along tree) ≡ done_to paper tree k m.across i ++ (m.across, corner (ring_at paper.rings m.across) i) ∷ rest_of paper tree k m.across i
unfolding rest_of
all_placings paper tree k i m e l =
    ap (λ t. placings paper.rings (order_along t)) (split_at tree k m e)
    ∙ ap (λ fs. placings paper.rings (0 ∷ fs)) (map-append (λ (x : Meeting). x.across) (take k tree) (m ∷ drop (suc k) tree))
    ∙ placings-append paper.rings (order_along (take k tree)) (m.across ∷ later)
    ∙ ap (λ ps. placings paper.rings (order_along (take k tree)) ++ (ps ++ placings paper.rings later)) ring_split
    ∙ ap (λ ps. placings paper.rings (order_along (take k tree)) ++ ps) (append_assoc front ((m.across, corner ring i) ∷ back) (placings paper.rings later))
    ∙ sym (append_assoc (placings paper.rings (order_along (take k tree))) front ((m.across, corner ring i) ∷ back ++ placings paper.rings later))
  where
    ring : List ℕ
    ring = ring_at paper.rings m.across

    later : List ℕ
    later = faces_across (drop (suc k) tree)

    front : List (ℕ × ℕ)
    front = map (λ v. (m.across, v)) (take i ring)

    back : List (ℕ × ℕ)
    back = map (λ v. (m.across, v)) (drop (i + 1) ring)

    ring_split : map (λ v. (m.across, v)) ring ≡ front ++ (m.across, corner ring i) ∷ back
    ring_split = ap (map (λ v. (m.across, v))) (sym (take-append-drop i ring) ∙ ap (λ r. take i ring ++ r) (drop_more ring i 0 l)) ∙ map-append (λ v. (m.across, v)) (take i ring) (corner ring i ∷ drop (i + 1) ring)

-- ---- the steps

pub carry_put : (paper : Paper) (tree : List Meeting) (up : List Bool) (k i : ℕ) (m : Meeting) (old new : Placed) (image : Image) → IsReady paper tree up → slice_get tree k ≡ Some m
    → i < length (ring_at paper.rings m.across) → IsStanding paper tree up (done_to paper tree k m.across i) old
    → IsImageOf (hinge_of paper up m old.points.items) (point_at paper.points (corner (ring_at paper.rings m.across) i)) image
    → Puts (corner (ring_at paper.rings m.across) i) image old new → IsStanding paper tree up (done_to paper tree k m.across (i + 1)) new
carry_put paper tree up k i m old new image r there l h is puts =
    subst (λ ps. IsStanding paper tree up ps new) (sym (done_more paper tree k m.across i l)) (record { carried = h.carried; so = h.so; stands = by puts })
  where
    v : ℕ
    v = corner (ring_at paper.rings m.across) i

    stands : Stands (length paper.points) h.carried (done_to paper tree k m.across i) old
    stands = h.stands

    in_ring : Contains (ring_at paper.rings m.across) v
    in_ring = Contains-get_or (ring_at paper.rings m.across) i 0 l

    c : IsCarriage paper tree up h.carried m old
    c = carriage paper tree up h.carried k m i old r h.so there h.stands

    here : IsImageHere old.scale (h.carried m.across v) image
    here = (image_here paper tree up h.carried m old v image r h.so stands.positive c in_ring is).1

    fit : pos 0 <ℤ image.n
    fit = let f = (image_here paper tree up h.carried m old v image r h.so stands.positive c in_ring is).0 in f.positive

    small : IsAdded v image old new → has_place old v ≡ false → IsBelow SLOPE_SIZE new.scale
    small a flag =
        let kn = c.known in
        let b = kn.faces in
        let two = two_placed paper (order_along (take k tree)) (map (λ w. (m.across, w)) (take i (ring_at paper.rings m.across))) r.has_faces (first_member 0 (faces_across (take k tree)) 0 refl) (let f = b.first in omega (arith, f)) in
        scale_small new.scale (point_at paper.points two.0) (point_at paper.points two.1) (point_at new.points.items two.0) (point_at new.points.items two.1) two.4
        (at two.0 two.2) (at two.1 two.3) (a.near two.0) (a.near two.1)
      where
        other : (u : ℕ) → Contains (done_to paper tree k m.across i) (0, u) → u ≢ v
        other u d e = false≢true (sym flag ∙ ap (has_place old) (sym e) ∙ stands.there (0, u) d)

        at : (u : ℕ) → Contains (done_to paper tree k m.across i) (0, u) → IsAt new.scale (place_of (point_at paper.points u)) (point_at new.points.items u)
        at u d =
            let so = h.so in
            at_same new.scale (place_of (point_at paper.points u)) (h.carried 0 u) (point_at new.points.items u) (so.places 0 u) (turned_same (h.carried 0 u) (place_of (point_at paper.points u)) (so.still u))
            (subst (λ z. IsAt z (h.carried 0 u) (point_at new.points.items u)) (sym a.scale)
            (subst (IsAt _ (h.carried 0 u)) (sym (a.others u (other u d))) (grown_at old.scale _ (h.carried 0 u) (point_at old.points.items u) (stands.at (0, u) d))))

    by : Puts v image old new → Stands (length paper.points) h.carried (done_to paper tree k m.across i ++ (m.across, v) ∷ []) new
    by (inl (flag, at, same)) = stands_same (length paper.points) h.carried _ old new m.across v h.stands same flag (here_at old.scale (h.carried m.across v) image _ fit here at)
    by (inr (flag, a)) = stands_added (length paper.points) h.carried _ old new m.across v image h.stands a flag (corner_there paper r.has_faces m.across v in_ring) here (small a flag)

-- an end of the edge stays where it is
carry_end : (paper : Paper) (tree : List Meeting) (up : List Bool) (k i : ℕ) (m : Meeting) (old new : Placed) → IsReady paper tree up → slice_get tree k ≡ Some m
    → i < length (ring_at paper.rings m.across) → IsStanding paper tree up (done_to paper tree k m.across i) old
    → IsEnd (edge_at paper.edges m.edge) (corner (ring_at paper.rings m.across) i) → IsSame old new → IsStanding paper tree up (done_to paper tree k m.across (i + 1)) new
carry_end paper tree up k i m old new r there l h end same =
    subst (λ ps. IsStanding paper tree up ps new) (sym (done_more paper tree k m.across i l)) (record { carried = h.carried; so = h.so; stands = by end })
  where
    v : ℕ
    v = corner (ring_at paper.rings m.across) i

    c : IsCarriage paper tree up h.carried m old
    c = carriage paper tree up h.carried k m i old r h.so there h.stands

    stays : (u : ℕ) → v ≡ u → has_place old u ≡ true → IsAt old.scale (h.carried m.across u) (point_at old.points.items u) → Stands (length paper.points) h.carried (done_to paper tree k m.across i ++ (m.across, v) ∷ []) new
    stays u e flag at = stands_same (length paper.points) h.carried _ old new m.across v h.stands same (ap (has_place old) e ∙ flag) (subst (λ w. IsAt old.scale (h.carried m.across w) (point_at old.points.items w)) (sym e) at)

    by : IsEnd (edge_at paper.edges m.edge) v → Stands (length paper.points) h.carried (done_to paper tree k m.across i ++ (m.across, v) ∷ []) new
    by (inl e) = stays _ e c.first_placed c.first_at
    by (inr e) = stays _ e c.second_placed c.second_at

pub carry_stop : (paper : Paper) (tree : List Meeting) (up : List Bool) (k i : ℕ) (m : Meeting) (old : Placed) (image : Image) → IsReady paper tree up → slice_get tree k ≡ Some m
    → i < length (ring_at paper.rings m.across) → IsStanding paper tree up (done_to paper tree k m.across i) old
    → IsImageOf (hinge_of paper up m old.points.items) (point_at paper.points (corner (ring_at paper.rings m.across) i)) image
    → (r : Refusal) → Refuses (corner (ring_at paper.rings m.across) i) image old r → RefusesFolding paper.points paper.rings paper.edges paper.sides paper.marks r
carry_stop paper tree up k i m old image r there l h is refusal no_place = by refusal no_place where
  v : ℕ
  v = corner (ring_at paper.rings m.across) i

  done : List (ℕ × ℕ)
  done = done_to paper tree k m.across i

  rest : List (ℕ × ℕ)
  rest = rest_of paper tree k m.across i

  all_is : placings paper.rings (order_along tree) ≡ done ++ (m.across, v) ∷ rest
  all_is = all_placings paper tree k i m there l

  so : IsCarried paper.points paper.rings paper.edges (all_of paper (order_along tree)) up (order_along tree) h.carried
  so = h.so

  stands : Stands (length paper.points) h.carried done old
  stands = h.stands

  here : IsImageHere old.scale (h.carried m.across v) image
  here = (image_here paper tree up h.carried m old v image r h.so stands.positive (carriage paper tree up h.carried k m i old r h.so there h.stands) (Contains-get_or (ring_at paper.rings m.across) i 0 l) is).1

  by : (refusal : Refusal) → Refuses v image old refusal → RefusesFolding paper.points paper.rings paper.edges paper.sides paper.marks refusal
  by (Inconsistent u) (e, flag, apart) = (
    order_along tree,
    up,
    h.carried,
    placed_so paper tree up h.carried r h.so,
    (
      length done,
      (m.across, v),
      subst (λ ps. GoesUpTo ps h.carried (length done)) (sym all_is) (goes_on (length paper.points) h.carried done ((m.across, v) ∷ rest) old h.stands),
      subst (λ ps. IsTornAt ps h.carried (length done) (m.across, v)) (sym all_is) (torn_here (length paper.points) h.carried done rest old m.across v image h.stands so.places flag here apart),
      sym e,
    ),
  )
  by (Oversized u) (e, flag, far) = (
    order_along tree,
    up,
    h.carried,
    placed_so paper tree up h.carried r h.so,
    (
      length done,
      (m.across, v),
      subst (λ ps. GoesUpTo ps h.carried (length done)) (sym all_is) (goes_on (length paper.points) h.carried done ((m.across, v) ∷ rest) old h.stands),
      subst (λ ps. IsTooFarAt ps h.carried (length done) (m.across, v)) (sym all_is) (far_here (length paper.points) h.carried done rest old m.across v image h.stands so.places flag here far),
      sym e,
    ),
  )
  by other nothing = absurd nothing

-- ---- as the code has them

-- the ring, the edge's ends and the flag, as they were read
pub record HasRead (paper : Paper) (up : List Bool) (m : Meeting) (ring : List ℕ) (ends : EdgeEnds) (flag : Bool) : Type 0 where
  pub ring_is : ring ≡ ring_at paper.rings m.across
  pub ends_are : ends ≡ edge_at paper.edges m.edge
  pub flag_is : flag ≡ is_up up m.across

pub carry_more : (paper : Paper) (tree : List Meeting) (up : List Bool) (k i : ℕ) (m : Meeting) (old new : Placed) (ring : List ℕ) (ends : EdgeEnds) (flag : Bool) → IsReady paper tree up → slice_get tree k ≡ Some m
    → HasRead paper up m ring ends flag → i < length ring → IsStanding paper tree up (done_to paper tree k m.across i) old
    → Moves paper.points ends flag (slice_index_or ring i 0) old new → IsStanding paper tree up (done_to paper tree k m.across (i + 1)) new
carry_more paper tree up k i m old new ring ends flag r there read l h c = by d where
  d : Moves paper.points (edge_at paper.edges m.edge) (is_up up m.across) (slice_index_or (ring_at paper.rings m.across) i 0) old new
  d = subst (λ b. Moves paper.points (edge_at paper.edges m.edge) b (slice_index_or (ring_at paper.rings m.across) i 0) old new) read.flag_is
      (subst (λ e. Moves paper.points e flag (slice_index_or (ring_at paper.rings m.across) i 0) old new) read.ends_are (subst (λ vs. Moves paper.points ends flag (slice_index_or vs i 0) old new) read.ring_is c))

  within : i < length (ring_at paper.rings m.across)
  within = subst (λ vs. i < length vs) read.ring_is l

  by : Moves paper.points (edge_at paper.edges m.edge) (is_up up m.across) (slice_index_or (ring_at paper.rings m.across) i 0) old new → IsStanding paper tree up (done_to paper tree k m.across (i + 1)) new
  by (inl (end, same)) = carry_end paper tree up k i m old new r there within h end same
  by (inr (image, is, puts)) = carry_put paper tree up k i m old new image r there within h is puts

pub carry_refused : (paper : Paper) (tree : List Meeting) (up : List Bool) (k i : ℕ) (m : Meeting) (old : Placed) (ring : List ℕ) (ends : EdgeEnds) (flag : Bool) → IsReady paper tree up → slice_get tree k ≡ Some m
    → HasRead paper up m ring ends flag → i < length ring → IsStanding paper tree up (done_to paper tree k m.across i) old → (refusal : Refusal)
    → StopsCarrying paper.points ends flag (slice_index_or ring i 0) old refusal → RefusesFolding paper.points paper.rings paper.edges paper.sides paper.marks refusal
carry_refused paper tree up k i m old ring ends flag r there read l h refusal c =
    let d = subst (λ b. StopsCarrying paper.points (edge_at paper.edges m.edge) b (slice_index_or (ring_at paper.rings m.across) i 0) old refusal) read.flag_is
    (subst (λ e. StopsCarrying paper.points e flag (slice_index_or (ring_at paper.rings m.across) i 0) old refusal) read.ends_are (subst (λ vs. StopsCarrying paper.points ends flag (slice_index_or vs i 0) old refusal) read.ring_is c)) in
    carry_stop paper tree up k i m old d.0 r there (subst (λ vs. i < length vs) read.ring_is l) h d.1 refusal d.2

pub has_read : (paper : Paper) (tree : List Meeting) (up : List Bool) (k : ℕ) (m : Meeting) (rings : List (List ℕ)) (edges : List EdgeEnds) (read ring : List ℕ) → IsReady paper tree up → slice_get tree k ≡ Some m
    → rings ≡ paper.rings → edges ≡ paper.edges → read ≡ slice_index_or rings m.across read → ring ≡ read
    → HasRead paper up m ring (edge_at edges m.edge) (slice_index_or up m.across false)
has_read paper tree up k m rings edges read ring r there er ee e same =
    let kn = known_at paper tree up k m r there in
    let b = kn.faces in
    let s = b.second in
    record {
      ring_is = same ∙ get_or_read rings m.across read (subst (λ rs. m.across < length rs) (sym er) s) e [] ∙ ap (λ rs. ring_at rs m.across) er;
      ends_are = ap (λ es. edge_at es m.edge) ee;
      flag_is = get_or_default up m.across false true (let n = r.as_many in omega (arith, n, s));
    }

pub vertex_read : (paper : Paper) (up : List Bool) (m : Meeting) (ring : List ℕ) (ends : EdgeEnds) (flag : Bool) (i : ℕ) → HasFaces paper → HasRead paper up m ring ends flag → i < length ring → slice_index_or ring i 0 < length paper.points
vertex_read paper up m ring ends flag i h read l = corner_there paper h m.across (slice_index_or ring i 0) (subst (λ vs. Contains vs (slice_index_or ring i 0)) read.ring_is (Contains-get_or ring i 0 l))
