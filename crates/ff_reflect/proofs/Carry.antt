-- A face is carried from the one over whose edge it was first met.
use Rattle.std.proofs.Common.{◌≡◌, ◌≢◌, ◌∙◌, ℕ, zero, suc, ◌+◌, ◌<◌, ◌≤◌, ◌⊎◌, inl, inr, List, [], ◌∷◌, ◌++◌, length, Bool, true, false, cond, ◌==◌, arith, refl, sym, ap, subst, map, take, drop, slice_get, Some, None, pos, ◌*ℤ◌, ◌<ℤ◌}
use Rattle.std.proofs.lemmas.Bool.{false≢true}
use Rattle.std.proofs.lemmas.List.{map-append, append_assoc, append-nil, take_more, take_all}
use Rattle.std.proofs.lemmas.Option.{slice_get_within, get_or_from_slice_get}
use Rattle.std.proofs.lemmas.List.Elements.{Contains-append_left, Contains-append_right}
use Rattle.std.specs.List.{Contains}
use Rattle.ff_basics.proofs.Memberships.{by_member, first_member, later_member, no_member}
use Rattle.ff_whole.specs.declared.points.Pt.{Pt}
use Rattle.ff_whole.specs.declared.places.Place.{Place}
use Rattle.ff_whole.specs.Convex.{point_at}
use Rattle.ff_types.specs.Patterns.{edge_at}
use Rattle.ff_types.specs.Faces.{ring_at}
use Rattle.ff_types.specs.Foldings.{is_up}
use Rattle.ff_types.specs.Placing.{Meeting, has_number, IsParent}
use Rattle.ff_types.specs.Carrying.{IsCarried}
use Rattle.ff_types.specs.FoldRefusals.{placings, ArePlaced}
use Rattle.ff_reflect.specs.declared.image.Hinge.{Hinge}
use Rattle.ff_reflect.specs.declared.image.Image.{Image}
use Rattle.ff_reflect.specs.declared.placed.Placed.{Placed}
use Rattle.ff_reflect.specs.Images.{IsAt, IsImageOf}
use Rattle.ff_reflect.specs.Sheets.{Paper, HasFaces}
use Rattle.ff_reflect.specs.Trees.{first_meetings, faces_across, order_along, Grows}
use Rattle.ff_reflect.specs.Puts.{IsFit, IsHinge, has_place}
use Rattle.ff_reflect.specs.Standing.{Stands, IsReady, IsStanding}
use Rattle.ff_reflect.proofs.Shapes.{image_at}
use Rattle.ff_reflect.proofs.Firsts.{has_from_contains}
use Rattle.ff_reflect.proofs.Orders.{IsOrdered, all_of, order_closed}
use Rattle.ff_reflect.proofs.Foldings.{IsKnown, known, ends_in, ends_apart, at_same}
use Rattle.ff_reflect.proofs.Refused.{get_member}
use Rattle.ff_reflect.proofs.Taken.{tree_orders}
use Rattle.ff_reflect.proofs.Stand.{IsImageHere}

-- ---- placings

pub placings-append : (rings : List (List ℕ)) (xs ys : List ℕ) → placings rings (xs ++ ys) ≡ placings rings xs ++ placings rings ys
placings-append rings [] ys = refl
placings-append rings (f ∷ xs) ys = ap (λ ps. map (λ v. (f, v)) (ring_at rings f) ++ ps) (placings-append rings xs ys)
    ∙ sym (append_assoc (map (λ v. (f, v)) (ring_at rings f)) (placings rings xs) (placings rings ys))

map_in : (f v : ℕ) (ring : List ℕ) → Contains ring v → Contains {X = ℕ × ℕ} (map (λ u. (f, u)) ring) (f, v)
map_in f v [] c = absurd (no_member v c)
map_in f v (u ∷ ring) c = by_member u ring v (λ e. first_member (f, u) (map (λ u. (f, u)) ring) (f, v) (ap (λ w. (f, w)) e)) (λ k. later_member (f, u) (map (λ u. (f, u)) ring) (f, v) (map_in f v ring k)) c

pub placings_in : (rings : List (List ℕ)) (order : List ℕ) (f v : ℕ) → Contains order f → Contains (ring_at rings f) v → Contains {X = ℕ × ℕ} (placings rings order) (f, v)
placings_in rings [] f v c k = absurd (no_member f c)
placings_in rings (g ∷ order) f v c k = by_member g order f
    (λ e. Contains-append_left (map (λ u. (g, u)) (ring_at rings g)) (placings rings order) (f, v) (subst (λ h. Contains {X = ℕ × ℕ} (map (λ u. (h, u)) (ring_at rings h)) (f, v)) (sym e) (map_in f v (ring_at rings f) k)))
    (λ d. Contains-append_right (map (λ u. (g, u)) (ring_at rings g)) (placings rings order) (f, v) (placings_in rings order f v d k)) c

-- ---- the tree up to a meeting

-- the face from which a meeting is stands before it
from_before : (seen : List ℕ) (tree : List Meeting) → Grows seen tree → (k : ℕ) (m : Meeting) → slice_get tree k ≡ Some m → Contains seen m.face ⊎ Contains (faces_across (take k tree)) m.face
from_before seen [] g k m e = absurd (let n : None ≡ Some m = e in cc)
from_before seen (x ∷ tree) g zero m e = let d : x ≡ m = (let n : Some x ≡ Some m = e in cc) in inl (subst (λ (z : Meeting). Contains seen z.face) d g.0)
from_before seen (x ∷ tree) g (suc k) m e = elim (from_before (x.across ∷ seen) tree g.2 k m e) [
  | inl c ↦ by_member x.across seen m.face (λ d. inr (first_member x.across (faces_across (take k tree)) m.face d)) (λ n. inl n) c
  | inr c ↦ inr (later_member x.across (faces_across (take k tree)) m.face c)
]

pub face_before : (tree : List Meeting) → Grows (0 ∷ []) tree → (k : ℕ) (m : Meeting) → slice_get tree k ≡ Some m → Contains (order_along (take k tree)) m.face
face_before tree g k m e = elim (from_before (0 ∷ []) tree g k m e) [
  | inl c ↦ by_member 0 [] m.face (λ d. first_member 0 (faces_across (take k tree)) m.face d) (λ n. absurd (no_member m.face n)) c
  | inr c ↦ later_member 0 (faces_across (take k tree)) m.face c
]

pub split_at : {A : Type 0} (xs : List A) (k : ℕ) (x : A) → slice_get xs k ≡ Some x → xs ≡ take k xs ++ x ∷ drop (suc k) xs
split_at [] k x e = absurd (let n : None ≡ Some x = e in cc)
split_at (y ∷ xs) zero x e = ap (λ z. z ∷ xs) (let n : Some y ≡ Some x = e in let d : y ≡ x = cc in d)
split_at (y ∷ xs) (suc k) x e = ap (λ r. y ∷ r) (split_at xs k x e)

-- a meeting of the tree is the first with its face across
record IsFirstMeeting (seen : List ℕ) (all : List Meeting) (m : Meeting) : Type 0 where
  place : ℕ
  there : slice_get all place ≡ Some m
  new : has_number m.across seen ≡ false
  first : (j : ℕ) (k : Meeting) → j < place → slice_get all j ≡ Some k → k.across ≢ m.across

first_meeting : (seen : List ℕ) (all : List Meeting) (m : Meeting) → Contains (first_meetings seen all) m → IsFirstMeeting seen all m
first_meeting seen [] m c = absurd (no_member m c)
first_meeting seen (x ∷ all) m c = by (has_number x.across seen) refl (first_meeting seen all m) (first_meeting (x.across ∷ seen) all m) c where
  other : (a b : Bool) → cond a true b ≡ false → b ≡ false
  other true b e = absurd (false≢true (sym e))
  other false b e = e

  unlike : has_number m.across (x.across ∷ seen) ≡ false → x.across ≢ m.across
  unlike e q = false≢true (sym e ∙ has_from_contains m.across (x.across ∷ seen) (first_member x.across seen m.across q))

  step : (s : List ℕ) → (r : IsFirstMeeting s all m) → has_number m.across seen ≡ false → x.across ≢ m.across → IsFirstMeeting seen (x ∷ all) m
  step s r n d = record { place = suc r.place; there = r.there; new = n; first = go r.place r.first } where
    go : (n : ℕ) → ((j : ℕ) (k : Meeting) → j < n → slice_get all j ≡ Some k → k.across ≢ m.across) → (j : ℕ) (k : Meeting) → j < suc n → slice_get (x ∷ all) j ≡ Some k → k.across ≢ m.across
    go n f zero k l e = let q : x ≡ k = (let s : Some x ≡ Some k = e in cc) in subst (λ (z : Meeting). z.across ≢ m.across) q d
    go n f (suc j) k l e = f j k (omega (arith, l)) e

  by : (b : Bool) → has_number x.across seen ≡ b → (Contains (first_meetings seen all) m → IsFirstMeeting seen all m) → (Contains (first_meetings (x.across ∷ seen) all) m → IsFirstMeeting (x.across ∷ seen) all m)
      → Contains (cond b (first_meetings seen all) (x ∷ first_meetings (x.across ∷ seen) all)) m → IsFirstMeeting seen (x ∷ all) m
  by true e f g c = let r = f c in step seen r r.new (λ q. false≢true (sym r.new ∙ ap (λ i. has_number i seen) (sym q) ∙ e))
  by false e f g c = by_member x (first_meetings (x.across ∷ seen) all) m
      (λ d. record { place = 0; there = ap Some d; new = subst (λ (z : Meeting). has_number z.across seen ≡ false) d e; first = λ j k l q. absurd (omega (arith, l)) })
      (λ k. let r = g k in step (x.across ∷ seen) r (other (m.across == x.across) (has_number m.across seen) r.new) (unlike r.new)) c

pub parent_of : (all tree : List Meeting) (m : Meeting) → tree ≡ first_meetings (0 ∷ []) all → Contains tree m → (i : ℕ) × IsParent all i m
parent_of all tree m e c =
    let r = first_meeting (0 ∷ []) all m (subst (λ ms. Contains ms m) e c) in
    (r.place, (r.there, (λ z. false≢true (sym r.new ∙ has_from_contains m.across (0 ∷ []) (first_member 0 [] m.across (sym z)))), r.first))

-- ---- a face ready to be carried

pub ordered : (paper : Paper) (tree : List Meeting) (up : List Bool) → IsReady paper tree up → IsOrdered paper (order_along tree)
ordered paper tree up r = record { has_faces = r.has_faces; in_order = tree_orders paper _ tree r.tree_is }

pub placed_so : (paper : Paper) (tree : List Meeting) (up : List Bool) (carried : ℕ → ℕ → Place) → IsReady paper tree up
    → IsCarried paper.points paper.rings paper.edges (all_of paper (order_along tree)) up (order_along tree) carried
    → ArePlaced paper.points paper.rings paper.edges paper.sides paper.marks (order_along tree) up carried
placed_so paper tree up carried r so = record { in_order = tree_orders paper _ tree r.tree_is; flags = r.flags; whole = r.whole; carried_so = so }

-- the edge over which a face is carried, with the images of its ends
abbrev pub hinge_of : Paper → List Bool → Meeting → List Pt → Hinge
hinge_of paper up m points = record {
  up = is_up up m.across;
  p = point_at paper.points (edge_at paper.edges m.edge).a;
  q = point_at paper.points (edge_at paper.edges m.edge).b;
  u = point_at points (edge_at paper.edges m.edge).a;
  v = point_at points (edge_at paper.edges m.edge).b;
}

-- what is done before the i-th corner of the face across the k-th meeting of the tree
abbrev pub done_to : Paper → List Meeting → ℕ → ℕ → ℕ → List (ℕ × ℕ)
done_to paper tree k f i = placings paper.rings (order_along (take k tree)) ++ map (λ v. (f, v)) (take i (ring_at paper.rings f))

-- facts of the face
pub record IsCarriage (paper : Paper) (tree : List Meeting) (up : List Bool) (carried : ℕ → ℕ → Place) (m : Meeting) (s : Placed) : Type 0 where
  pub known : IsKnown paper m
  pub across : Contains (order_along tree) m.across
  pub first_at : IsAt s.scale (carried m.across (edge_at paper.edges m.edge).a) (point_at s.points.items (edge_at paper.edges m.edge).a)
  pub second_at : IsAt s.scale (carried m.across (edge_at paper.edges m.edge).b) (point_at s.points.items (edge_at paper.edges m.edge).b)
  pub first_placed : has_place s (edge_at paper.edges m.edge).a ≡ true
  pub second_placed : has_place s (edge_at paper.edges m.edge).b ≡ true

pub carriage : (paper : Paper) (tree : List Meeting) (up : List Bool) (carried : ℕ → ℕ → Place) (k : ℕ) (m : Meeting) (i : ℕ) (s : Placed) → IsReady paper tree up
    → IsCarried paper.points paper.rings paper.edges (all_of paper (order_along tree)) up (order_along tree) carried
    → slice_get tree k ≡ Some m → Stands (length paper.points) carried (done_to paper tree k m.across i) s → IsCarriage paper tree up carried m s
carriage paper tree up carried k m i s r so there h =
    let t = r.tree_is in
    let parent = parent_of (all_of paper (order_along tree)) tree m t.first (get_member tree k m there) in
    let in_all = get_member (all_of paper (order_along tree)) parent.0 m parent.1.0 in
    let o = ordered paper tree up r in
    let kn = known paper (order_along tree) r.has_faces m in_all in
    let e = edge_at paper.edges m.edge in
    let ends = ends_in paper.rings e m.face m.across kn.faces in
    let face = face_before tree t.grows k m there in
    let done = λ (v : ℕ) (c : Contains (ring_at paper.rings m.face) v). Contains-append_left (placings paper.rings (order_along (take k tree))) (map (λ v. (m.across, v)) (take i (ring_at paper.rings m.across))) _ (placings_in paper.rings (order_along (take k tree)) m.face v face c) in
    record {
      known = kn;
      across = order_closed paper (order_along tree) o m in_all;
      first_at = at_same s.scale _ _ _ (so.places m.face e.a) (so.agree_first parent.0 m parent.1) (h.at (m.face, e.a) (done e.a ends.0.0));
      second_at = at_same s.scale _ _ _ (so.places m.face e.b) (so.agree_second parent.0 m parent.1) (h.at (m.face, e.b) (done e.b ends.0.1));
      first_placed = h.there (m.face, e.a) (done e.a ends.0.0);
      second_placed = h.there (m.face, e.b) (done e.b ends.0.1);
    }

-- the image that the code computes is the place where the face carries the vertex
pub image_here : (paper : Paper) (tree : List Meeting) (up : List Bool) (carried : ℕ → ℕ → Place) (m : Meeting) (s : Placed) (v : ℕ) (image : Image) → IsReady paper tree up
    → IsCarried paper.points paper.rings paper.edges (all_of paper (order_along tree)) up (order_along tree) carried → pos 0 <ℤ s.scale
    → IsCarriage paper tree up carried m s → Contains (ring_at paper.rings m.across) v → IsImageOf (hinge_of paper up m s.points.items) (point_at paper.points v) image
    → IsFit image × IsImageHere s.scale (carried m.across v) image
image_here paper tree up carried m s v image r so h c cv i =
    let kn = c.known in
    let e = edge_at paper.edges m.edge in
    let ends = ends_in paper.rings e m.face m.across kn.faces in
    let there = image_at s.scale (is_up up m.across) (point_at paper.points e.a) (point_at paper.points e.b) (point_at paper.points v) (carried m.across e.a) (carried m.across e.b) (carried m.across v)
    (point_at s.points.items e.a) (point_at s.points.items e.b) h (so.places m.across e.a) (so.places m.across e.b) (so.places m.across v)
    (so.shapes m.across e.a e.b e.b c.across ends.1.0 ends.1.1 ends.1.1) (so.shapes m.across e.a e.b v c.across ends.1.0 ends.1.1 cv) c.first_at c.second_at in (
      record { positive = subst (λ z. pos 0 <ℤ z) (sym i.n_is) (ends_apart paper r.has_faces m.edge kn.edge); x_below = i.x_below; y_below = i.y_below; n_below = i.n_below },
      record {
        x = ap (λ z. z *ℤ (s.scale *ℤ (carried m.across v).x)) i.n_is ∙ there.x ∙ ap (λ z. (carried m.across v).w *ℤ z) (sym i.x_is);
        y = ap (λ z. z *ℤ (s.scale *ℤ (carried m.across v).y)) i.n_is ∙ there.y ∙ ap (λ z. (carried m.across v).w *ℤ z) (sym i.y_is);
      },
    )

-- what is known of a meeting of the tree
pub known_at : (paper : Paper) (tree : List Meeting) (up : List Bool) (k : ℕ) (m : Meeting) → IsReady paper tree up → slice_get tree k ≡ Some m → IsKnown paper m
known_at paper tree up k m r there =
    let t = r.tree_is in
    let parent = parent_of (all_of paper (order_along tree)) tree m t.first (get_member tree k m there) in
    known paper (order_along tree) r.has_faces m (get_member (all_of paper (order_along tree)) parent.0 m parent.1.0)

pub hinge_there : (paper : Paper) (m : Meeting) → HasFaces paper → IsKnown paper m → IsHinge paper.points (edge_at paper.edges m.edge)
hinge_there paper m h k = let d = h.drawing in let j = d.edges_join m.edge k.edge in record { first = j.first; second = j.second; apart = ends_apart paper h m.edge k.edge }

pub done_all : (paper : Paper) (tree : List Meeting) (up : List Bool) (k i : ℕ) (m : Meeting) (s : Placed) → slice_get tree k ≡ Some m → length (ring_at paper.rings m.across) ≤ i
    → IsStanding paper tree up (done_to paper tree k m.across i) s → IsStanding paper tree up (placings paper.rings (order_along (take (k + 1) tree))) s
done_all paper tree up k i m s e l h = subst (λ ps. IsStanding paper tree up ps s)
    (ap (λ vs. placings paper.rings (order_along (take k tree)) ++ map (λ v. (m.across, v)) vs) (take_all i (ring_at paper.rings m.across) l)
    ∙ ap (λ ps. placings paper.rings (order_along (take k tree)) ++ ps) (sym (append-nil (map (λ v. (m.across, v)) (ring_at paper.rings m.across))))
    ∙ sym (placings-append paper.rings (order_along (take k tree)) (m.across ∷ []))
    ∙ ap (λ fs. placings paper.rings (0 ∷ fs)) (sym (map-append (λ (x : Meeting). x.across) (take k tree) (m ∷ [])) ∙ ap faces_across (sym (one_more tree k e)))) h
  where
    one_more : (xs : List Meeting) (k : ℕ) → slice_get xs k ≡ Some m → take (k + 1) xs ≡ take k xs ++ m ∷ []
    one_more xs k e = take_more xs k m (slice_get_within xs k m e) ∙ ap (λ x. take k xs ++ x ∷ []) (get_or_from_slice_get xs k m m e)
