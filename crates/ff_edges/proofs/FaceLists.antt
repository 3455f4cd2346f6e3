-- The list of edges inside faces, as far as it is made, and what it comes to.
use Rattle.std.proofs.Common.{◌≡◌, inl, inr, refl, sym, ◌∙◌, arith, ℕ, ◌+◌, ◌<◌, ◌≤◌, pos, ◌<ℤ◌, ◌*ℤ◌, Bool, true, false, ◌&&◌, ◌||◌, IsTrue, List, [], ◌∷◌, ◌++◌, length}
use Rattle.std.specs.Ordering.{int_eq}
use Rattle.std.specs.List.{All}
use Rattle.std.proofs.lemmas.Bool.{false≢true, ltb-true}
use Rattle.std.proofs.lemmas.Bool.Decides.{Decides-int_eq}
use Rattle.std.proofs.lemmas.List.Elements.{All-cons}
use Rattle.ff_basics.proofs.Tests.{both_of, of_both}
use Rattle.ff_whole.specs.declared.points.Pt.{Pt}
use Rattle.ff_whole.specs.declared.places.Place.{Place}
use Rattle.ff_whole.specs.Points.{IsNear, minus, dot}
use Rattle.ff_whole.specs.Places.{IsPlace, same_place, blend}
use Rattle.ff_whole.specs.Sizes.{IsSmallPlace}
use Rattle.ff_whole.specs.Meeting.{HasNoDivisor}
use Rattle.ff_whole.proofs.Signs.{linear}
use Rattle.ff_whole.proofs.OnEdges.{IsOn}
use Rattle.ff_types.specs.declared.refusals.No.{No}
use Rattle.ff_types.specs.declared.refusals.No.TheVariants.{Refused, NoMemory}
use Rattle.ff_types.specs.Faces.{ring_at}
use Rattle.ff_types.specs.Sheets.{Sheet, tail, head, lies_up, is_face, is_edge, mark_of}
use Rattle.ff_types.specs.Borders.{is_on}
use Rattle.ff_types.specs.Foldings.{is_folded}
use Rattle.ff_types.specs.Cites.{is_flat}
use Rattle.ff_types.specs.Segments.{HasEdgeInside}
use Rattle.ff_edges.specs.declared.edge_face.EdgeFace.{EdgeFace}
use Rattle.ff_edges.specs.Clips.{IsPartInside, IsNoneInside}
use Rattle.ff_edges.specs.SharedSegments.{IsFull}
use Rattle.ff_edges.specs.EdgesInside.{is_inner_edge, ComesBefore, IsEdgeFace, edge_and_face, AreEdgeFaces, IsCrossed, AreFacesTo, AreNoEdgeFaces}
use Rattle.ff_edges.proofs.OnWays.{on_from, to_on, on_from_ranked, ranked_from_on}
use Rattle.ff_edges.proofs.CommonWays.{IsSpan, span_from, span_to, long_of_rank}
use Rattle.ff_edges.proofs.FaceSteps.{inner_of, inside_of, witness_of}
use Rattle.ff_edges.proofs.FaceParts.{blend_left, blend_place, blend_on, comes_before, lies_between}
use Rattle.ff_edges.proofs.Rows as rows

all_two : {A : Type 0} (P : A → Type 0) (s t : A) → P s → P t → All P (s ∷ t ∷ [])
all_two P s t x y = All-cons P s (t ∷ []) x (All-cons P t [] y (λ k d l. absurd (omega (arith, l))))

differ : (s t : Place) → ComesBefore s t → same_place s t ≡ false
differ s t h = by (same_place s t) refl h where
  by : (b : Bool) → same_place s t ≡ b → ComesBefore s t → same_place s t ≡ false
  by false e h = e
  by true e h = absurd (not (both_of (int_eq (s.x *ℤ t.w) (t.x *ℤ s.w)) _ e) h) where
    not : IsTrue (int_eq (s.x *ℤ t.w) (t.x *ℤ s.w)) × IsTrue (int_eq (s.y *ℤ t.w) (t.y *ℤ s.w)) → ComesBefore s t → ⊥
    not (x, y) (inl l) = let a = (Decides-int_eq (s.x *ℤ t.w) (t.x *ℤ s.w)).0 x in omega (arith, linear)
    not (x, y) (inr l) = let a = (Decides-int_eq (s.y *ℤ t.w) (t.y *ℤ s.w)).0 y in let b = l.1 in omega (arith, linear)

-- ---- one edge and one face

module _ (g : Sheet) (e f : ℕ) (p q : Pt) (np : IsNear p) (nq : IsNear q) (span : IsSpan (tail g e) (head g e) p q) where
  long : pos 0 <ℤ dot (minus q p) (minus q p)
  long = long_of_rank p q span.goes

  on_way : (m : Place) → IsTrue (is_on g e m) → IsOn p q m
  on_way m t = on_from_ranked p q m long span.goes (span_from (tail g e) (head g e) p q span m (on_from (tail g e) (head g e) m t))

  on_edge : (m : Place) → IsOn p q m → IsTrue (is_on g e m)
  on_edge m h = to_on (tail g e) (head g e) m (span_to (tail g e) (head g e) p q span m (ranked_from_on p q m long span.goes h))

  pub found : f < length g.rings → IsTrue (is_inner_edge g e) → (s t : Place) → IsPartInside g.images (lies_up g f) (ring_at g.rings f) (length (ring_at g.rings f)) p q s t
      → IsEdgeFace g (record { e = e; face = f; at = s ∷ t ∷ [] })
  found face inner s t h = record {
    inner = inner;
    inside = record {
      s = s;
      t = t;
      s_place = h.part.first.small.positive;
      t_place = h.part.second.small.positive;
      differ = differ s t order;
      on = of_both _ _ first second;
      inside = λ i j x y. inside_of g f face (blend i s j t) (λ k l. blend_left _ i j s t x y (h.left k l));
    };
    two = refl;
    on = of_both _ _ first (of_both _ true second refl);
    witness = record { are_places = all_two IsPlace s t h.part.first.small.positive h.part.second.small.positive; witness = witness_of g f face s t h.left };
    small = all_two IsSmallPlace s t h.part.first.small h.part.second.small;
    lowest = all_two HasNoDivisor s t h.part.first.lowest h.part.second.lowest;
    goes = order;
    all = λ m positive on inside. lies_between p q s t long h.part.first.on h.part.second.on m (on_way m on).on positive h.part.first.small.positive h.part.second.small.positive h.part.goes
        (h.all m positive (to_on p q m (on_way m on)) (inner_of g f m inside));
  } where
    order : ComesBefore s t
    order = comes_before p q s t long h.part.first.on h.part.second.on np nq span.goes h.part.goes

    first : IsTrue (is_on g e s)
    first = on_edge s (record { on = h.part.first.on; after = h.part.first.after; before = h.part.first.before })

    second : IsTrue (is_on g e t)
    second = on_edge t (record { on = h.part.second.on; after = h.part.second.after; before = h.part.second.before })

  pub not_found : IsNoneInside g.images (lies_up g f) (ring_at g.rings f) p q → HasEdgeInside g f e → ⊥
  not_found none h =
      let m = blend 1 h.s 1 h.t in
      let on = both_of (is_on g e h.s) (is_on g e h.t) h.on in
      none m (blend_place 1 1 h.s h.t (omega arith) h.s_place h.t_place) (to_on p q m (blend_on p q 1 1 h.s h.t (on_way h.s on.0) (on_way h.t on.1)))
      (inner_of g f m (h.inside 1 1 (omega arith) (omega arith)))

-- ---- the lists

module _ (g : Sheet) where
  face_of : (e f : ℕ) → HasEdgeInside g f e → f < length g.rings
  face_of e f h = ltb-true f (length g.rings) (both_of (is_face g f) _ (h.inside 1 1 (omega arith) (omega arith))).0

  pub faces_skip : (e f : ℕ) (list : List EdgeFace) → (HasEdgeInside g f e → ⊥) → AreFacesTo g e f list → AreFacesTo g e (f + 1) list
  faces_skip e f list none s = rows.skip edge_and_face (IsEdgeFace g) (IsCrossed g) e f list (λ w. none w.inside) s

  -- the edge has no part inside the faces from one up to another
  pub faces_skip_to : (e f h : ℕ) (list : List EdgeFace) → f ≤ h → ((k : ℕ) → f ≤ k → k < h → k < length g.rings → HasEdgeInside g k e → ⊥) → AreFacesTo g e f list → AreFacesTo g e h list
  faces_skip_to e f h list up none s = rows.skip_to edge_and_face (IsEdgeFace g) (IsCrossed g) e f h list up (λ k l m w. none k l m (face_of e k w.inside) w.inside) s

  key_is : (x : EdgeFace) (e f : ℕ) → x.e ≡ e → x.face ≡ f → edge_and_face x ≡ (e, f)
  key_is x e f p q = λ i. (p i, q i)

  pub faces_take : (e f : ℕ) (list : List EdgeFace) (x : EdgeFace) → (x.e ≡ e) × (x.face ≡ f) × IsEdgeFace g x → AreFacesTo g e f list → AreFacesTo g e (f + 1) (list ++ x ∷ [])
  faces_take e f list x h s = rows.take edge_and_face (IsEdgeFace g) (IsCrossed g) e f list x (key_is x e f h.0 h.1) h.2 s

  pub faces_end : (e f : ℕ) (list : List EdgeFace) → length g.rings ≤ f → AreFacesTo g e f list → AreFacesTo g (e + 1) 0 list
  faces_end e f list far s = rows.row_ends edge_and_face (IsEdgeFace g) (IsCrossed g) e list f (λ b w. let l = face_of e b w.inside in omega (arith, l, far)) s

  -- a border edge has none
  pub faces_border : (e f : ℕ) (list : List EdgeFace) → is_inner_edge g e ≡ false → AreFacesTo g e f list → AreFacesTo g (e + 1) 0 list
  faces_border e f list border s = rows.row_ends edge_and_face (IsEdgeFace g) (IsCrossed g) e list f (λ b w. absurd (false≢true (sym border ∙ w.inner))) s

  edge_of : (e : ℕ) → IsTrue (is_inner_edge g e) → e < length g.edges
  edge_of e t = ltb-true e (length g.edges) (both_of (is_edge g e) _ (either (is_edge g e) (is_folded (mark_of g e)) (is_flat (mark_of g e)) t)).0 where
    either : (b c d : Bool) → IsTrue ((b && c) || (b && d)) → IsTrue (b && true)
    either true c d t = refl
    either false c d t = absurd (false≢true t)

  pub faces_are : (n : ℕ) (list : List EdgeFace) → length g.edges ≤ n → AreFacesTo g n 0 list → AreEdgeFaces g list
  faces_are n list far s = record {
    some = record { each = λ m c k. (s.only m c k).0; sorted = s.sorted };
    all = λ e f t h. let l = edge_of e t in s.all e f (record { inner = t; inside = h }) (inl (omega (arith, l, far)));
  }

  pub too_many : (e f : ℕ) (list : List EdgeFace) (x : EdgeFace) → (x.e ≡ e) × (x.face ≡ f) × IsEdgeFace g x → AreFacesTo g e f list
      → (no : No) → IsFull (length list) no → AreNoEdgeFaces g no
  too_many e f list x good s NoMemory full = tt
  too_many e f list x good s (Refused r) full =
      let more = faces_take e f list x good s in
      let one = rows.one_longer list x in
      let many = full.1 in
      (full.0, (list ++ x ∷ [], record { each = λ m c k. (more.only m c k).0; sorted = more.sorted }, omega (arith, one, many)))
