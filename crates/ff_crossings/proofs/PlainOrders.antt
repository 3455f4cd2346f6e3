-- What the order of faces at a plain border place says, or else two chords there alternate.
use Rattle.std.proofs.Common.{◌≡◌, ◌≢◌, ℕ, ◌<◌, ◌⊎◌, inl, inr, Bool, true, false, List, length, IsTrue, Contains}
use Rattle.ff_whole.specs.declared.places.Place.{Place}
use Rattle.ff_types.specs.Sheets.{Sheet, bounds}
use Rattle.ff_types.specs.Inside.{is_inside}
use Rattle.ff_types.specs.Borders.{IsPlainBorder}
use Rattle.ff_types.specs.Covering.{covers_left, covers_right, left_faces, right_faces}
use Rattle.ff_types.specs.Cites.{lesser, greater}
use Rattle.ff_types.specs.Stackings.{IsListing, IsStacking}
use Rattle.ff_types.specs.Crossings.{circle, Alternate}
use Rattle.ff_crossings.specs.Crossed.{AreCrossed}
use Rattle.ff_crossings.specs.Crossed.Bearer.{OfFace, OfEdge}
use Rattle.ff_crossings.specs.Alternating.{Interleave, AreListed}
use Rattle.ff_crossings.proofs.BorderLaws.{HasBorderLaws}
use Rattle.ff_crossings.proofs.AlternatingChords.{cross_throughs, among_left_cap, among_right_cap, interleave_left_caps, interleave_right_caps}
use Rattle.ff_crossings.proofs.ChordLists.{inside_face}
use Rattle.ff_crossings.proofs.EdgeFaces.{bounds_first, bounds_second, folded_number, flat_number, left_member, right_member, folded_flat_differ}
use Rattle.ff_crossings.proofs.ChordForms.{Form, left_of, right_of, ends, IsFlatThere, IsLeftThere, IsRightThere, IsThere, folded_there, flat_there, beside_of, lesser_outside, greater_outside}
use Rattle.ff_crossings.proofs.ChordForms.Form.{Face, Flat, LeftCap, RightCap}
use Rattle.ff_crossings.proofs.FormChords.{bearer_of, crossed_forms, face_covers_left, face_covers_right, flat_covers_left, flat_covers_right, left_covers, right_covers}
use Rattle.ff_crossings.proofs.Comparing.{same_or_among, same_or_cross, one_way, left_compared, right_compared, outside_differs, edges_differ}

on_right : {A B C : Type 0} → A ⊎ B → (B → C) → A ⊎ C
on_right (inl a) f = inl a
on_right (inr b) f = inr (f b)

module _ (g : Sheet) (laws : HasBorderLaws g) (above : ℕ → ℕ → Bool) (stacking : IsStacking g above)
    (e : ℕ) (s : Place) (plain : IsPlainBorder g e s) where
  -- ---- the two sides are listed

  abbrev left : List ℕ
  left = (stacking.left e s plain).0

  left_is : IsListing above (left_faces g e s) left
  left_is = (stacking.left e s plain).1

  abbrev right : List ℕ
  right = (stacking.right e s plain).0

  right_is : IsListing above (right_faces g e s) right
  right_is = (stacking.right e s plain).1

  listed : AreListed above left right
  listed = record {
    one_way = one_way g above stacking.orders;
    left_rises = left_is.rises;
    right_rises =
        right_is.rises;
  }

  crossed : (f h : Form) → IsThere g e s f → IsThere g e s h → Alternate (circle left right) (ends g f)
      (ends g h) → AreCrossed g above (bearer_of f) (bearer_of h)
  crossed f h = crossed_forms g laws e s plain (circle left right) f h (λ c d m n a. record {
    edge = e;
    at = s;
    plain = plain;
    left = left;
    right = right;
    left_is = left_is;
    right_is = right_is;
    chord = c;
    other = d;
    chord_is = m;
    other_is = n;
    alternate = a;
  })

  left_in : (f : ℕ) → f < length g.rings → IsTrue (covers_left g e s f) → Contains left f
  left_in f h t = (left_is.same f).1 (left_member g e f s h t)

  right_in : (f : ℕ) → f < length g.rings → IsTrue (covers_right g e s f) → Contains right f
  right_in f h t = (right_is.same f).1 (right_member g e f s h t)

  -- ---- faces by number

  module _ (k : ℕ) where
    flat_left_face : (b : Bool) → IsFlatThere g e s b k → left_of g b k < length g.rings
    flat_left_face true t = (beside_of g laws e s plain k (flat_there g laws e s plain k t.flat t.on)).first
    flat_left_face false t = (beside_of g laws e s plain k (flat_there g laws e s plain k t.flat t.on)).second

    flat_right_face : (b : Bool) → IsFlatThere g e s b k → right_of g b k < length g.rings
    flat_right_face true t = (beside_of g laws e s plain k (flat_there g laws e s plain k t.flat t.on)).second
    flat_right_face false t = (beside_of g laws e s plain k (flat_there g laws e s plain k t.flat t.on)).first

    flat_left_bounds : (b : Bool) → IsFlatThere g e s b k → IsTrue (bounds g k (left_of g b k))
    flat_left_bounds true t =
        bounds_first g k (lesser g k) (greater g k)
        (beside_of g laws e s plain k (flat_there g laws e s plain k t.flat t.on))
    flat_left_bounds false t =
        bounds_second g k (lesser g k) (greater g k)
        (beside_of g laws e s plain k (flat_there g laws e s plain k t.flat t.on))

    flat_right_bounds : (b : Bool) → IsFlatThere g e s b k → IsTrue (bounds g k (right_of g b k))
    flat_right_bounds true t =
        bounds_second g k (lesser g k) (greater g k)
        (beside_of g laws e s plain k (flat_there g laws e s plain k t.flat t.on))
    flat_right_bounds false t =
        bounds_first g k (lesser g k) (greater g k)
        (beside_of g laws e s plain k (flat_there g laws e s plain k t.flat t.on))

    flat_left_outside : (b : Bool) → IsFlatThere g e s b k → is_inside g (left_of g b k) s ≡ false
    flat_left_outside true t = lesser_outside g laws e s plain k (flat_there g laws e s plain k t.flat t.on)
    flat_left_outside false t = greater_outside g laws e s plain k (flat_there g laws e s plain k t.flat t.on)

    flat_right_outside : (b : Bool) → IsFlatThere g e s b k → is_inside g (right_of g b k) s ≡ false
    flat_right_outside true t = greater_outside g laws e s plain k (flat_there g laws e s plain k t.flat t.on)
    flat_right_outside false t = lesser_outside g laws e s plain k (flat_there g laws e s plain k t.flat t.on)

  -- ---- a face, or two, and a flat edge

  pub flat_face : (b : Bool) (k t : ℕ) → IsFlatThere g e s b k → IsTrue (is_inside g t s)
      → (above (left_of g b k) t ≡ above (right_of g b k) t) ⊎ AreCrossed g above (OfEdge k) (OfFace t)
  flat_face b k t p i = on_right (same_or_cross above (left_of g b k) (right_of g b k) t t
      (left_compared g above stacking.orders laws e s plain (left_of g b k) t cl tl
      (outside_differs g s (left_of g b k) t (flat_left_outside k b p) i))
      (right_compared g above stacking.orders laws e s plain (right_of g b k) t cr tr
      (outside_differs g s (right_of g b k) t (flat_right_outside k b p) i)))
      (λ x. crossed (Flat b k) (Face t) p i
      (cross_throughs above left right listed (left_of g b k) (right_of g b k) t t
      (left_in (left_of g b k) (flat_left_face k b p) cl)
      (right_in (right_of g b k) (flat_right_face k b p) cr) (left_in t (inside_face g t s i) tl)
      (right_in t (inside_face g t s i) tr) x)) where
        cl : IsTrue (covers_left g e s (left_of g b k))
        cl = flat_covers_left g laws e s plain b k p

        cr : IsTrue (covers_right g e s (right_of g b k))
        cr = flat_covers_right g laws e s plain b k p

        tl : IsTrue (covers_left g e s t)
        tl = face_covers_left g laws e s plain t i

        tr : IsTrue (covers_right g e s t)
        tr = face_covers_right g laws e s plain t i

  pub flat_flat : (b c : Bool) (k l : ℕ) → k ≢ l → IsFlatThere g e s b k → IsFlatThere g e s c l
      → (above (left_of g b k) (left_of g c l) ≡ above (right_of g b k) (right_of g c l))
      ⊎ AreCrossed g above (OfEdge k) (OfEdge l)
  flat_flat b c k l d p q = on_right (same_or_cross above (left_of g b k) (right_of g b k) (left_of g c l) (right_of g c l)
      (left_compared g above stacking.orders laws e s plain (left_of g b k) (left_of g c l) kl ll
      (edges_differ g laws e k l s plain (flat_number g k p.flat) (flat_number g l q.flat) p.on q.on d
      (left_of g b k) (left_of g c l) (flat_left_bounds k b p) (flat_left_bounds l c q)))
      (right_compared g above stacking.orders laws e s plain (right_of g b k) (right_of g c l) kr lr
      (edges_differ g laws e k l s plain (flat_number g k p.flat) (flat_number g l q.flat) p.on q.on d
      (right_of g b k) (right_of g c l) (flat_right_bounds k b p) (flat_right_bounds l c q))))
      (λ x. crossed (Flat b k) (Flat c l) p q
      (cross_throughs above left right listed (left_of g b k) (right_of g b k) (left_of g c l)
      (right_of g c l) (left_in (left_of g b k) (flat_left_face k b p) kl)
      (right_in (right_of g b k) (flat_right_face k b p) kr)
      (left_in (left_of g c l) (flat_left_face l c q) ll)
      (right_in (right_of g c l) (flat_right_face l c q) lr) x)) where
        kl : IsTrue (covers_left g e s (left_of g b k))
        kl = flat_covers_left g laws e s plain b k p

        kr : IsTrue (covers_right g e s (right_of g b k))
        kr = flat_covers_right g laws e s plain b k p

        ll : IsTrue (covers_left g e s (left_of g c l))
        ll = flat_covers_left g laws e s plain c l q

        lr : IsTrue (covers_right g e s (right_of g c l))
        lr = flat_covers_right g laws e s plain c l q

  -- ---- a folded edge, on the left

  module _ (k : ℕ) (p : IsLeftThere g e s k) where
    left_lesser : Contains left (lesser g k)
    left_lesser = left_in (lesser g k)
        (beside_of g laws e s plain k (folded_there g laws e s plain k p.folded p.on)).first
        (left_covers g laws e s plain k p).0

    left_greater : Contains left (greater g k)
    left_greater = left_in (greater g k)
        (beside_of g laws e s plain k (folded_there g laws e s plain k p.folded p.on)).second
        (left_covers g laws e s plain k p).1

    left_bounds : IsTrue (bounds g k (lesser g k)) × IsTrue (bounds g k (greater g k))
    left_bounds = let b = beside_of g laws e s plain k (folded_there g laws e s plain k p.folded p.on) in
        (bounds_first g k (lesser g k) (greater g k) b, bounds_second g k (lesser g k) (greater g k) b)

    pub left_cap_face : (t : ℕ) → IsTrue (is_inside g t s)
        → (above (lesser g k) t ≡ above (greater g k) t) ⊎ AreCrossed g above (OfEdge k) (OfFace t)
    left_cap_face t i = let c = left_covers g laws e s plain k p in
        let tl = face_covers_left g laws e s plain t i in
        let there = folded_there g laws e s plain k p.folded p.on in
        on_right (same_or_among above (lesser g k) (greater g k) t
        (left_compared g above stacking.orders laws e s plain (lesser g k) t c.0 tl
        (outside_differs g s (lesser g k) t (lesser_outside g laws e s plain k there) i))
        (left_compared g above stacking.orders laws e s plain (greater g k) t c.1 tl
        (outside_differs g s (greater g k) t (greater_outside g laws e s plain k there) i)))
        (λ x. crossed (LeftCap k) (Face t) p i
        (among_left_cap above left right listed (lesser g k) (greater g k) t t left_lesser left_greater
        (left_in t (inside_face g t s i) tl)
        (right_in t (inside_face g t s i) (face_covers_right g laws e s plain t i)) x))

    pub left_cap_flat : (b : Bool) (l : ℕ) → IsFlatThere g e s b l
        → (above (lesser g k) (left_of g b l) ≡ above (greater g k) (left_of g b l))
        ⊎ AreCrossed g above (OfEdge k) (OfEdge l)
    left_cap_flat b l q =
        let c = left_covers g laws e s plain k p in let tl = flat_covers_left g laws e s plain b l q in
        let differ = edges_differ g laws e k l s plain (folded_number g k p.folded)
        (flat_number g l q.flat) p.on q.on (folded_flat_differ g k l p.folded q.flat) in
        on_right (same_or_among above (lesser g k) (greater g k) (left_of g b l)
        (left_compared g above stacking.orders laws e s plain (lesser g k) (left_of g b l) c.0 tl
        (differ (lesser g k) (left_of g b l) left_bounds.0 (flat_left_bounds l b q)))
        (left_compared g above stacking.orders laws e s plain (greater g k) (left_of g b l) c.1 tl
        (differ (greater g k) (left_of g b l) left_bounds.1 (flat_left_bounds l b q))))
        (λ x. crossed (LeftCap k) (Flat b l) p q
        (among_left_cap above left right listed (lesser g k) (greater g k) (left_of g b l)
        (right_of g b l) left_lesser left_greater (left_in (left_of g b l) (flat_left_face l b q) tl)
        (right_in (right_of g b l) (flat_right_face l b q) (flat_covers_right g laws e s plain b l q)) x))

  pub left_caps_crossed : (k l : ℕ) → IsLeftThere g e s k → IsLeftThere g e s l
      → Interleave above (lesser g k) (greater g k) (lesser g l) (greater g l)
      → AreCrossed g above (OfEdge k) (OfEdge l)
  left_caps_crossed k l p q x =
      crossed (LeftCap k) (LeftCap l) p q
      (interleave_left_caps above left right listed (lesser g k) (greater g k) (lesser g l) (greater g l)
      (left_lesser k p) (left_greater k p) (left_lesser l q) (left_greater l q) x)

  -- ---- on the right

  module _ (k : ℕ) (p : IsRightThere g e s k) where
    right_lesser : Contains right (lesser g k)
    right_lesser = right_in (lesser g k)
        (beside_of g laws e s plain k (folded_there g laws e s plain k p.folded p.on)).first
        (right_covers g laws e s plain k p).0

    right_greater : Contains right (greater g k)
    right_greater = right_in (greater g k)
        (beside_of g laws e s plain k (folded_there g laws e s plain k p.folded p.on)).second
        (right_covers g laws e s plain k p).1

    right_bounds : IsTrue (bounds g k (lesser g k)) × IsTrue (bounds g k (greater g k))
    right_bounds = let b = beside_of g laws e s plain k (folded_there g laws e s plain k p.folded p.on) in
        (bounds_first g k (lesser g k) (greater g k) b, bounds_second g k (lesser g k) (greater g k) b)

    pub right_cap_face : (t : ℕ) → IsTrue (is_inside g t s)
        → (above (lesser g k) t ≡ above (greater g k) t) ⊎ AreCrossed g above (OfEdge k) (OfFace t)
    right_cap_face t i =
        let c = right_covers g laws e s plain k p in let tr = face_covers_right g laws e s plain t i in
        let there = folded_there g laws e s plain k p.folded p.on in
        on_right (same_or_among above (lesser g k) (greater g k) t
        (right_compared g above stacking.orders laws e s plain (lesser g k) t c.0 tr
        (outside_differs g s (lesser g k) t (lesser_outside g laws e s plain k there) i))
        (right_compared g above stacking.orders laws e s plain (greater g k) t c.1 tr
        (outside_differs g s (greater g k) t (greater_outside g laws e s plain k there) i)))
        (λ x. crossed (RightCap k) (Face t) p i
        (among_right_cap above left right listed (lesser g k) (greater g k) t t right_lesser right_greater
        (left_in t (inside_face g t s i) (face_covers_left g laws e s plain t i))
        (right_in t (inside_face g t s i) tr) x))

    pub right_cap_flat : (b : Bool) (l : ℕ) → IsFlatThere g e s b l
        → (above (lesser g k) (right_of g b l) ≡ above (greater g k) (right_of g b l))
        ⊎ AreCrossed g above (OfEdge k) (OfEdge l)
    right_cap_flat b l q =
        let c = right_covers g laws e s plain k p in let tr = flat_covers_right g laws e s plain b l q in
        let differ = edges_differ g laws e k l s plain (folded_number g k p.folded)
        (flat_number g l q.flat) p.on q.on (folded_flat_differ g k l p.folded q.flat) in
        on_right (same_or_among above (lesser g k) (greater g k) (right_of g b l)
        (right_compared g above stacking.orders laws e s plain (lesser g k) (right_of g b l) c.0 tr
        (differ (lesser g k) (right_of g b l) right_bounds.0 (flat_right_bounds l b q)))
        (right_compared g above stacking.orders laws e s plain (greater g k) (right_of g b l) c.1 tr
        (differ (greater g k) (right_of g b l) right_bounds.1 (flat_right_bounds l b q))))
        (λ x. crossed (RightCap k) (Flat b l) p q
        (among_right_cap above left right listed (lesser g k) (greater g k) (left_of g b l)
        (right_of g b l) right_lesser right_greater
        (left_in (left_of g b l) (flat_left_face l b q) (flat_covers_left g laws e s plain b l q))
        (right_in (right_of g b l) (flat_right_face l b q) tr) x))

  pub right_caps_crossed : (k l : ℕ) → IsRightThere g e s k → IsRightThere g e s l
      → Interleave above (lesser g k) (greater g k) (lesser g l) (greater g l)
      → AreCrossed g above (OfEdge k) (OfEdge l)
  right_caps_crossed k l p q x =
      crossed (RightCap k) (RightCap l) p q
      (interleave_right_caps above left right listed (lesser g k) (greater g k) (lesser g l) (greater g l)
      (right_lesser k p) (right_greater k p) (right_lesser l q) (right_greater l q) x)
