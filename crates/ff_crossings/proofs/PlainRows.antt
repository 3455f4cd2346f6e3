-- What the rows of the constraints that hold say of the order of faces at a plain border place.
use Rattle.std.proofs.Common.{◌≡◌, ℕ, ◌<◌, Bool, true, false, [], length, sym, subst, ap, ◌∙◌, IsTrue}
use Rattle.std.proofs.lemmas.Bool.{and_from}
use Rattle.ff_whole.specs.declared.places.Place.{Place}
use Rattle.ff_types.specs.declared.cites.Cite.TheVariants.{TacoTaco, TacoFace, TacoEdge, FlatFace, FlatEdge}
use Rattle.ff_types.specs.Sheets.{Sheet}
use Rattle.ff_types.specs.Inside.{is_inside}
use Rattle.ff_types.specs.Borders.{is_on, IsPlainBorder}
use Rattle.ff_types.specs.Segments.{ShareSegment, HasEdgeInside}
use Rattle.ff_types.specs.Cites.{is_folded_edge, is_flat_edge, lesser, greater}
use Rattle.ff_types.specs.Terms.{matching, opposed}
use Rattle.ff_types.specs.Stackings.{OrdersOverlaps}
use Rattle.ff_crossings.specs.Alternating.{Interleave}
use Rattle.ff_crossings.proofs.BorderLaws.{HasBorderLaws}
use Rattle.ff_crossings.specs.CrossingLaws.{HasAllRows}
use Rattle.ff_crossings.proofs.RowOrders.{taco_face_rows, flat_face_rows, row_apart}
use Rattle.ff_crossings.proofs.EdgeFaces.{folded_number, flat_number}
use Rattle.ff_crossings.proofs.ChordForms.{left_of, right_of, IsFlatThere, IsLeftThere, IsRightThere}
use Rattle.ff_crossings.proofs.Matchings.{matching_left, opposed_left, matching_right, opposed_right, left_caps_one_side, right_caps_one_side}
use Rattle.ff_crossings.proofs.Comparing.{one_way}

module _ (g : Sheet) (laws : HasBorderLaws g) (above : ℕ → ℕ → Bool) (orders : OrdersOverlaps g above)
    (rows : HasAllRows g above) where
  -- ---- what the rows say at a plain border place

  module _ (e : ℕ) (s : Place) (plain : IsPlainBorder g e s) where
    pub has_inside : (k t : ℕ) → k < length g.edges → IsTrue (is_on g k s) → IsTrue (is_inside g t s)
        → HasEdgeInside g t k
    has_inside k t n o i = (laws.tell e k s plain n o).0 t i

    pub share : (k l : ℕ) → k < length g.edges → l < length g.edges → IsTrue (is_on g k s) → IsTrue
        (is_on g l s)
        → ShareSegment g k l
    share k l n m o p = (laws.tell e k s plain n o).1 l m p

    pub flat_face_same : (b : Bool) (k t : ℕ) → IsFlatThere g e s b k → IsTrue (is_inside g t s) → above
        (left_of g b k) t ≡ above (right_of g b k) t
    flat_face_same b k t p i = by b p where
      row : above (lesser g k) t ≡ above (greater g k) t
      row = (flat_face_rows above (lesser g k, t) (greater g k, t)).0
          (rows (FlatFace k t []) (p.flat, has_inside k t (flat_number g k p.flat) p.on i))

      by : (b : Bool) → IsFlatThere g e s b k → above (left_of g b k) t ≡ above (right_of g b k) t
      by true q = row
      by false q = sym row

    pub flat_flat_same : (b c : Bool) (k l : ℕ) → k < l → IsFlatThere g e s b k → IsFlatThere g e s c l
        → above
        (left_of g b k) (left_of g c l) ≡ above (right_of g b k) (right_of g c l)
    flat_flat_same b c k l less p q = by b p where
      number : k < length g.edges
      number = flat_number g k p.flat

      row : above (lesser g k) (matching g k (lesser g k) l) ≡ above (greater g k)
          (opposed g k (lesser g k) l)
      row = (flat_face_rows above (lesser g k, matching g k (lesser g k) l)
          (greater g k, opposed g k (lesser g k) l)).0
          (rows (FlatEdge k l) (
            less,
            and_from (is_flat_edge g k) (is_flat_edge g l) p.flat q.flat,
            share k l number (flat_number g l q.flat) p.on q.on,
          ))

      by : (b : Bool) → IsFlatThere g e s b k → above (left_of g b k) (left_of g c l) ≡ above (right_of g b k)
          (right_of g c l)
      by true r = sym (ap (above (lesser g k))
          (matching_left g laws e s plain k number p.on (lesser g k) c l q r.left))
          ∙ (row ∙ ap (above (greater g k))
          (opposed_left g laws e s plain k number p.on (lesser g k) c l q r.left))
      by false r = sym (ap (above (greater g k))
          (opposed_right g laws e s plain k number p.on (lesser g k) c l q r.right))
          ∙ (sym row ∙ ap (above (lesser g k))
          (matching_right g laws e s plain k number p.on (lesser g k) c l q r.right))

    pub folded_face_same : (k t : ℕ) → IsTrue (is_folded_edge g k) → IsTrue (is_on g k s) → IsTrue
        (is_inside g t s) → above (lesser g k) t ≡ above (greater g k) t
    folded_face_same k t f o i =
        (taco_face_rows above (lesser g k, t) (greater g k, t)).0
        (rows (TacoFace k t []) (f, has_inside k t (folded_number g k f) o i))

    pub folded_flat_same : (k l : ℕ) → IsTrue (is_folded_edge g k) → IsTrue (is_flat_edge g l) → IsTrue
        (is_on g k s) → IsTrue (is_on g l s) → above (lesser g k) (matching g k (lesser g k) l) ≡ above
        (greater g k) (matching g k (lesser g k) l)
    folded_flat_same k l f h o p =
        (taco_face_rows above (lesser g k, matching g k (lesser g k) l)
        (greater g k, matching g k (lesser g k) l)).0
        (rows (TacoEdge k l) (f, h, share k l (folded_number g k f) (flat_number g l h) o p))

    pub left_flat_same : (k : ℕ) (b : Bool) (l : ℕ) → IsLeftThere g e s k → IsFlatThere g e s b l → above
        (lesser g k) (left_of g b l) ≡ above (greater g k) (left_of g b l)
    left_flat_same k b l p q =
        subst (λ m. above (lesser g k) m ≡ above (greater g k) m)
        (matching_left g laws e s plain k (folded_number g k p.folded) p.on (lesser g k) b l q p.first)
        (folded_flat_same k l p.folded q.flat p.on q.on)

    pub right_flat_same : (k : ℕ) (b : Bool) (l : ℕ) → IsRightThere g e s k → IsFlatThere g e s b l → above
        (lesser g k) (right_of g b l) ≡ above (greater g k) (right_of g b l)
    right_flat_same k b l p q =
        subst (λ m. above (lesser g k) m ≡ above (greater g k) m)
        (matching_right g laws e s plain k (folded_number g k p.folded) p.on (lesser g k) b l q p.first)
        (folded_flat_same k l p.folded q.flat p.on q.on)

    pub left_left_apart : (k l : ℕ) → k < l → IsLeftThere g e s k → IsLeftThere g e s l → Interleave above
        (lesser g k) (greater g k) (lesser g l) (greater g l) → ⊥
    left_left_apart k l less p q =
        row_apart above (lesser g k) (greater g k) (lesser g l) (greater g l) (one_way g above orders)
        (rows (TacoTaco k l) (
          less,
          and_from (is_folded_edge g k) (is_folded_edge g l) p.folded q.folded,
          share k l (folded_number g k p.folded) (folded_number g l q.folded) p.on q.on,
          left_caps_one_side g laws e s plain k (folded_number g k p.folded) p.on l p q,
        ))

    pub right_right_apart : (k l : ℕ) → k < l → IsRightThere g e s k → IsRightThere g e s l → Interleave above
        (lesser g k) (greater g k) (lesser g l) (greater g l) → ⊥
    right_right_apart k l less p q =
        row_apart above (lesser g k) (greater g k) (lesser g l) (greater g l) (one_way g above orders)
        (rows (TacoTaco k l) (
          less,
          and_from (is_folded_edge g k) (is_folded_edge g l) p.folded q.folded,
          share k l (folded_number g k p.folded) (folded_number g l q.folded) p.on q.on,
          right_caps_one_side g laws e s plain k (folded_number g k p.folded) p.on l p q,
        ))
