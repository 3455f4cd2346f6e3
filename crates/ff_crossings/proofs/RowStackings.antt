-- Where every constraint that holds has a row, no paper crosses.
use Rattle.std.proofs.Common.{◌≡◌, ℕ, ◌<◌, ◌⊎◌, inl, inr, Bool, true, false, ◌&&◌, List, [], ◌∷◌, refl, sym, subst, IsTrue}
use Rattle.std.proofs.lemmas.Bool.{and_from, cases_order}
use Rattle.ff_tables.specs.declared.terms.Kind.TheVariants as kind
use Rattle.ff_whole.specs.declared.places.Place.{Place}
use Rattle.ff_whole.specs.Places.{IsPlace}
use Rattle.ff_types.specs.declared.cites.Cite.TheVariants.{Transitivity}
use Rattle.ff_types.specs.Sheets.{Sheet}
use Rattle.ff_types.specs.Inside.{is_inside, over}
use Rattle.ff_types.specs.Borders.{IsPlainBorder}
use Rattle.ff_types.specs.Covering.{covers_left, covers_right, left_faces, right_faces}
use Rattle.ff_types.specs.Cites.{lesser, greater}
use Rattle.ff_types.specs.Stackings.{OrdersOverlaps, CanBeListed}
use Rattle.ff_types.specs.Crossings.{Side, circle, Alternate, IsGeometricStacking}
use Rattle.ff_crossings.specs.Alternating.{IsOneWay, Interleave, Cross, AreListed}
use Rattle.ff_crossings.specs.RowMeanings.{values}
use Rattle.ff_crossings.proofs.BorderLaws.{HasBorderLaws}
use Rattle.ff_crossings.specs.CrossingLaws.{HasAllRows}
use Rattle.ff_crossings.proofs.ListedFaces.{listed_exactly_holds, part_listed}
use Rattle.ff_crossings.proofs.Triples.{triples_suffice_holds}
use Rattle.ff_crossings.proofs.AlternatingChords.{throughs_cross, left_cap_among, right_cap_among, left_caps_interleave, right_caps_interleave, opposed_caps}
use Rattle.ff_crossings.proofs.SwappedChords.{swap_chords}
use Rattle.ff_crossings.proofs.RowTests.{row_passes}
use Rattle.ff_crossings.proofs.ChordLists.{in_over, over_in, in_faces}
use Rattle.ff_crossings.proofs.EdgeFaces.{not_both}
use Rattle.ff_crossings.proofs.ChordForms.{Form, left_of, right_of, ends, IsFlatThere, IsLeftThere, IsRightThere, IsThere}
use Rattle.ff_crossings.proofs.ChordForms.Form.{Face, Flat, LeftCap, RightCap}
use Rattle.ff_crossings.proofs.FormChords.{apart_chords}
use Rattle.ff_crossings.proofs.Comparing.{among_not, cross_not, one_way, compared_over}
use Rattle.ff_crossings.proofs.PlainRows.{flat_face_same, flat_flat_same, folded_face_same, left_flat_same, right_flat_same, left_left_apart, right_right_apart}

module _ (g : Sheet) (laws : HasBorderLaws g) (above : ℕ → ℕ → Bool) (orders : OrdersOverlaps g above)
    (rows : HasAllRows g above) where
  way : IsOneWay above
  way = one_way g above orders

  -- ---- the faces over a place, and on a side, can be listed

  places : (s : Place) → IsPlace s → CanBeListed above (over g s)
  places s place = (listed_exactly_holds above (over g s) (compared_over g above orders s place)).1
      ((triples_suffice_holds above (over g s) (compared_over g above orders s place)).1
      (λ f h k mf mh mk l m. row_passes kind.Transitivity (values above ((f, h) ∷ (f, k) ∷ (h, k) ∷ []))
      (rows (Transitivity f h k []) (
        l,
        m,
        record {
          at = s;
          place = place;
          inside = and_from (is_inside g f s) (is_inside g h s && (is_inside g k s && true))
              (in_over g s f mf) (and_from (is_inside g h s) (is_inside g k s && true) (in_over g s h mh)
              (and_from (is_inside g k s) true (in_over g s k mk) refl));
        },
      ))))

  left_listed : (e : ℕ) (s : Place) → IsPlainBorder g e s → CanBeListed above (left_faces g e s)
  left_listed e s plain = by (laws.beside e s plain).0 where
    by : (t : Place) × IsPlace t × ((f : ℕ) → IsTrue (covers_left g e s f) → IsTrue (is_inside g f t))
        → CanBeListed above (left_faces g e s)
    by (t, place, inside) =
        part_listed above (over g t) (left_faces g e s)
        (λ f m. over_in g t f (inside f (in_faces g (covers_left g e s) f m).1)) (places t place)

  right_listed : (e : ℕ) (s : Place) → IsPlainBorder g e s → CanBeListed above (right_faces g e s)
  right_listed e s plain = by (laws.beside e s plain).1 where
    by : (t : Place) × IsPlace t × ((f : ℕ) → IsTrue (covers_right g e s f) → IsTrue (is_inside g f t))
        → CanBeListed above (right_faces g e s)
    by (t, place, inside) =
        part_listed above (over g t) (right_faces g e s)
        (λ f m. over_in g t f (inside f (in_faces g (covers_right g e s) f m).1)) (places t place)

  module _ (e : ℕ) (s : Place) (plain : IsPlainBorder g e s) where
    -- ---- an edge and itself

    same_interleave : (x y : ℕ) → Interleave above x y x y → ⊥
    same_interleave x y (inl (inl a, b)) = way x x a.0 a.0
    same_interleave x y (inl (inr a, b)) = way x x a.1 a.1
    same_interleave x y (inr (a, inl b)) = way y y b.1 b.1
    same_interleave x y (inr (a, inr b)) = way y y b.0 b.0

    same_cross : (x y : ℕ) → Cross above x y x y → ⊥
    same_cross x y (inl c) = way x x c.0 c.0
    same_cross x y (inr c) = way x x c.0 c.0

    same_flat : (b c : Bool) (k : ℕ) → IsFlatThere g e s b k → IsFlatThere g e s c k → Cross above
        (left_of g b k) (right_of g b k) (left_of g c k) (right_of g c k) → ⊥
    same_flat true true k p q x = same_cross (lesser g k) (greater g k) x
    same_flat false false k p q x = same_cross (greater g k) (lesser g k) x
    same_flat true false k p q x = not_both g e (lesser g k) p.left q.right
    same_flat false true k p q x = not_both g e (lesser g k) q.left p.right

    -- ---- no two forms that are there alternate

    module _ (left right : List ℕ) (is : AreListed above left right) where
      abbrev circ : List Side
      circ = circle left right

      flats_apart : (b c : Bool) (k l : ℕ) → IsFlatThere g e s b k → IsFlatThere g e s c l → Alternate circ
          (ends g (Flat b k)) (ends g (Flat c l)) → ⊥
      flats_apart b c k l p q a = by (cases_order k l) where
        by : (k ≡ l) ⊎ ((k < l) ⊎ (l < k)) → ⊥
        by (inl d) = same_flat b c k p (subst (IsFlatThere g e s c) (sym d) q)
            (subst (λ z. Cross above (left_of g b k) (right_of g b k) (left_of g c z) (right_of g c z))
            (sym d) (throughs_cross above left right is (left_of g b k) (right_of g b k) (left_of g c l)
            (right_of g c l) a))
        by (inr (inl d)) = cross_not above (left_of g b k) (right_of g b k) (left_of g c l)
            (right_of g c l) way (flat_flat_same g laws above orders rows e s plain b c k l d p q)
            (throughs_cross above left right is (left_of g b k) (right_of g b k) (left_of g c l)
            (right_of g c l) a)
        by (inr (inr d)) = cross_not above (left_of g c l) (right_of g c l) (left_of g b k)
            (right_of g b k) way (flat_flat_same g laws above orders rows e s plain c b l k d q p)
            (throughs_cross above left right is (left_of g c l) (right_of g c l) (left_of g b k)
            (right_of g b k) (swap_chords circ (ends g (Flat b k)) (ends g (Flat c l)) a))

      lefts_apart : (k l : ℕ) → IsLeftThere g e s k → IsLeftThere g e s l → Alternate circ
          (ends g (LeftCap k)) (ends g (LeftCap l)) → ⊥
      lefts_apart k l p q a = by (cases_order k l) where
        by : (k ≡ l) ⊎ ((k < l) ⊎ (l < k)) → ⊥
        by (inl d) = same_interleave (lesser g k) (greater g k)
            (subst (λ z. Interleave above (lesser g k) (greater g k) (lesser g z) (greater g z)) (sym d)
            (left_caps_interleave above left right is (lesser g k) (greater g k) (lesser g l)
            (greater g l) a))
        by (inr (inl d)) = left_left_apart g laws above orders rows e s plain k l d p q
            (left_caps_interleave above left right is (lesser g k) (greater g k) (lesser g l) (greater g l) a)
        by (inr (inr d)) = left_left_apart g laws above orders rows e s plain l k d q p
            (left_caps_interleave above left right is (lesser g l) (greater g l) (lesser g k) (greater g k)
            (swap_chords circ (ends g (LeftCap k)) (ends g (LeftCap l)) a))

      rights_apart : (k l : ℕ) → IsRightThere g e s k → IsRightThere g e s l → Alternate circ
          (ends g (RightCap k)) (ends g (RightCap l)) → ⊥
      rights_apart k l p q a = by (cases_order k l) where
        by : (k ≡ l) ⊎ ((k < l) ⊎ (l < k)) → ⊥
        by (inl d) = same_interleave (lesser g k) (greater g k)
            (subst (λ z. Interleave above (lesser g k) (greater g k) (lesser g z) (greater g z)) (sym d)
            (right_caps_interleave above left right is (lesser g k) (greater g k) (lesser g l)
            (greater g l) a))
        by (inr (inl d)) = right_right_apart g laws above orders rows e s plain k l d p q
            (right_caps_interleave above left right is (lesser g k) (greater g k) (lesser g l)
            (greater g l) a)
        by (inr (inr d)) = right_right_apart g laws above orders rows e s plain l k d q p
            (right_caps_interleave above left right is (lesser g l) (greater g l) (lesser g k) (greater g k)
            (swap_chords circ (ends g (RightCap k)) (ends g (RightCap l)) a))

      flat_face_apart : (b : Bool) (k t : ℕ) → IsFlatThere g e s b k → IsTrue (is_inside g t s)
          → Alternate circ (ends g (Flat b k)) (ends g (Face t)) → ⊥
      flat_face_apart b k t p i a =
          cross_not above (left_of g b k) (right_of g b k) t t way
          (flat_face_same g laws above orders rows e s plain b k t p i)
          (throughs_cross above left right is (left_of g b k) (right_of g b k) t t a)

      left_face_apart : (k t : ℕ) → IsLeftThere g e s k → IsTrue (is_inside g t s) → Alternate circ
          (ends g (LeftCap k)) (ends g (Face t)) → ⊥
      left_face_apart k t p i a =
          among_not above (lesser g k) (greater g k) t way
          (folded_face_same g laws above orders rows e s plain k t p.folded p.on i)
          (left_cap_among above left right is (lesser g k) (greater g k) t t a)

      right_face_apart : (k t : ℕ) → IsRightThere g e s k → IsTrue (is_inside g t s) → Alternate circ
          (ends g (RightCap k)) (ends g (Face t)) → ⊥
      right_face_apart k t p i a =
          among_not above (lesser g k) (greater g k) t way
          (folded_face_same g laws above orders rows e s plain k t p.folded p.on i)
          (right_cap_among above left right is (lesser g k) (greater g k) t t a)

      left_flat_apart : (k : ℕ) (b : Bool) (l : ℕ) → IsLeftThere g e s k → IsFlatThere g e s b l
          → Alternate circ (ends g (LeftCap k)) (ends g (Flat b l)) → ⊥
      left_flat_apart k b l p q a =
          among_not above (lesser g k) (greater g k) (left_of g b l) way
          (left_flat_same g laws above orders rows e s plain k b l p q)
          (left_cap_among above left right is (lesser g k) (greater g k) (left_of g b l) (right_of g b l) a)

      right_flat_apart : (k : ℕ) (b : Bool) (l : ℕ) → IsRightThere g e s k → IsFlatThere g e s b l
          → Alternate circ (ends g (RightCap k)) (ends g (Flat b l)) → ⊥
      right_flat_apart k b l p q a =
          among_not above (lesser g k) (greater g k) (right_of g b l) way
          (right_flat_same g laws above orders rows e s plain k b l p q)
          (right_cap_among above left right is (lesser g k) (greater g k) (left_of g b l) (right_of g b l) a)

      forms_apart : (f h : Form) → IsThere g e s f → IsThere g e s h → Alternate circ (ends g f) (ends g h)
          → ⊥
      forms_apart (Face t) (Face u) p q a =
          cross_not above t t u u way refl (throughs_cross above left right is t t u u a)
      forms_apart (Flat b k) (Face t) p q a = flat_face_apart b k t p q a
      forms_apart (Face t) (Flat b k) p q a =
          flat_face_apart b k t q p (swap_chords circ (ends g (Face t)) (ends g (Flat b k)) a)
      forms_apart (Flat b k) (Flat c l) p q a = flats_apart b c k l p q a
      forms_apart (LeftCap k) (Face t) p q a = left_face_apart k t p q a
      forms_apart (Face t) (LeftCap k) p q a =
          left_face_apart k t q p (swap_chords circ (ends g (Face t)) (ends g (LeftCap k)) a)
      forms_apart (RightCap k) (Face t) p q a = right_face_apart k t p q a
      forms_apart (Face t) (RightCap k) p q a =
          right_face_apart k t q p (swap_chords circ (ends g (Face t)) (ends g (RightCap k)) a)
      forms_apart (LeftCap k) (Flat b l) p q a = left_flat_apart k b l p q a
      forms_apart (Flat b l) (LeftCap k) p q a =
          left_flat_apart k b l q p (swap_chords circ (ends g (Flat b l)) (ends g (LeftCap k)) a)
      forms_apart (RightCap k) (Flat b l) p q a = right_flat_apart k b l p q a
      forms_apart (Flat b l) (RightCap k) p q a =
          right_flat_apart k b l q p (swap_chords circ (ends g (Flat b l)) (ends g (RightCap k)) a)
      forms_apart (LeftCap k) (LeftCap l) p q a = lefts_apart k l p q a
      forms_apart (RightCap k) (RightCap l) p q a = rights_apart k l p q a
      forms_apart (LeftCap k) (RightCap l) p q a =
          opposed_caps left right (lesser g k) (greater g k) (lesser g l) (greater g l) a
      forms_apart (RightCap k) (LeftCap l) p q a =
          opposed_caps left right (lesser g l) (greater g l) (lesser g k) (greater g k)
          (swap_chords circ (ends g (RightCap k)) (ends g (LeftCap l)) a)

  pub rows_stack : IsGeometricStacking g above
  rows_stack = record {
    stacking = record { orders = orders; places = places; left = left_listed; right = right_listed };
    uncrossed = λ e s plain left right left_is right_is. apart_chords g laws e s plain (circle left right)
        (forms_apart e s plain left right
        (record { one_way = way; left_rises = left_is.rises; right_rises = right_is.rises }));
  }
