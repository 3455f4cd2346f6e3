-- Each chord at a plain border place has a form that is there, and each form that is there is a chord
-- between faces that cover their sides.
use Rattle.std.proofs.Common.{◌≡◌, ℕ, ◌⊎◌, inl, inr, Bool, true, false, List, refl, subst, ap, ◌∙◌, IsTrue, Contains}
use Rattle.std.proofs.lemmas.Bool.{and_from, or_left}
use Rattle.ff_whole.specs.declared.places.Place.{Place}
use Rattle.ff_types.specs.Foldings.{is_folded}
use Rattle.ff_types.specs.Sheets.{Sheet, mark_of}
use Rattle.ff_types.specs.Inside.{is_inside}
use Rattle.ff_types.specs.Borders.{IsPlainBorder}
use Rattle.ff_types.specs.Covering.{covers_left, covers_right}
use Rattle.ff_types.specs.Cites.{is_flat, lesser, greater}
use Rattle.ff_types.specs.Crossings.{Side, chords, Alternate}
use Rattle.ff_crossings.specs.ChordMembers.{IsEdgeChord}
use Rattle.ff_crossings.specs.Crossed.{Bearer, IsChordOf}
use Rattle.ff_crossings.specs.Crossed.Bearer.{OfFace, OfEdge}
use Rattle.ff_crossings.proofs.BorderLaws.{HasBorderLaws}
use Rattle.ff_crossings.proofs.ChordLists.{in_chords}
use Rattle.ff_crossings.proofs.EdgeFaces.{folded_or_flat, number_edge, covers_its_left, covers_its_right}
use Rattle.ff_crossings.proofs.ChordForms.{Form, left_of, right_of, ends, swapped, IsFlatThere, IsLeftThere, IsRightThere, IsThere, HasForm, IsInnerThere, folded_there, flat_there, lesser_ring, greater_ring, own, own_chord, own_of, flat_own, left_own, right_own, flat_form, folded_form}
use Rattle.ff_crossings.proofs.ChordForms.Form.{Face, Flat, LeftCap, RightCap}
use Rattle.ff_crossings.proofs.SwappedChords.{swap_first, swap_second}

-- one of two pairs, or its swap
module _ (c d x : Side × Side) where
  through_same : (c ≡ d) ⊎ (c ≡ swapped d) → (d ≡ x) ⊎ (d ≡ swapped x) → (c ≡ x) ⊎ (c ≡ swapped x)
  through_same (inl p) (inl q) = inl (p ∙ q)
  through_same (inl p) (inr q) = inr (p ∙ q)
  through_same (inr p) (inl q) = inr (p ∙ ap swapped q)
  through_same (inr p) (inr q) = inl (p ∙ ap swapped q)

in_same : (P : Side × Side → Type 0) (d x : Side × Side) → P d ⊎ P (swapped d) → (d ≡ x) ⊎ (d ≡ swapped x)
    → P x ⊎ P (swapped x)
in_same P d x (inl m) (inl q) = inl (subst P q m)
in_same P d x (inl m) (inr q) = inr (subst P q m)
in_same P d x (inr m) (inl q) = inr (subst (λ z. P (swapped z)) q m)
in_same P d x (inr m) (inr q) = inl (subst (λ z. P (swapped z)) q m)

-- the face or the edge of a form
abbrev pub bearer_of : Form → Bearer
bearer_of (Face f) = OfFace f
bearer_of (Flat b k) = OfEdge k
bearer_of (LeftCap k) = OfEdge k
bearer_of (RightCap k) = OfEdge k

module _ (g : Sheet) (laws : HasBorderLaws g) (e : ℕ) (s : Place) (plain : IsPlainBorder g e s) where
  -- ---- each chord has a form

  form_of_edge : (c : Side × Side) → IsEdgeChord g e s c → HasForm g e s c
  form_of_edge c h = by (folded_or_flat (mark_of g h.edge) h.inner) where
    there : IsInnerThere g laws e s plain h.edge
    there = record { number = h.is_edge; inner = h.inner; on = h.on }

    same : (c ≡ own g laws e s plain h.edge there) ⊎ (c ≡ swapped (own g laws e s plain h.edge there))
    same = own_of g laws e s plain h.edge there h.left h.right c h.left_is h.right_is h.same

    flat : (b : Bool) × IsFlatThere g e s b h.edge → HasForm g e s c
    flat (b, f) = record {
      form = Flat b h.edge;
      there = f;
      same =
          through_same c (own g laws e s plain h.edge there) (ends g (Flat b h.edge)) same
          (flat_own g laws e s plain h.edge there b f);
    }

    folded : IsLeftThere g e s h.edge ⊎ IsRightThere g e s h.edge → HasForm g e s c
    folded (inl f) = record {
      form = LeftCap h.edge;
      there = f;
      same =
          through_same c (own g laws e s plain h.edge there) (ends g (LeftCap h.edge)) same
          (inl (left_own g laws e s plain h.edge there f));
    }
    folded (inr f) = record {
      form = RightCap h.edge;
      there = f;
      same =
          through_same c (own g laws e s plain h.edge there) (ends g (RightCap h.edge)) same
          (inl (right_own g laws e s plain h.edge there f));
    }

    by : IsTrue (is_folded (mark_of g h.edge)) ⊎ IsTrue (is_flat (mark_of g h.edge)) → HasForm g e s c
    by (inl t) = folded (folded_form g laws e s plain h.edge
        (and_from _ _ (number_edge g h.edge h.is_edge) t) h.on)
    by (inr t) = flat (flat_form g laws e s plain h.edge
        (and_from _ _ (number_edge g h.edge h.is_edge) t) h.on)

  pub form_of : (c : Side × Side) → Contains (chords g e s) c → HasForm g e s c
  form_of c m = elim (in_chords g e s c m) [
    | inl h ↦ record { form = Face h.face; there = h.inside; same = inl h.same }
    | inr h ↦ form_of_edge c h
  ]

  -- ---- each form that is there is a chord

  chord_of : (f : Form) → IsThere g e s f → IsChordOf g e s (bearer_of f) (ends g f)
      ⊎ IsChordOf g e s (bearer_of f) (swapped (ends g f))
  chord_of (Face f) t = inl (record { face = f; inside = t; same = refl }, refl)
  chord_of (Flat b k) t =
      let there = flat_there g laws e s plain k t.flat t.on in
      in_same (IsChordOf g e s (OfEdge k)) (own g laws e s plain k there) (ends g (Flat b k))
      (own_chord g laws e s plain k there) (flat_own g laws e s plain k there b t)
  chord_of (LeftCap k) t =
      let there = folded_there g laws e s plain k t.folded t.on in
      in_same (IsChordOf g e s (OfEdge k)) (own g laws e s plain k there) (ends g (LeftCap k))
      (own_chord g laws e s plain k there) (inl (left_own g laws e s plain k there t))
  chord_of (RightCap k) t =
      let there = folded_there g laws e s plain k t.folded t.on in
      in_same (IsChordOf g e s (OfEdge k)) (own g laws e s plain k there) (ends g (RightCap k))
      (own_chord g laws e s plain k there) (inl (right_own g laws e s plain k there t))

  -- where two forms that are there alternate, so do two chords of their face or edge
  pub crossed_forms : {A : Type 0} (circ : List Side) (f h : Form)
      → ((c d : Side × Side) → IsChordOf g e s (bearer_of f) c → IsChordOf g e s (bearer_of h) d
      → Alternate circ c d → A)
      → IsThere g e s f → IsThere g e s h → Alternate circ (ends g f) (ends g h) → A
  crossed_forms {A} circ f h crossed p q a = by (chord_of f p) (chord_of h q) where
    by : IsChordOf g e s (bearer_of f) (ends g f) ⊎ IsChordOf g e s (bearer_of f) (swapped (ends g f))
        → IsChordOf g e s (bearer_of h) (ends g h) ⊎ IsChordOf g e s (bearer_of h) (swapped (ends g h)) → A
    by (inl m) (inl n) = crossed (ends g f) (ends g h) m n a
    by (inl m) (inr n) =
        crossed (ends g f) (swapped (ends g h)) m n
        (swap_second circ (ends g f) (ends g h).0 (ends g h).1 a)
    by (inr m) (inl n) =
        crossed (swapped (ends g f)) (ends g h) m n
        (swap_first circ (ends g f).0 (ends g f).1 (ends g h) a)
    by (inr m) (inr n) =
        crossed (swapped (ends g f)) (swapped (ends g h)) m n
        (swap_second circ (swapped (ends g f)) (ends g h).0 (ends g h).1
        (swap_first circ (ends g f).0 (ends g f).1 (ends g h) a))

  -- and the other way
  pub apart_chords : (circ : List Side)
      → ((f h : Form) → IsThere g e s f → IsThere g e s h → Alternate circ (ends g f) (ends g h) → ⊥)
      → (c d : Side × Side) → Contains (chords g e s) c → Contains (chords g e s) d → Alternate circ c d → ⊥
  apart_chords circ apart c d m n a = by (form_of c m) (form_of d n) where
    by : HasForm g e s c → HasForm g e s d → ⊥
    by f h = apart f.form h.form f.there h.there (second h.same (first f.same a)) where
      first : (c ≡ ends g f.form) ⊎ (c ≡ swapped (ends g f.form)) → Alternate circ c d → Alternate circ
          (ends g f.form) d
      first (inl q) b = subst (λ z. Alternate circ z d) q b
      first (inr q) b = swap_first circ (ends g f.form).1 (ends g f.form).0 d
          (subst (λ z. Alternate circ z d) q b)

      second : (d ≡ ends g h.form) ⊎ (d ≡ swapped (ends g h.form)) → Alternate circ (ends g f.form) d
          → Alternate circ (ends g f.form) (ends g h.form)
      second (inl q) b = subst (λ z. Alternate circ (ends g f.form) z) q b
      second (inr q) b = swap_second circ (ends g f.form) (ends g h.form).1 (ends g h.form).0
          (subst (λ z. Alternate circ (ends g f.form) z) q b)

  -- ---- the faces of a form cover their sides

  pub face_covers_left : (f : ℕ) → IsTrue (is_inside g f s) → IsTrue (covers_left g e s f)
  face_covers_left f t = or_left _ _ t

  pub face_covers_right : (f : ℕ) → IsTrue (is_inside g f s) → IsTrue (covers_right g e s f)
  face_covers_right f t = or_left _ _ t

  pub flat_covers_left : (b : Bool) (k : ℕ) → IsFlatThere g e s b k → IsTrue
      (covers_left g e s (left_of g b k))
  flat_covers_left true k t =
      covers_its_left g e (lesser g k) s
      (lesser_ring g laws e s plain k (flat_there g laws e s plain k t.flat t.on)) t.left
  flat_covers_left false k t =
      covers_its_left g e (greater g k) s
      (greater_ring g laws e s plain k (flat_there g laws e s plain k t.flat t.on)) t.left

  pub flat_covers_right : (b : Bool) (k : ℕ) → IsFlatThere g e s b k → IsTrue
      (covers_right g e s (right_of g b k))
  flat_covers_right true k t =
      covers_its_right g e (greater g k) s
      (greater_ring g laws e s plain k (flat_there g laws e s plain k t.flat t.on)) t.right
  flat_covers_right false k t =
      covers_its_right g e (lesser g k) s
      (lesser_ring g laws e s plain k (flat_there g laws e s plain k t.flat t.on)) t.right

  pub left_covers : (k : ℕ) → IsLeftThere g e s k → IsTrue (covers_left g e s (lesser g k)) × IsTrue
      (covers_left g e s (greater g k))
  left_covers k t = let there = folded_there g laws e s plain k t.folded t.on in (
    covers_its_left g e (lesser g k) s (lesser_ring g laws e s plain k there) t.first,
    covers_its_left g e (greater g k) s (greater_ring g laws e s plain k there) t.second,
  )

  pub right_covers : (k : ℕ) → IsRightThere g e s k → IsTrue (covers_right g e s (lesser g k)) × IsTrue
      (covers_right g e s (greater g k))
  right_covers k t = let there = folded_there g laws e s plain k t.folded t.on in (
    covers_its_right g e (lesser g k) s (lesser_ring g laws e s plain k there) t.first,
    covers_its_right g e (greater g k) s (greater_ring g laws e s plain k there) t.second,
  )
