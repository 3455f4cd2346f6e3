-- Which chords there are at a border place: those of the faces with the place inside, and those of the
-- edges there.
use Rattle.std.proofs.Common.{◌≡◌, ◌≢◌, ℕ, suc, ◌<◌, ◌⊎◌, inl, inr, ◌↔◌, Bool, true, false, List, [], ◌∷◌, map, filter, length, arith, refl, sym, subst, IsTrue, Contains, Option, Some, None}
use Rattle.std.specs.Prelude.{if◌then◌else◌}
use Rattle.std.proofs.lemmas.Bool.{ltb-true, and_parts}
use Rattle.std.proofs.lemmas.List.Elements.{Contains-append_left, Contains-append_right, Contains-append_cases}
use Rattle.ff_basics.proofs.Memberships.{by_member, filter_in, first_member, in_filter, in_map, in_range, no_member, range_in}
use Rattle.ff_whole.specs.declared.places.Place.{Place}
use Rattle.ff_types.specs.declared.patterns.Mark.{Mark}
use Rattle.ff_types.specs.declared.patterns.Mark.TheVariants.{B, M, V, F, U}
use Rattle.ff_types.specs.Sheets.{Sheet, faces_of, edges_of, mark_of, left_face, right_face}
use Rattle.ff_types.specs.Inside.{is_inside, over}
use Rattle.ff_types.specs.Borders.{is_on}
use Rattle.ff_types.specs.Covering.{covers_left, covers_right, left_faces, right_faces}
use Rattle.ff_types.specs.Crossings.{Side, face_chord, entry, edge_chord, edge_chords, chords}
use Rattle.ff_crossings.specs.ChordMembers.{IsFaceChord, IsEdgeChord}
use Rattle.ff_crossings.proofs.RowTests.{map_in}

-- ---- faces that pass a test

pub in_faces : (g : Sheet) (p : ℕ → Bool) (f : ℕ) → Contains (filter p (faces_of g)) f → (f < length g.rings)
    × IsTrue (p f)
in_faces g p f m = let r = in_filter p (faces_of g) f m in let h = in_range 0 (length g.rings) f r.0 in
    (omega (arith, h.1), r.1)

pub faces_in : (g : Sheet) (p : ℕ → Bool) (f : ℕ) → f < length g.rings → IsTrue (p f) → Contains
    (filter p (faces_of g)) f
faces_in g p f h t =
    filter_in p (faces_of g) f (range_in 0 (length g.rings) f (omega arith) (omega (arith, h))) t

pub inside_face : (g : Sheet) (f : ℕ) (s : Place) → IsTrue (is_inside g f s) → f < length g.rings
inside_face g f s t = ltb-true f (length g.rings) (and_parts _ _ t).0

pub in_over : (g : Sheet) (s : Place) (f : ℕ) → Contains (over g s) f → IsTrue (is_inside g f s)
in_over g s f m = (in_faces g (λ h. is_inside g h s) f m).1

pub over_in : (g : Sheet) (s : Place) (f : ℕ) → IsTrue (is_inside g f s) → Contains (over g s) f
over_in g s f t = faces_in g (λ h. is_inside g h s) f (inside_face g f s t) t

-- ---- the chord of one edge

record OfEdge (g : Sheet) (e : ℕ) (s : Place) (mark : Mark) (l r : Option ℕ) (c : Side × Side) : Type 0 where
  inner : mark ≢ B
  left : ℕ
  right : ℕ
  left_is : l ≡ Some left
  right_is : r ≡ Some right
  same : c ≡ (entry g e s left, entry g e s right)

module _ (g : Sheet) (e : ℕ) (s : Place) where
  of_edge : (mark : Mark) (l r : Option ℕ) (c : Side × Side) → Contains (edge_chord g e s mark l r) c
      → OfEdge g e s mark l r c
  of_edge B l r c m = absurd (no_member c m)
  of_edge M (Some f) (Some h) c m =
      by_member (entry g e s f, entry g e s h) [] c
      (λ q. record { inner = λ d. cc; left = f; right = h; left_is = refl; right_is = refl; same = sym q })
      (λ n. absurd (no_member c n)) m
  of_edge V (Some f) (Some h) c m =
      by_member (entry g e s f, entry g e s h) [] c
      (λ q. record { inner = λ d. cc; left = f; right = h; left_is = refl; right_is = refl; same = sym q })
      (λ n. absurd (no_member c n)) m
  of_edge F (Some f) (Some h) c m =
      by_member (entry g e s f, entry g e s h) [] c
      (λ q. record { inner = λ d. cc; left = f; right = h; left_is = refl; right_is = refl; same = sym q })
      (λ n. absurd (no_member c n)) m
  of_edge U (Some f) (Some h) c m =
      by_member (entry g e s f, entry g e s h) [] c
      (λ q. record { inner = λ d. cc; left = f; right = h; left_is = refl; right_is = refl; same = sym q })
      (λ n. absurd (no_member c n)) m
  of_edge M None r c m = absurd (no_member c m)
  of_edge V None r c m = absurd (no_member c m)
  of_edge F None r c m = absurd (no_member c m)
  of_edge U None r c m = absurd (no_member c m)
  of_edge M (Some f) None c m = absurd (no_member c m)
  of_edge V (Some f) None c m = absurd (no_member c m)
  of_edge F (Some f) None c m = absurd (no_member c m)
  of_edge U (Some f) None c m = absurd (no_member c m)

  edge_of : (mark : Mark) (f h : ℕ) → mark ≢ B → Contains (edge_chord g e s mark (Some f) (Some h))
      (entry g e s f, entry g e s h)
  edge_of B f h d = absurd (d refl)
  edge_of M f h d = first_member (entry g e s f, entry g e s h) [] (entry g e s f, entry g e s h) refl
  edge_of V f h d = first_member (entry g e s f, entry g e s h) [] (entry g e s f, entry g e s h) refl
  edge_of F f h d = first_member (entry g e s f, entry g e s h) [] (entry g e s f, entry g e s h) refl
  edge_of U f h d = first_member (entry g e s f, entry g e s h) [] (entry g e s f, entry g e s h) refl

  abbrev of_number : ℕ → List (Side × Side)
  of_number k = if is_on g k s then edge_chord g e s (mark_of g k) (left_face g k) (right_face g k) else []

  in_number : (k : ℕ) (c : Side × Side) → Contains (of_number k) c → IsTrue (is_on g k s) × OfEdge g e s
      (mark_of g k) (left_face g k) (right_face g k) c
  in_number k c m = by (is_on g k s) refl m where
    by : (b : Bool) → is_on g k s ≡ b → Contains
        (if b then edge_chord g e s (mark_of g k) (left_face g k) (right_face g k) else []) c → IsTrue
        (is_on g k s) × OfEdge g e s (mark_of g k) (left_face g k) (right_face g k) c
    by true q n = (q, of_edge (mark_of g k) (left_face g k) (right_face g k) c n)
    by false q n = absurd (no_member c n)

  -- ---- those of all edges

  in_edge_chords : (edges : List ℕ) (c : Side × Side) → Contains (edge_chords g e s edges) c → (k : ℕ)
      × Contains edges k × Contains (of_number k) c
  in_edge_chords [] c m = absurd (no_member c m)
  in_edge_chords (k ∷ rest) c m = elim (Contains-append_cases (of_number k) (edge_chords g e s rest) c m) [
    | inl n ↦ (k, first_member k rest k refl, n)
    | inr n ↦ later (in_edge_chords rest c n)
  ] where
    later : (l : ℕ) × Contains rest l × Contains (of_number l) c → (l : ℕ) × Contains (k ∷ rest) l × Contains
        (of_number l) c
    later (l, n, o) = (l, (suc n.0, omega (arith, n.1), n.2), o)

  edge_chords_in : (edges : List ℕ) (c : Side × Side) (k : ℕ) → Contains edges k → Contains (of_number k) c
      → Contains (edge_chords g e s edges) c
  edge_chords_in [] c k m n = absurd (no_member k m)
  edge_chords_in (l ∷ rest) c k m n = by_member l rest k
      (λ q. Contains-append_left (of_number l) (edge_chords g e s rest) c
      (subst (λ z. Contains (of_number z) c) (sym q) n))
      (λ o. Contains-append_right (of_number l) (edge_chords g e s rest) c (edge_chords_in rest c k o n)) m

  pub in_chords : (c : Side × Side) → Contains (chords g e s) c → IsFaceChord g s c ⊎ IsEdgeChord g e s c
  in_chords c m = elim
      (Contains-append_cases (map face_chord (over g s)) (edge_chords g e s (edges_of g)) c m) [
        | inl n ↦ inl (of_face (in_map face_chord (over g s) c n))
        | inr n ↦ inr (of_all (in_edge_chords (edges_of g) c n))
      ] where
        of_face : (f : ℕ) × Contains (over g s) f × (face_chord f ≡ c) → IsFaceChord g s c
        of_face (f, n, q) = record { face = f; inside = in_over g s f n; same = sym q }

        of_all : (k : ℕ) × Contains (edges_of g) k × Contains (of_number k) c → IsEdgeChord g e s c
        of_all (k, n, o) = let r = in_number k c o in let h = in_range 0 (length g.edges) k n in
            record {
              edge = k;
              is_edge = omega (arith, h.1);
              on = r.0;
              inner = r.1.inner;
              left = r.1.left;
              right =
                  r.1.right;
              left_is = r.1.left_is;
              right_is = r.1.right_is;
              same = r.1.same;
            }

  pub face_chord_in : (f : ℕ) → IsTrue (is_inside g f s) → Contains (chords g e s) (face_chord f)
  face_chord_in f t = Contains-append_left (map face_chord (over g s)) (edge_chords g e s (edges_of g))
      (face_chord f) (map_in face_chord (over g s) f (over_in g s f t))

  pub edge_chord_in : (k f h : ℕ) → k < length g.edges → IsTrue (is_on g k s) → mark_of g k ≢ B
      → left_face g k ≡ Some f → right_face g k ≡ Some h → Contains (chords g e s)
      (entry g e s f, entry g e s h)
  edge_chord_in k f h l t d lf rf =
      Contains-append_right (map face_chord (over g s)) (edge_chords g e s (edges_of g))
      (entry g e s f, entry g e s h)
      (edge_chords_in (edges_of g) (entry g e s f, entry g e s h) k
      (range_in 0 (length g.edges) k (omega arith) (omega (arith, l))) number) where
        number : Contains (of_number k) (entry g e s f, entry g e s h)
        number = subst (λ b. Contains
            (if b then edge_chord g e s (mark_of g k) (left_face g k) (right_face g k) else [])
            (entry g e s f, entry g e s h)) (sym t)
            (subst (λ o. Contains (edge_chord g e s (mark_of g k) o (right_face g k))
            (entry g e s f, entry g e s h)) (sym lf)
            (subst (λ o. Contains (edge_chord g e s (mark_of g k) (Some f) o) (entry g e s f, entry g e s h))
            (sym rf) (edge_of (mark_of g k) f h d)))

  pub chords_are : (c : Side × Side) → Contains (chords g e s) c ↔ (IsFaceChord g s c ⊎ IsEdgeChord g e s c)
  chords_are c = (
    in_chords c,
    (λ r. elim r [
      | inl h ↦ subst (λ z. Contains (chords g e s) z) (sym h.same) (face_chord_in h.face h.inside)
      | inr h ↦ subst (λ z. Contains (chords g e s) z) (sym h.same)
          (edge_chord_in h.edge h.left h.right h.is_edge h.on h.inner h.left_is h.right_is)
    ]),
  )

  pub sides_are : (f : ℕ)
      → (Contains (left_faces g e s) f ↔ ((f < length g.rings) × IsTrue (covers_left g e s f)))
      × (Contains (right_faces g e s) f ↔ ((f < length g.rings) × IsTrue (covers_right g e s f)))
  sides_are f = (
    ((λ m. in_faces g (covers_left g e s) f m), (λ h. faces_in g (covers_left g e s) f h.0 h.1)),
    ((λ m. in_faces g (covers_right g e s) f m), (λ h. faces_in g (covers_right g e s) f h.0 h.1)),
  )
