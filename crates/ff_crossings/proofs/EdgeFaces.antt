-- The two faces of an inner edge: both are on its ring, and their entries are those of the sides on which
-- they lie.
use Rattle.std.proofs.Common.{◌≡◌, ◌≢◌, ℕ, ◌<◌, ◌⊎◌, inl, inr, Bool, true, false, ◌&&◌, length, arith, refl, sym, subst, ap, ◌∙◌, IsTrue, Contains, Option, Some}
use Rattle.std.specs.Prelude.{if◌then◌else◌}
use Rattle.std.proofs.lemmas.Bool.{false≢true, and_parts, and_from, or_left, or_right, or_from, ltb-true, lt-ltb}
use Rattle.std.proofs.lemmas.List.Folds.{list_any_at}
use Rattle.ff_basics.proofs.Memberships.{range_in}
use Rattle.ff_basics.proofs.Numbers.{same_number}
use Rattle.ff_whole.specs.declared.places.Place.{Place}
use Rattle.ff_types.specs.declared.patterns.Mark.{Mark}
use Rattle.ff_types.specs.declared.patterns.Mark.TheVariants.{B, M, V, F, U}
use Rattle.ff_types.specs.Foldings.{is_folded}
use Rattle.ff_types.specs.Sheets.{Sheet, edges_of, is_edge, mark_of, left_face, right_face, is_some_of, bounds}
use Rattle.ff_types.specs.Inside.{is_inside}
use Rattle.ff_types.specs.Borders.{is_on}
use Rattle.ff_types.specs.Covering.{is_on_ring, lies_left, covers_left, covers_right, left_faces, right_faces}
use Rattle.ff_types.specs.Cites.{is_folded_edge, is_flat, is_flat_edge}
use Rattle.ff_types.specs.Crossings.{entry}
use Rattle.ff_types.specs.Crossings.Side.{Left, Right}
use Rattle.ff_borders.specs.Folded.{AreBeside}
use Rattle.ff_borders.specs.Lying.{IsLeftAlone, IsRightAlone}
use Rattle.ff_crossings.proofs.ChordLists.{faces_in}

-- ---- marks

pub folded_or_flat : (m : Mark) → m ≢ B → IsTrue (is_folded m) ⊎ IsTrue (is_flat m)
folded_or_flat B d = absurd (d refl)
folded_or_flat M d = inl refl
folded_or_flat V d = inl refl
folded_or_flat F d = inr refl
folded_or_flat U d = inl refl

folded_inner : (m : Mark) → IsTrue (is_folded m) → m ≢ B
folded_inner m t e = false≢true (ap is_folded (sym e) ∙ t)

flat_inner : (m : Mark) → IsTrue (is_flat m) → m ≢ B
flat_inner m t e = false≢true (ap is_flat (sym e) ∙ t)

folded_not_flat : (m : Mark) → IsTrue (is_folded m) → IsTrue (is_flat m) → ⊥
folded_not_flat B t u = false≢true t
folded_not_flat M t u = false≢true u
folded_not_flat V t u = false≢true u
folded_not_flat F t u = false≢true t
folded_not_flat U t u = false≢true u

module _ (g : Sheet) where
  pub edge_number : (k : ℕ) → IsTrue (is_edge g k) → k < length g.edges
  edge_number k t = ltb-true k (length g.edges) t

  pub number_edge : (k : ℕ) → k < length g.edges → IsTrue (is_edge g k)
  number_edge k h = lt-ltb k (length g.edges) h

  pub folded_number : (k : ℕ) → IsTrue (is_folded_edge g k) → k < length g.edges
  folded_number k t = edge_number k (and_parts _ _ t).0

  pub flat_number : (k : ℕ) → IsTrue (is_flat_edge g k) → k < length g.edges
  flat_number k t = edge_number k (and_parts _ _ t).0

  pub folded_is_inner : (k : ℕ) → IsTrue (is_folded_edge g k) → mark_of g k ≢ B
  folded_is_inner k t = folded_inner (mark_of g k) (and_parts _ _ t).1

  pub flat_is_inner : (k : ℕ) → IsTrue (is_flat_edge g k) → mark_of g k ≢ B
  flat_is_inner k t = flat_inner (mark_of g k) (and_parts _ _ t).1

  -- a folded edge is no flat one
  pub folded_flat_differ : (k l : ℕ) → IsTrue (is_folded_edge g k) → IsTrue (is_flat_edge g l) → k ≢ l
  folded_flat_differ k l t u e =
      folded_not_flat (mark_of g k) (and_parts _ _ t).1
      (ap (λ n. is_flat (mark_of g n)) e ∙ (and_parts _ _ u).1)

  -- ---- both faces of an edge are on its ring

  is_some_itself : (f : ℕ) (o : Option ℕ) → o ≡ Some f → IsTrue (is_some_of f o)
  is_some_itself f o e = ap (is_some_of f) e ∙ same_number f

  pub bounds_first : (k f h : ℕ) → AreBeside g k f h → IsTrue (bounds g k f)
  bounds_first k f h b = elim b.beside [
    | inl e ↦ or_left _ _ (is_some_itself f (left_face g k) e.0)
    | inr e ↦ or_right _ _ (is_some_itself f (right_face g k) e.1)
  ]

  pub bounds_second : (k f h : ℕ) → AreBeside g k f h → IsTrue (bounds g k h)
  bounds_second k f h b = elim b.beside [
    | inl e ↦ or_right _ _ (is_some_itself h (right_face g k) e.1)
    | inr e ↦ or_left _ _ (is_some_itself h (left_face g k) e.0)
  ]

  pub on_its_ring : (k f : ℕ) (s : Place) → k < length g.edges → IsTrue (is_on g k s) → IsTrue (bounds g k f)
      → IsTrue (is_on_ring g f s)
  on_its_ring k f s h t b = by (range_in 0 (length g.edges) k (omega arith) (omega (arith, h))) where
    by : Contains (edges_of g) k → IsTrue (is_on_ring g f s)
    by m = list_any_at (λ l. is_on g l s && bounds g l f) (edges_of g) m.0 k m.1
        (subst (λ l. IsTrue (is_on g l s && bounds g l f)) (sym m.2) (and_from _ _ t b))

  -- ---- a face on one side alone

  module _ (e f : ℕ) (s : Place) where
    pub covers_its_left : IsTrue (is_on_ring g f s) → IsLeftAlone g e f → IsTrue (covers_left g e s f)
    covers_its_left r l = or_right _ _ (and_from _ _ r l.0)

    pub covers_its_right : IsTrue (is_on_ring g f s) → IsRightAlone g e f → IsTrue (covers_right g e s f)
    covers_its_right r l = or_right _ _ (and_from _ _ r l.0)

    pub entry_left : IsTrue (covers_left g e s f) → entry g e s f ≡ Left f
    entry_left t = ap (λ b. if b then Left f else Right f) t

    pub entry_right : is_inside g f s ≡ false → IsRightAlone g e f → entry g e s f ≡ Right f
    entry_right n l = ap (λ b. if b then Left f else Right f)
        (or_from _ _ n (and_false (is_on_ring g f s) (lies_left g e f) l.1)) where
          and_false : (b c : Bool) → c ≡ false → (b && c) ≡ false
          and_false true c q = q
          and_false false c q = refl

    pub left_member : f < length g.rings → IsTrue (covers_left g e s f) → Contains (left_faces g e s) f
    left_member h t = faces_in g (covers_left g e s) f h t

    pub right_member : f < length g.rings → IsTrue (covers_right g e s f) → Contains (right_faces g e s) f
    right_member h t = faces_in g (covers_right g e s) f h t

  -- no face is on the left alone and on the right alone
  pub not_both : (e f : ℕ) → IsLeftAlone g e f → IsRightAlone g e f → ⊥
  not_both e f l r = false≢true (sym l.1 ∙ r.0)
