-- The stackings of a sheet with one face, and of a sheet with two faces that overlap: none but the empty one, and the two
-- in which one of the faces is above the other.
use Rattle.std.proofs.Common.{◌≡◌, ℕ, zero, suc, ◌<◌, ◌==◌, ◌⊎◌, inl, inr, Bool, true, false, not, ◌&&◌, List, [], ◌∷◌, length, refl, sym, ◌∙◌, ap, subst, arith, lit<, IsTrue, cond}
use Rattle.std.specs.List.{Contains, AllPairs, filter, range_with_len}
use Rattle.std.proofs.lemmas.Bool.{false≢true, ltb-true, eqb-true}
use Rattle.ff_basics.proofs.Numbers.{same_number}
use Rattle.ff_basics.proofs.Tests.{both_of, not_true}
use Rattle.ff_whole.specs.declared.places.Place.{Place}
use Rattle.ff_types.specs.Sheets.{Sheet, is_face}
use Rattle.ff_types.specs.Inside.{is_inside, Overlap}
use Rattle.ff_types.specs.Stackings.{OrdersOverlaps, IsStacking, CanBeListed}
use Rattle.ff_types.specs.Crossings.{IsGeometricStacking}
use Rattle.ff_types.specs.PlainSheets.{no_pairs}
use Rattle.ff_types.specs.OneCrease.{one_pair}
use Rattle.ff_types.proofs.TwoFaces.{two_faces_geometric}

-- ---- overlapping faces are faces

pub inside_face : (g : Sheet) (f : ℕ) (s : Place) → IsTrue (is_inside g f s) → f < length g.rings
inside_face g f s t = ltb-true f (length g.rings) (both_of (is_face g f) _ t).0

pub overlap_first : (g : Sheet) (f h : ℕ) → Overlap g f h → f < length g.rings
overlap_first g f h o = inside_face g f o.common.at (both_of (is_inside g f o.common.at) _ o.common.inside).0

pub overlap_second : (g : Sheet) (f h : ℕ) → Overlap g f h → h < length g.rings
overlap_second g f h o = inside_face g h o.common.at (both_of (is_inside g h o.common.at) _ (both_of (is_inside g f o.common.at) _ o.common.inside).1).0

pub overlap_turned : (g : Sheet) (f h : ℕ) → Overlap g f h → Overlap g h f
overlap_turned g f h o = record { differ = λ e. o.differ (sym e); common = record { at = o.common.at; place = o.common.place; inside = turned (is_inside g f o.common.at) (is_inside g h o.common.at) o.common.inside } } where
  turned : (a b : Bool) → IsTrue (a && (b && true)) → IsTrue (b && (a && true))
  turned true true t = refl
  turned true false t = absurd (false≢true t)
  turned false b t = absurd (false≢true t)

-- ---- short lists

empty_rises : (above : ℕ → ℕ → Bool) → AllPairs (λ lower upper. IsTrue (above upper lower)) []
empty_rises above i j d h k = absurd (omega (arith, k))

one_rises : (above : ℕ → ℕ → Bool) (x : ℕ) → AllPairs (λ lower upper. IsTrue (above upper lower)) (x ∷ [])
one_rises above x i j d h k = absurd (omega (arith, h, k))

two_rises : (above : ℕ → ℕ → Bool) (x y : ℕ) → IsTrue (above y x) → AllPairs (λ lower upper. IsTrue (above upper lower)) (x ∷ y ∷ [])
two_rises above x y t zero zero d h k = absurd (omega (arith, h))
two_rises above x y t zero (suc zero) d h k = t
two_rises above x y t zero (suc (suc j)) d h k = absurd (omega (arith, k))
two_rises above x y t (suc i) zero d h k = absurd (omega (arith, h))
two_rises above x y t (suc i) (suc zero) d h k = absurd (omega (arith, h))
two_rises above x y t (suc i) (suc (suc j)) d h k = absurd (omega (arith, k))

as_it_is : (above : ℕ → ℕ → Bool) (l : List ℕ) → AllPairs (λ lower upper. IsTrue (above upper lower)) l → CanBeListed above l
as_it_is above l r = (l, record { same = λ f. ((λ x. x), (λ x. x)); rises = r })

swapped_in : (x y f : ℕ) → Contains (x ∷ y ∷ []) f → Contains (y ∷ x ∷ []) f
swapped_in x y f (zero, h, e) = (1, lit< tt, e)
swapped_in x y f (suc zero, h, e) = (0, lit< tt, e)
swapped_in x y f (suc (suc k), h, e) = absurd (omega (arith, h))

other_way : (above : ℕ → ℕ → Bool) (x y : ℕ) → IsTrue (above x y) → CanBeListed above (x ∷ y ∷ [])
other_way above x y t = (y ∷ x ∷ [], record { same = λ f. (swapped_in y x f, swapped_in x y f); rises = two_rises above y x t })

-- ---- one face

pub one_face_alone : (g : Sheet) → length g.rings ≡ 1 → (f h : ℕ) → Overlap g f h → ⊥
one_face_alone g one f h o = o.differ (same f h (overlap_first g f h o) (overlap_second g f h o)) where
  same : (f h : ℕ) → f < length g.rings → h < length g.rings → f ≡ h
  same f h a b = omega (arith, one, a, b)

one_listed : (n : ℕ) (p : ℕ → Bool) → n ≡ 1 → CanBeListed no_pairs (filter p (range_with_len 0 n))
one_listed n p e = subst (λ k. CanBeListed no_pairs (filter p (range_with_len 0 k))) (sym e) (by (p 0)) where
  by : (b : Bool) → CanBeListed no_pairs (cond b (0 ∷ []) [])
  by true = as_it_is no_pairs (0 ∷ []) (one_rises no_pairs 0)
  by false = as_it_is no_pairs [] (empty_rises no_pairs)

-- The empty set is a geometric stacking of one face.
pub one_face_stacks : (g : Sheet) → length g.rings ≡ 1 → IsGeometricStacking g no_pairs
one_face_stacks g one = two_faces_geometric g no_pairs (omega (arith, one)) (record {
  orders = record { one = λ f h o. absurd (one_face_alone g one f h o); only = λ f h t. absurd (false≢true t) };
  places = λ s p. one_listed (length g.rings) _ one;
  left = λ e s p. one_listed (length g.rings) _ one;
  right = λ e s p. one_listed (length g.rings) _ one;
})

-- Where no two faces overlap, a stacking is the empty set.
pub no_overlap_empty : (g : Sheet) (above : ℕ → ℕ → Bool) → ((f h : ℕ) → Overlap g f h → ⊥) → OrdersOverlaps g above → (f h : ℕ) → above f h ≡ false
no_overlap_empty g above none o f h = not_true (above f h) (λ t. none f h (o.only f h t))

-- It is the only one.
pub one_face_only : (g : Sheet) (above : ℕ → ℕ → Bool) → length g.rings ≡ 1 → IsStacking g above → (f h : ℕ) → above f h ≡ false
one_face_only g above one s = no_overlap_empty g above (one_face_alone g one) s.orders

-- ---- two faces that overlap

two_listed : (n : ℕ) (above : ℕ → ℕ → Bool) (p : ℕ → Bool) → n ≡ 2 → above 0 1 ≡ not (above 1 0) → CanBeListed above (filter p (range_with_len 0 n))
two_listed n above p e o = subst (λ k. CanBeListed above (filter p (range_with_len 0 k))) (sym e) (by (p 0) (p 1)) where
  either_way : (b : Bool) → above 1 0 ≡ b → CanBeListed above (0 ∷ 1 ∷ [])
  either_way true u = as_it_is above (0 ∷ 1 ∷ []) (two_rises above 0 1 u)
  either_way false u = other_way above 0 1 (o ∙ ap not u)

  by : (b c : Bool) → CanBeListed above (cond b (0 ∷ cond c (1 ∷ []) []) (cond c (1 ∷ []) []))
  by true true = either_way (above 1 0) refl
  by true false = as_it_is above (0 ∷ []) (one_rises above 0)
  by false true = as_it_is above (1 ∷ []) (one_rises above 1)
  by false false = as_it_is above [] (empty_rises above)

-- Any set with one of the two orders and no other pair is a geometric stacking.
pub two_faces_stack : (g : Sheet) (above : ℕ → ℕ → Bool) → length g.rings ≡ 2 → Overlap g 0 1 → OrdersOverlaps g above → IsGeometricStacking g above
two_faces_stack g above two o orders = two_faces_geometric g above (omega (arith, two)) (record {
  orders = orders;
  places = λ s p. two_listed (length g.rings) above _ two (orders.one 0 1 o);
  left = λ e s p. two_listed (length g.rings) above _ two (orders.one 0 1 o);
  right = λ e s p. two_listed (length g.rings) above _ two (orders.one 0 1 o);
})

-- two faces that overlap are 0 and 1, in either order
pub which_two : (g : Sheet) (f h : ℕ) → length g.rings ≡ 2 → Overlap g f h → ((f ≡ 0) × (h ≡ 1)) ⊎ ((f ≡ 1) × (h ≡ 0))
which_two g f h two o = by f h (overlap_first g f h o) (overlap_second g f h o) o.differ where
  by : (f h : ℕ) → f < length g.rings → h < length g.rings → (f ≡ h → ⊥) → ((f ≡ 0) × (h ≡ 1)) ⊎ ((f ≡ 1) × (h ≡ 0))
  by zero zero a b d = absurd (d refl)
  by zero (suc zero) a b d = inl (refl, refl)
  by (suc zero) zero a b d = inr (refl, refl)
  by (suc zero) (suc zero) a b d = absurd (d refl)
  by zero (suc (suc h)) a b d = absurd (omega (arith, two, b))
  by (suc zero) (suc (suc h)) a b d = absurd (omega (arith, two, b))
  by (suc (suc f)) h a b d = absurd (omega (arith, two, a))

the_pair : (x y f h : ℕ) → IsTrue (one_pair x y f h) → (f ≡ x) × (h ≡ y)
the_pair x y f h t = let b = both_of (f == x) (h == y) t in (eqb-true f x b.0, eqb-true h y b.1)

pub upper_first : (g : Sheet) → length g.rings ≡ 2 → Overlap g 0 1 → OrdersOverlaps g (one_pair 1 0)
upper_first g two o = record {
  one = λ f h p. elim (which_two g f h two p) [
    | inl e ↦ subst (λ x. one_pair 1 0 x h ≡ not (one_pair 1 0 h x)) (sym e.0) (subst (λ y. one_pair 1 0 0 y ≡ not (one_pair 1 0 y 0)) (sym e.1) refl)
    | inr e ↦ subst (λ x. one_pair 1 0 x h ≡ not (one_pair 1 0 h x)) (sym e.0) (subst (λ y. one_pair 1 0 1 y ≡ not (one_pair 1 0 y 1)) (sym e.1) refl)
  ];
  only = λ f h t. let e = the_pair 1 0 f h t in subst (λ x. Overlap g x h) (sym e.0) (subst (λ y. Overlap g 1 y) (sym e.1) (overlap_turned g 0 1 o));
}

pub lower_first : (g : Sheet) → length g.rings ≡ 2 → Overlap g 0 1 → OrdersOverlaps g (one_pair 0 1)
lower_first g two o = record {
  one = λ f h p. elim (which_two g f h two p) [
    | inl e ↦ subst (λ x. one_pair 0 1 x h ≡ not (one_pair 0 1 h x)) (sym e.0) (subst (λ y. one_pair 0 1 0 y ≡ not (one_pair 0 1 y 0)) (sym e.1) refl)
    | inr e ↦ subst (λ x. one_pair 0 1 x h ≡ not (one_pair 0 1 h x)) (sym e.0) (subst (λ y. one_pair 0 1 1 y ≡ not (one_pair 0 1 y 1)) (sym e.1) refl)
  ];
  only = λ f h t. let e = the_pair 0 1 f h t in subst (λ x. Overlap g x h) (sym e.0) (subst (λ y. Overlap g 0 y) (sym e.1) o);
}

-- A stacking of the two is that with face 1 above face 0, or that with face 0 above face 1.
pub two_faces_only : (g : Sheet) (above : ℕ → ℕ → Bool) → length g.rings ≡ 2 → Overlap g 0 1 → OrdersOverlaps g above
    → ((f h : ℕ) → above f h ≡ one_pair 1 0 f h) ⊎ ((f h : ℕ) → above f h ≡ one_pair 0 1 f h)
two_faces_only g above two o orders = by (above 1 0) refl where
  elsewhere : (x y : ℕ) → IsTrue (above x y) → ((f h : ℕ) → IsTrue (above f h) → (f ≡ x) × (h ≡ y)) → (f h : ℕ) → above f h ≡ one_pair x y f h
  elsewhere x y t only f h = same (above f h) (one_pair x y f h) (λ u. there (only f h u)) (λ u. back (the_pair x y f h u)) where
    there : (f ≡ x) × (h ≡ y) → IsTrue (one_pair x y f h)
    there e = rw (e.0, e.1, same_number x, same_number y) refl

    back : (f ≡ x) × (h ≡ y) → IsTrue (above f h)
    back e = subst (λ a. IsTrue (above a h)) (sym e.0) (subst (λ b. IsTrue (above x b)) (sym e.1) t)

    same : (a b : Bool) → (IsTrue a → IsTrue b) → (IsTrue b → IsTrue a) → a ≡ b
    same true true p q = refl
    same true false p q = sym (p refl)
    same false true p q = q refl
    same false false p q = refl

  zero_one : above 0 1 ≡ not (above 1 0)
  zero_one = orders.one 0 1 o

  by : (b : Bool) → above 1 0 ≡ b → ((f h : ℕ) → above f h ≡ one_pair 1 0 f h) ⊎ ((f h : ℕ) → above f h ≡ one_pair 0 1 f h)
  by true e = inl (elsewhere 1 0 e (λ f h u. elim (which_two g f h two (orders.only f h u)) [
    | inl k ↦ absurd (false≢true (sym (zero_one ∙ ap not e) ∙ subst (λ a. IsTrue (above a 1)) k.0 (subst (λ c. IsTrue (above f c)) k.1 u)))
    | inr k ↦ k
  ]))
  by false e = inr (elsewhere 0 1 (zero_one ∙ ap not e) (λ f h u. elim (which_two g f h two (orders.only f h u)) [
    | inl k ↦ k
    | inr k ↦ absurd (false≢true (sym e ∙ subst (λ a. IsTrue (above a 0)) k.0 (subst (λ c. IsTrue (above f c)) k.1 u)))
  ]))
