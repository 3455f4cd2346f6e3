-- On a sheet of at most two faces no paper crosses: every stacking is geometric.
use Rattle.std.proofs.Common.{◌≡◌, ℕ, zero, suc, ◌+◌, ◌<◌, ◌≤◌, ◌⊎◌, inl, inr, Bool, true, false, not, List, [], ◌∷◌, length, map, reverse, refl, sym, ◌∙◌, ap, subst, Some, None, Option, arith, lit<, lit≤, IsTrue, get_or, if◌then◌else◌}
use Rattle.std.specs.List.{Contains, AllPairs, filter}
use Rattle.std.proofs.lemmas.Bool.{false≢true}
use Rattle.std.proofs.lemmas.List.{length-map, length-reverse, length-append}
use Rattle.std.proofs.lemmas.List.Elements.{Contains-append_cases}
use Rattle.ff_basics.proofs.Memberships.{by_member, first_member, in_filter, in_map, in_range, later_member, no_member}
use Rattle.ff_whole.specs.declared.places.Place.{Place}
use Rattle.ff_types.specs.declared.patterns.Mark.{Mark}
use Rattle.ff_types.specs.declared.patterns.Mark.TheVariants.{B, M, V, F, U}
use Rattle.ff_types.specs.Sheets.{Sheet, faces_of, edges_of, mark_of, left_face, right_face}
use Rattle.ff_types.specs.Inside.{over}
use Rattle.ff_types.specs.Borders.{is_on}
use Rattle.ff_types.specs.Covering.{covers_left, covers_right}
use Rattle.ff_types.specs.Stackings.{OrdersOverlaps, IsListing, IsStacking}
use Rattle.ff_types.specs.Crossings.{Side, circle, entry, face_chord, edge_chord, edge_chords, chords, Between, Outside, StandsAt, Alternate, IsUncrossed, IsGeometricStacking}
use Rattle.ff_types.specs.Crossings.Side.{Left, Right}

-- ---- chords

-- a face's chord, or one between the entries of two faces
abbrev IsChord : Sheet → ℕ → Place → Side × Side → Type 0
IsChord g e s c = ((f : ℕ) × (c ≡ (Left f, Right f))) ⊎ ((f h : ℕ) × (c ≡ (entry g e s f, entry g e s h)))

one_chord : (g : Sheet) (e : ℕ) (s : Place) (m : Mark) (l r : Option ℕ) (c : Side × Side) → Contains (edge_chord g e s m l r) c → IsChord g e s c
one_chord g e s m l r c k = by m l r k where
  two : (f h : ℕ) → Contains ((entry g e s f, entry g e s h) ∷ []) c → IsChord g e s c
  two f h k = by_member (entry g e s f, entry g e s h) [] c (λ d. inr (f, h, sym d)) (λ n. absurd (no_member c n)) k

  by : (m : Mark) (l r : Option ℕ) → Contains (edge_chord g e s m l r) c → IsChord g e s c
  by B l r k = absurd (no_member c k)
  by M (Some f) (Some h) k = two f h k
  by V (Some f) (Some h) k = two f h k
  by F (Some f) (Some h) k = two f h k
  by U (Some f) (Some h) k = two f h k
  by M None r k = absurd (no_member c k)
  by V None r k = absurd (no_member c k)
  by F None r k = absurd (no_member c k)
  by U None r k = absurd (no_member c k)
  by M (Some f) None k = absurd (no_member c k)
  by V (Some f) None k = absurd (no_member c k)
  by F (Some f) None k = absurd (no_member c k)
  by U (Some f) None k = absurd (no_member c k)

edges_chord : (g : Sheet) (e : ℕ) (s : Place) (ks : List ℕ) (c : Side × Side) → Contains (edge_chords g e s ks) c → IsChord g e s c
edges_chord g e s [] c m = absurd (no_member c m)
edges_chord g e s (k ∷ ks) c m = elim (Contains-append_cases (if is_on g k s then edge_chord g e s (mark_of g k) (left_face g k) (right_face g k) else []) (edge_chords g e s ks) c m) [
  | inl h ↦ by (is_on g k s) h
  | inr h ↦ edges_chord g e s ks c h
] where
  by : (b : Bool) → Contains (if b then edge_chord g e s (mark_of g k) (left_face g k) (right_face g k) else []) c → IsChord g e s c
  by true h = one_chord g e s (mark_of g k) (left_face g k) (right_face g k) c h
  by false h = absurd (no_member c h)

is_chord : (g : Sheet) (e : ℕ) (s : Place) (c : Side × Side) → Contains (chords g e s) c → IsChord g e s c
is_chord g e s c m = elim (Contains-append_cases (map face_chord (over g s)) (edge_chords g e s (edges_of g)) c m) [
  | inl h ↦ let r = in_map face_chord (over g s) c h in inl (r.0, sym r.2)
  | inr h ↦ edges_chord g e s (edges_of g) c h
]

-- ---- entries

left_is : (f h : ℕ) → Left f ≡ Left h → f ≡ h
left_is f h e = cc

right_is : (f h : ℕ) → Right f ≡ Right h → f ≡ h
right_is f h e = cc

not_both : (f h : ℕ) → Left f ≡ Right h → ⊥
not_both f h e = cc

-- a face that covers the left side has its entry there
entry_left : (g : Sheet) (e : ℕ) (s : Place) (f k : ℕ) → IsTrue (covers_left g e s k) → entry g e s f ≡ Right k → ⊥
entry_left g e s f k t x = by (covers_left g e s f) refl x where
  by : (b : Bool) → covers_left g e s f ≡ b → (if b then Left f else Right f) ≡ Right k → ⊥
  by true c y = not_both f k y
  by false c y = false≢true (sym c ∙ subst (λ j. IsTrue (covers_left g e s j)) (sym (right_is f k y)) t)

-- a chord doesn't lead from one face's left entry to another's right one, where that one covers the left side too
no_cross : (g : Sheet) (e : ℕ) (s : Place) (c : Side × Side) (x w : ℕ) → IsTrue (covers_left g e s w) → (x ≡ w → ⊥) → (c.0 ≡ Left x) × (c.1 ≡ Right w) ⊎ (c.0 ≡ Right w) × (c.1 ≡ Left x) → IsChord g e s c → ⊥
no_cross g e s c x w t d (inl k) (inl (f, h)) = d (sym (left_is f x (sym (ap (λ y. y.0) h) ∙ k.0)) ∙ right_is f w (sym (ap (λ y. y.1) h) ∙ k.1))
no_cross g e s c x w t d (inl k) (inr (f, h, i)) = entry_left g e s h w t (sym (ap (λ y. y.1) i) ∙ k.1)
no_cross g e s c x w t d (inr k) (inl (f, h)) = not_both f w (sym (ap (λ y. y.0) h) ∙ k.0)
no_cross g e s c x w t d (inr k) (inr (f, h, i)) = entry_left g e s f w t (sym (ap (λ y. y.0) i) ∙ k.0)

-- ---- listings of at most two faces

-- a set of pairs that puts no face above itself, and no two above each other
pub record IsOneWay (above : ℕ → ℕ → Bool) : Type 0 where
  pub apart : (f h : ℕ) → IsTrue (above f h) → f ≡ h → ⊥
  pub never_back : (f h : ℕ) → IsTrue (above f h) → IsTrue (above h f) → ⊥

pub one_way : (g : Sheet) (above : ℕ → ℕ → Bool) → OrdersOverlaps g above → IsOneWay above
one_way g above o = record {
  apart = λ f h t e. (o.only f h t).differ e;
  never_back = λ f h t u. back (above f h) (above h f) (o.one f h (o.only f h t)) t u;
} where
  back : (a b : Bool) → a ≡ not b → IsTrue a → IsTrue b → ⊥
  back true true e t u = false≢true (sym e)
  back true false e t u = false≢true u
  back false b e t u = false≢true t

-- the listing has faces below n alone, and rises
pub record IsLow (above : ℕ → ℕ → Bool) (n : ℕ) (l : List ℕ) : Type 0 where
  pub low : (f : ℕ) → Contains l f → f < n
  pub rises : AllPairs (λ lower upper. IsTrue (above upper lower)) l

abbrev at_zero : {A : Type 0} (x : A) (xs : List A) → Contains (x ∷ xs) x
at_zero x xs = first_member x xs x refl

abbrev at_one : {A : Type 0} (x y : A) (xs : List A) → Contains (x ∷ y ∷ xs) y
at_one x y xs = later_member x (y ∷ xs) y (first_member y xs y refl)

abbrev at_two : {A : Type 0} (x y z : A) (xs : List A) → Contains (x ∷ y ∷ z ∷ xs) z
at_two x y z xs = later_member x (y ∷ z ∷ xs) z (at_one y z xs)

no_three : (above : ℕ → ℕ → Bool) (x y z : ℕ) (l : List ℕ) → IsOneWay above → IsLow above 2 (x ∷ y ∷ z ∷ l) → ⊥
no_three above x y z l w k =
    let a : x < 2 = k.low x (at_zero x (y ∷ z ∷ l)) in
    let b : y < 2 = k.low y (at_one x y (z ∷ l)) in
    let c : z < 2 = k.low z (at_two x y z l) in
    let d : y ≡ x → ⊥ = w.apart y x (k.rises 0 1 0 (lit< tt) (omega arith)) in
    let e : z ≡ x → ⊥ = w.apart z x (k.rises 0 2 0 (lit< tt) (omega arith)) in
    let f : z ≡ y → ⊥ = w.apart z y (k.rises 1 2 0 (lit< tt) (omega arith)) in
    grind (arith, a, b, c, d, e, f)

at_most_two : (above : ℕ → ℕ → Bool) (l : List ℕ) → IsOneWay above → IsLow above 2 l → length l ≤ 2
at_most_two above [] w k = omega arith
at_most_two above (x ∷ []) w k = omega arith
at_most_two above (x ∷ y ∷ []) w k = omega arith
at_most_two above (x ∷ y ∷ z ∷ l) w k = absurd (no_three above x y z l w k)

-- two listings of two are one
same_two : (above : ℕ → ℕ → Bool) (x y z w : ℕ) → IsOneWay above → IsLow above 2 (x ∷ y ∷ []) → IsLow above 2 (z ∷ w ∷ []) → (x ≡ z) × (y ≡ w)
same_two above x y z w o k l = by (below_two x a) (below_two z b) (below_two y c) (below_two w d) where
  a : x < 2
  a = k.low x (at_zero x (y ∷ []))

  b : z < 2
  b = l.low z (at_zero z (w ∷ []))

  c : y < 2
  c = k.low y (at_one x y [])

  d : w < 2
  d = l.low w (at_one z w [])

  up : IsTrue (above y x)
  up = k.rises 0 1 0 (lit< tt) (lit< tt)

  down : IsTrue (above w z)
  down = l.rises 0 1 0 (lit< tt) (lit< tt)

  below_two : (n : ℕ) → n < 2 → (n ≡ 0) ⊎ (n ≡ 1)
  below_two zero h = inl refl
  below_two (suc zero) h = inr refl
  below_two (suc (suc n)) h = absurd (omega (arith, h))

  by : (x ≡ 0) ⊎ (x ≡ 1) → (z ≡ 0) ⊎ (z ≡ 1) → (y ≡ 0) ⊎ (y ≡ 1) → (w ≡ 0) ⊎ (w ≡ 1) → (x ≡ z) × (y ≡ w)
  by (inl p) q (inl r) s = absurd (o.apart y x up (r ∙ sym p))
  by (inr p) q (inr r) s = absurd (o.apart y x up (r ∙ sym p))
  by p (inl q) r (inl s) = absurd (o.apart w z down (s ∙ sym q))
  by p (inr q) r (inr s) = absurd (o.apart w z down (s ∙ sym q))
  by (inl p) (inl q) (inr r) (inr s) = (p ∙ sym q, r ∙ sym s)
  by (inr p) (inr q) (inl r) (inl s) = (p ∙ sym q, r ∙ sym s)
  by (inl p) (inr q) (inr r) (inl s) = absurd (o.never_back y x up (subst (λ n. IsTrue (above n y)) (s ∙ sym p) (subst (λ n. IsTrue (above w n)) (q ∙ sym r) down)))
  by (inr p) (inl q) (inl r) (inr s) = absurd (o.never_back y x up (subst (λ n. IsTrue (above n y)) (s ∙ sym p) (subst (λ n. IsTrue (above w n)) (q ∙ sym r) down)))

-- ---- places on the circle

abbrev Across : ℕ → ℕ → ℕ → ℕ → Type 0
Across p q r t = (Between p q r × Outside p q t) ⊎ (Outside p q r × Between p q t)

split : (p q r t : ℕ) (P : Type 0) → (Between p q r → Outside p q t → P) → (Outside p q r → Between p q t → P) → Across p q r t → P
split p q r t P f g (inl h) = f h.0 h.1
split p q r t P f g (inr h) = g h.0 h.1

apart_places : (n p q r t : ℕ) → p < n → q < n → r < n → t < n → n ≤ 4 → Between p q r → Outside p q t → (n ≡ 4) × ((q ≡ p + 2) ⊎ (p ≡ q + 2))
apart_places n p q r t a b c d e (inl h) (inl k) = (omega (arith, a, b, c, d, e, h.0, h.1, k.0, k.1), inl (omega (arith, a, b, c, d, e, h.0, h.1, k.0, k.1)))
apart_places n p q r t a b c d e (inl h) (inr k) = (omega (arith, a, b, c, d, e, h.0, h.1, k.0, k.1), inl (omega (arith, a, b, c, d, e, h.0, h.1, k.0, k.1)))
apart_places n p q r t a b c d e (inr h) (inl k) = (omega (arith, a, b, c, d, e, h.0, h.1, k.0, k.1), inr (omega (arith, a, b, c, d, e, h.0, h.1, k.0, k.1)))
apart_places n p q r t a b c d e (inr h) (inr k) = (omega (arith, a, b, c, d, e, h.0, h.1, k.0, k.1), inr (omega (arith, a, b, c, d, e, h.0, h.1, k.0, k.1)))

-- of at most four places, alternate chords take all four, and each chord opposite ones
opposite : (n p q r t : ℕ) → p < n → q < n → r < n → t < n → n ≤ 4 → Across p q r t → (n ≡ 4) × ((q ≡ p + 2) ⊎ (p ≡ q + 2))
opposite n p q r t a b c d e x = split p q r t ((n ≡ 4) × ((q ≡ p + 2) ⊎ (p ≡ q + 2))) (λ h k. apart_places n p q r t a b c d e h k) (λ h k. apart_places n p q t r a b d c e k h) x

circle_length : (l r : List ℕ) → length (circle l r) ≡ length l + length r
circle_length l r = length-append (map Left l) (map Right (reverse r)) ∙ (ap (λ n. n + length (map Right (reverse r))) (length-map l Left) ∙ ap (λ n. length l + n) (length-map (reverse r) Right ∙ length-reverse r))

too_few : (l r : List ℕ) (c d : Side × Side) → length l + length r ≤ 3 → Alternate (circle l r) c d → ⊥
too_few l r c d h a = by (opposite (length (circle l r)) a.p a.q a.r a.t a.c_first.inside a.c_second.inside a.d_first.inside a.d_second.inside (omega (arith, circle_length l r, h)) a.across) where
  by : (length (circle l r) ≡ 4) × ((a.q ≡ a.p + 2) ⊎ (a.p ≡ a.q + 2)) → ⊥
  by z = omega (arith, circle_length l r, h, z.0)

-- with four entries, the first chord leads from one face's left entry to the other's right one
abbrev Opposed : Side × Side → ℕ → ℕ → Type 0
Opposed c x w = ((c.0 ≡ Left x) × (c.1 ≡ Right w)) ⊎ ((c.0 ≡ Right w) × (c.1 ≡ Left x))

abbrev four : ℕ → ℕ → List Side
four x y = Left x ∷ Left y ∷ Right y ∷ Right x ∷ []

stands : (x y p k : ℕ) (s : Side) → StandsAt (four x y) p s → p ≡ k → get_or (four x y) k s ≡ s
stands x y p k s h e = subst (λ n. get_or (four x y) n s ≡ s) e h.there

opposed : (x y p q : ℕ) (c : Side × Side) → StandsAt (four x y) p c.0 → StandsAt (four x y) q c.1 → (q ≡ p + 2) ⊎ (p ≡ q + 2) → Opposed c x y ⊎ Opposed c y x
opposed x y zero q c h k (inl e) = inl (inl (sym (stands x y 0 0 c.0 h refl), sym (stands x y q 2 c.1 k e)))
opposed x y (suc zero) q c h k (inl e) = inr (inl (sym (stands x y 1 1 c.0 h refl), sym (stands x y q 3 c.1 k e)))
opposed x y (suc (suc p)) q c h k (inl e) = absurd (omega (arith, k.inside, e))
opposed x y p zero c h k (inr e) = inl (inr (sym (stands x y p 2 c.0 h e), sym (stands x y 0 0 c.1 k refl)))
opposed x y p (suc zero) c h k (inr e) = inr (inr (sym (stands x y p 3 c.0 h e), sym (stands x y 1 1 c.1 k refl)))
opposed x y p (suc (suc q)) c h k (inr e) = absurd (omega (arith, h.inside, e))

four_entries : (g : Sheet) (e : ℕ) (s : Place) (x y : ℕ) (c d : Side × Side) → IsTrue (covers_left g e s x) → IsTrue (covers_left g e s y) → (x ≡ y → ⊥) → IsChord g e s c → Alternate (four x y) c d → ⊥
four_entries g e s x y c d t u n k a = by (opposed x y a.p a.q c a.c_first a.c_second (opposite 4 a.p a.q a.r a.t a.c_first.inside a.c_second.inside a.d_first.inside a.d_second.inside (omega arith) a.across).1) where
  by : Opposed c x y ⊎ Opposed c y x → ⊥
  by (inl o) = no_cross g e s c x y u n o k
  by (inr o) = no_cross g e s c y x t (λ m. n (sym m)) o k

uncross : (g : Sheet) (above : ℕ → ℕ → Bool) (e : ℕ) (s : Place) (l r : List ℕ) (c d : Side × Side) → IsOneWay above → IsLow above 2 l → IsLow above 2 r
    → ((f : ℕ) → Contains l f → IsTrue (covers_left g e s f)) → IsChord g e s c → Alternate (circle l r) c d → ⊥
uncross g above e s [] r c d w h k m n a = too_few [] r c d (omega (arith, at_most_two above r w k)) a
uncross g above e s (x ∷ []) r c d w h k m n a = too_few (x ∷ []) r c d (omega (arith, at_most_two above r w k)) a
uncross g above e s (x ∷ y ∷ []) [] c d w h k m n a = too_few (x ∷ y ∷ []) [] c d (lit≤ tt) a
uncross g above e s (x ∷ y ∷ []) (z ∷ []) c d w h k m n a = too_few (x ∷ y ∷ []) (z ∷ []) c d (lit≤ tt) a
uncross g above e s (x ∷ y ∷ []) (z ∷ v ∷ []) c d w h k m n a = by (same_two above x y z v w h k) where
  by : (x ≡ z) × (y ≡ v) → ⊥
  by q = four_entries g e s x y c d (m x (at_zero x (y ∷ []))) (m y (at_one x y [])) (λ i. w.apart y x (h.rises 0 1 0 (lit< tt) (lit< tt)) (sym i)) n
      (subst (λ j. Alternate (Left x ∷ Left y ∷ Right y ∷ Right j ∷ []) c d) (sym q.0) (subst (λ j. Alternate (Left x ∷ Left y ∷ Right j ∷ Right z ∷ []) c d) (sym q.1) a))
uncross g above e s (x ∷ y ∷ []) (z ∷ v ∷ u ∷ r) c d w h k m n a = no_three above z v u r w k
uncross g above e s (x ∷ y ∷ z ∷ l) r c d w h k m n a = no_three above x y z l w h

-- a listing of covering faces has the sheet's faces alone
listing_low : (g : Sheet) (above : ℕ → ℕ → Bool) (p : ℕ → Bool) (l : List ℕ) → length g.rings ≤ 2 → IsListing above (filter p (faces_of g)) l → IsLow above 2 l
listing_low g above p l few h = record {
  low = λ f m. below f ((h.same f).0 m);
  rises = h.rises;
} where
  below : (f : ℕ) → Contains (filter p (faces_of g)) f → f < 2
  below f m = let r = in_range 0 (length g.rings) f (in_filter p (faces_of g) f m).0 in omega (arith, r.1, few)

pub two_faces_uncrossed : (g : Sheet) (above : ℕ → ℕ → Bool) → length g.rings ≤ 2 → OrdersOverlaps g above → (e : ℕ) (s : Place) → IsUncrossed g above e s
two_faces_uncrossed g above few o e s l r hl hr c d mc md a = uncross g above e s l r c d (one_way g above o) (listing_low g above (covers_left g e s) l few hl) (listing_low g above (covers_right g e s) r few hr)
    (λ f m. (in_filter (covers_left g e s) (faces_of g) f ((hl.same f).0 m)).1) (is_chord g e s c mc) a

pub two_faces_geometric : (g : Sheet) (above : ℕ → ℕ → Bool) → length g.rings ≤ 2 → IsStacking g above → IsGeometricStacking g above
two_faces_geometric g above few s = record { stacking = s; uncrossed = λ e p plain. two_faces_uncrossed g above few s.orders e p }
