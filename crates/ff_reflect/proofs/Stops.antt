-- Where the walk stops: what stands before shows that no placing before stops it, and this one does.
use Rattle.std.proofs.Common.{◌≡◌, ◌≢◌, ◌∙◌, ℕ, zero, suc, ◌*◌, ◌/◌, ◌<◌, inl, inr, List, [], ◌∷◌, ◌++◌, length, true, false, arith, refl, sym, ap, subst, slice_get, Some, IsTrue, ℤ, pos, negsuc, ◌*ℤ◌, ◌<ℤ◌, unsigned_abs, lit<}
use Prim.Native.Nat.{◌∣◌}
use lib.IntN.{*ℤ-zero}
use Rattle.std.proofs.lemmas.Int.{ints, unsigned_abs-mul}
use Rattle.std.proofs.lemmas.Bool.{false≢true}
use Rattle.std.proofs.Math.Nat.{dvd-mul_right, mul-div_cancel'}
use Rattle.std.specs.List.{Contains}
use Rattle.ff_basics.proofs.Memberships.{by_member, no_member}
use Rattle.ff_whole.specs.declared.points.Pt.{Pt}
use Rattle.ff_whole.specs.declared.places.Place.{Place}
use Rattle.ff_whole.specs.declared.sizes.TheConstants.{POINT_SIZE}
use Rattle.ff_whole.specs.Sizes.{IsBelow}
use Rattle.ff_whole.specs.Points.{origin, IsNear}
use Rattle.ff_whole.specs.Places.{IsPlace, same_place}
use Rattle.ff_whole.specs.Convex.{point_at}
use Rattle.ff_whole.specs.Meeting.{IsReduced}
use Rattle.ff_whole.proofs.Signs.{linear, pos-mul, cancel_left}
use Rattle.ff_whole.proofs.Bounds.{below_factor}
use Rattle.ff_whole.proofs.Ring.{var, ◌⊗◌, solve}
use Rattle.ff_types.specs.Foldings.{scaled}
use Rattle.ff_types.specs.FoldRefusals.{IsHome, IsTornAt, IsNearAt, FitsUpTo, IsTooFarAt, GoesUpTo}
use Rattle.ff_reflect.specs.declared.image.Image.{Image}
use Rattle.ff_reflect.specs.declared.placed.Placed.{Placed}
use Rattle.ff_reflect.specs.Images.{IsAt}
use Rattle.ff_reflect.specs.Puts.{IsHere, IsTooFar, has_place}
use Rattle.ff_reflect.specs.Standing.{Stands}
use Rattle.ff_reflect.proofs.Cases.{by_same, by_test}
use Rattle.ff_reflect.proofs.Growth.{factor_grows}
use Rattle.ff_reflect.proofs.Foldings.{equal_test, equal_from_test, both_true, first_true, at_same, same_from_at}
use Rattle.ff_reflect.proofs.Refused.{get_member}
use Rattle.ff_reflect.proofs.Stand.{IsImageHere, at_here, lowest_at, grown_at}

-- ---- lists

get_front : {A : Type 0} (xs ys : List A) (i : ℕ) → i < length xs → slice_get (xs ++ ys) i ≡ slice_get xs i
get_front [] ys i h = absurd (omega (arith, h))
get_front (x ∷ xs) ys zero h = refl
get_front (x ∷ xs) ys (suc i) h = get_front xs ys i (omega (arith, h))

get_middle : {A : Type 0} (xs : List A) (x : A) (ys : List A) → slice_get (xs ++ x ∷ ys) (length xs) ≡ Some x
get_middle [] x ys = refl
get_middle (z ∷ xs) x ys = get_middle xs x ys

-- the first placing of a vertex
pub record IsFirstOf (done : List (ℕ × ℕ)) (v : ℕ) : Type 0 where
  pub place : ℕ
  pub inside : place < length done
  pub pair : ℕ × ℕ
  pub there : slice_get done place ≡ Some pair
  pub is : pair.1 ≡ v
  pub first : (k : ℕ) (q : ℕ × ℕ) → k < place → slice_get done k ≡ Some q → q.1 ≢ v

pub first_of : (done : List (ℕ × ℕ)) (f v : ℕ) → Contains done (f, v) → IsFirstOf done v
first_of [] f v c = absurd (no_member (f, v) c)
first_of (p ∷ done) f v c = by_same p.1 v
    (λ e. record { place = 0; inside = omega arith; pair = p; there = refl; is = e; first = λ k q l d. absurd (omega (arith, l)) })
    (λ n. let r = first_of done f v (by_member p done (f, v) (λ e. absurd (n (ap (λ (q : ℕ × ℕ). q.1) e))) (λ k. k) c) in
    let l = r.inside in
    record { place = suc r.place; inside = omega (arith, l); pair = r.pair; there = r.there; is = r.is; first = go n r.place r.first })
  where
    go : (p.1 ≡ v → ⊥) → (n : ℕ) → ((k : ℕ) (q : ℕ × ℕ) → k < n → slice_get done k ≡ Some q → q.1 ≢ v) → (k : ℕ) (q : ℕ × ℕ) → k < suc n → slice_get (p ∷ done) k ≡ Some q → q.1 ≢ v
    go n m h zero q l e = let d : p ≡ q = (let s : Some p ≡ Some q = e in cc) in λ z. n (ap (λ (x : ℕ × ℕ). x.1) d ∙ z)
    go n m h (suc k) q l e = h k q (omega (arith, l)) e

-- ---- numbers

-- of one place at two scales, each point times the other scale is one
pub ratio_at : (d e : ℤ) (s : Place) (p q : Pt) → IsPlace s → IsAt d s p → IsAt e s q → (e *ℤ p.x ≡ d *ℤ q.x) × (e *ℤ p.y ≡ d *ℤ q.y)
ratio_at d e s p q h a b = (go s.x p.x q.x a.x b.x, go s.y p.y q.y a.y b.y) where
  go : (x y z : ℤ) → d *ℤ x ≡ s.w *ℤ y → e *ℤ x ≡ s.w *ℤ z → e *ℤ y ≡ d *ℤ z
  go x y z f g = cancel_left s.w (e *ℤ y) (d *ℤ z) h
      (solve (s.w ∷ e ∷ y ∷ []) (var 0 ⊗ (var 1 ⊗ var 2)) (var 1 ⊗ (var 0 ⊗ var 2)) refl ∙ ap (λ k. e *ℤ k) (sym f)
      ∙ solve (e ∷ d ∷ x ∷ []) (var 0 ⊗ (var 1 ⊗ var 2)) (var 1 ⊗ (var 0 ⊗ var 2)) refl ∙ ap (λ k. d *ℤ k) g
      ∙ solve (d ∷ s.w ∷ z ∷ []) (var 0 ⊗ (var 1 ⊗ var 2)) (var 1 ⊗ (var 0 ⊗ var 2)) refl)

pub near_origin : IsNear origin
near_origin = record { x_below = record { below = lit< tt }; y_below = record { below = lit< tt } }

-- ---- what stands before a placing

-- the places of what is done are near at the scale
near_done : (n : ℕ) (carried : ℕ → ℕ → Place) (done : List (ℕ × ℕ)) (s : Placed) (d : ℕ) → Stands n carried done s → s.scale ≡ pos d → (p : ℕ × ℕ) → Contains done p → IsNearAt d (carried p.0 p.1)
near_done n carried done s d h e p c =
    let a = h.at p c in (
      point_at s.points.items p.1,
      h.near p.1,
      subst (λ z. z *ℤ (carried p.0 p.1).x ≡ (carried p.0 p.1).w *ℤ (point_at s.points.items p.1).x) e a.x,
      subst (λ z. z *ℤ (carried p.0 p.1).y ≡ (carried p.0 p.1).w *ℤ (point_at s.points.items p.1).y) e a.y,
    )

-- none of them stops the walk
pub goes_on : (n : ℕ) (carried : ℕ → ℕ → Place) (done rest : List (ℕ × ℕ)) (s : Placed) → Stands n carried done s → GoesUpTo (done ++ rest) carried (length done)
goes_on n carried done rest s h = record { none_torn = none_torn; none_far = none_far } where
  in_done : (j : ℕ) (q : ℕ × ℕ) → j < length done → slice_get (done ++ rest) j ≡ Some q → Contains done q
  in_done j q l e = get_member done j q (sym (get_front done rest j l) ∙ e)

  none_torn : (j : ℕ) (q : ℕ × ℕ) → j < length done → IsTornAt (done ++ rest) carried j q → ⊥
  none_torn j q l t =
      let home = t.is_home in
      let e = t.earlier in
      let a = h.at t.at_home (in_done t.home t.at_home (omega (arith, l, e)) home.0) in
      let b = h.at q (in_done j q l t.there) in
      let a' = subst (λ v. IsAt s.scale (carried t.at_home.0 t.at_home.1) (point_at s.points.items v)) t.same_vertex a in
      false≢true (sym t.torn ∙ same_from_at s.scale _ _ (point_at s.points.items q.1) h.positive a' b)

  none_far : (j : ℕ) (q : ℕ × ℕ) → j < length done → IsTooFarAt (done ++ rest) carried j q → ⊥
  none_far j q l t = by s.scale refl where
    by : (z : ℤ) → s.scale ≡ z → ⊥
    by (pos d) e = t.far_away d (let p = h.positive in omega (arith, ints), λ k p m home. near_done n carried done s d h e p (in_done k p (omega (arith, m, l)) home.0))
    by (negsuc d) e = let p = h.positive in omega (arith, ints)

-- ---- a vertex with another place

pub turned_same : (s t : Place) → IsTrue (same_place s t) → IsTrue (same_place t s)
turned_same s t h = let b = first_true _ _ h in both_true _ _ (equal_test (t.x *ℤ s.w) (s.x *ℤ t.w) (sym (equal_from_test (s.x *ℤ t.w) (t.x *ℤ s.w) b.0))) (equal_test (t.y *ℤ s.w) (s.y *ℤ t.w) (sym (equal_from_test (s.y *ℤ t.w) (t.y *ℤ s.w) b.1)))

pub torn_here : (n : ℕ) (carried : ℕ → ℕ → Place) (done rest : List (ℕ × ℕ)) (s : Placed) (f v : ℕ) (image : Image) → Stands n carried done s → ((g u : ℕ) → IsPlace (carried g u))
    → has_place s v ≡ true → IsImageHere s.scale (carried f v) image → (IsHere image (point_at s.points.items v) → ⊥) → IsTornAt (done ++ (f, v) ∷ rest) carried (length done) (f, v)
torn_here n carried done rest s f v image h places flag i not =
    let g = h.placed v flag in
    let first = first_of done g.0 v g.1 in
    let l = first.inside in
    let home = first.pair in
    record {
      there = get_middle done (f, v) rest;
      home = first.place;
      at_home = home;
      earlier = l;
      is_home = (
        get_front done ((f, v) ∷ rest) first.place l ∙ first.there,
        λ k q m e. λ d. first.first k q m (sym (get_front done ((f, v) ∷ rest) k (omega (arith, m, l))) ∙ e) (d ∙ first.is),
      );
      same_vertex = first.is;
      torn = by_test (same_place (carried home.0 home.1) (carried f v))
          (λ t. absurd (not (at_here s.scale (carried f v) image _ (places f v) i
          (at_same s.scale (carried f v) (carried home.0 home.1) _ (places home.0 home.1) (turned_same (carried home.0 home.1) (carried f v) t)
          (subst (λ u. IsAt s.scale (carried home.0 home.1) (point_at s.points.items u)) first.is (h.at home (get_member done first.place home first.there)))))))
          (λ t. t);
    }

-- ---- a vertex at which no scale fits

divides_ratio : (k z b m : ℤ) → z *ℤ b ≡ k *ℤ m → unsigned_abs k ∣ unsigned_abs z * unsigned_abs b
divides_ratio k z b m e = subst (λ n. unsigned_abs k ∣ n) (sym (unsigned_abs-mul k m) ∙ ap unsigned_abs (sym e) ∙ unsigned_abs-mul z b) (dvd-mul_right (unsigned_abs k) (unsigned_abs m))

-- a multiple of the scale has greater points
pub multiple_near : (k z a b : ℤ) → pos 0 <ℤ k → pos 0 <ℤ z → unsigned_abs k ∣ unsigned_abs z → z *ℤ a ≡ k *ℤ b → IsBelow POINT_SIZE b → IsBelow POINT_SIZE a
multiple_near k z a b hk hz d e n = below_factor POINT_SIZE m a m_pos (subst (IsBelow POINT_SIZE) (sym same) n) where
  m : ℤ
  m = pos (unsigned_abs z / unsigned_abs k)

  is : k *ℤ m ≡ z
  is = whole k z (unsigned_abs z / unsigned_abs k) hk hz (mul-div_cancel' (unsigned_abs k) d) where
    whole : (k z : ℤ) (c : ℕ) → pos 0 <ℤ k → pos 0 <ℤ z → unsigned_abs k * c ≡ unsigned_abs z → k *ℤ pos c ≡ z
    whole (pos i) (pos j) c f g q = omega (arith, ints, q)
    whole (pos i) (negsuc j) c f g q = absurd (omega (arith, ints))
    whole (negsuc i) z c f g q = absurd (omega (arith, ints))

  same : m *ℤ a ≡ b
  same = cancel_left k (m *ℤ a) b hk (solve (k ∷ m ∷ a ∷ []) (var 0 ⊗ (var 1 ⊗ var 2)) ((var 0 ⊗ var 1) ⊗ var 2) refl ∙ ap (λ t. t *ℤ a) is ∙ e)

  m_pos : pos 0 <ℤ m
  m_pos = positive (unsigned_abs z / unsigned_abs k) is where
    positive : (c : ℕ) → k *ℤ pos c ≡ z → pos 0 <ℤ pos c
    positive zero q = absurd (let w = *ℤ-zero k in omega (arith, linear, q, w, hz))
    positive (suc c) q = omega (arith, ints)

pub far_here : (n : ℕ) (carried : ℕ → ℕ → Place) (done rest : List (ℕ × ℕ)) (s : Placed) (f v : ℕ) (image : Image) → Stands n carried done s → ((g u : ℕ) → IsPlace (carried g u))
    → has_place s v ≡ false → IsImageHere s.scale (carried f v) image → IsTooFar image s → IsTooFarAt (done ++ (f, v) ∷ rest) carried (length done) (f, v)
far_here n carried done rest s f v image h places flag i t = record { is_home = home_here; far_away = far_away } where
  all : List (ℕ × ℕ)
  all = done ++ (f, v) ∷ rest

  place : Place
  place = t.place

  low : IsReduced image.x image.y image.n t.place
  low = t.lowest

  d : ℤ
  d = place.w *ℤ s.scale

  d_pos : pos 0 <ℤ d
  d_pos = pos-mul place.w s.scale low.positive h.positive

  home_here : IsHome all (length done) (f, v)
  home_here = (get_middle done (f, v) rest, λ k q m e z. false≢true (sym flag ∙ ap (has_place s) (sym z) ∙ h.there q (get_member done k q (sym (get_front done ((f, v) ∷ rest) k m) ∙ e))))

  far_away : (scale : ℕ) → FitsUpTo all carried (length done) scale → ⊥
  far_away scale (some, fits) = elim t.far [ inl far ↦ far near_v | inr far ↦ far.1 (near_u far.0) ] where
    z : ℤ
    z = pos scale

    z_pos : pos 0 <ℤ z
    z_pos = omega (arith, ints, some)

    -- the vertex, and any placed before, at the two scales
    here : IsNearAt scale (carried f v)
    here = fits (length done) (f, v) (omega arith) home_here

    ratio_v : (z *ℤ place.x ≡ d *ℤ here.0.x) × (z *ℤ place.y ≡ d *ℤ here.0.y)
    ratio_v = ratio_at d z (carried f v) (record { x = place.x; y = place.y }) here.0 (places f v) (lowest_at s.scale (carried f v) image place i low) (record { x = here.2; y = here.3 })

    placed : (u : ℕ) → has_place s u ≡ true → (q : Pt) × IsNear q × (z *ℤ (place.w *ℤ (point_at s.points.items u).x) ≡ d *ℤ q.x) × (z *ℤ (place.w *ℤ (point_at s.points.items u).y) ≡ d *ℤ q.y)
    placed u e =
        let g = h.placed u e in
        let first = first_of done g.0 u g.1 in
        let l = first.inside in
        let p = first.pair in
        let c = get_member done first.place p first.there in
        let near = fits first.place p (omega (arith, l)) (
          get_front done ((f, v) ∷ rest) first.place l ∙ first.there,
          λ k q m x y. first.first k q m (sym (get_front done ((f, v) ∷ rest) k (omega (arith, m, l))) ∙ x) (y ∙ first.is),
        ) in
        let at = subst (λ w. IsAt s.scale (carried p.0 p.1) (point_at s.points.items w)) first.is (h.at p c) in
        let r = ratio_at d z (carried p.0 p.1) (scaled place.w (point_at s.points.items u)) near.0 (places p.0 p.1) (grown_at s.scale place.w (carried p.0 p.1) (point_at s.points.items u) at) (record { x = near.2; y = near.3 }) in
        (near.0, near.1, r.0, r.1)

    sizes : unsigned_abs d ≡ unsigned_abs place.w * unsigned_abs s.scale
    sizes = unsigned_abs-mul place.w s.scale

    zeros : (a b c : ℕ) → a * 0 ≡ b * (c * 0)
    zeros a b c = omega arith

    both : ℕ
    both = unsigned_abs place.w * unsigned_abs s.scale

    to_both : (a : ℕ) → unsigned_abs d ∣ a → both ∣ a
    to_both a e = subst (λ k. k ∣ a) sizes e

    old : (u : ℕ) → (both ∣ scale * (unsigned_abs place.w * unsigned_abs (point_at s.points.items u).x)) × (both ∣ scale * (unsigned_abs place.w * unsigned_abs (point_at s.points.items u).y))
    old u = by_test (has_place s u)
        (λ e. let p = placed u e in (
          subst (λ k. both ∣ scale * k) (unsigned_abs-mul place.w (point_at s.points.items u).x) (to_both _ (divides_ratio d z (place.w *ℤ (point_at s.points.items u).x) p.0.x p.2)),
          subst (λ k. both ∣ scale * k) (unsigned_abs-mul place.w (point_at s.points.items u).y) (to_both _ (divides_ratio d z (place.w *ℤ (point_at s.points.items u).y) p.0.y p.3)),
        ))
        (λ e. let o = h.empty u e in
        let n = subst (λ k. both ∣ k) (zeros both scale (unsigned_abs place.w)) (dvd-mul_right both 0) in
        (subst (λ (q : Pt). both ∣ scale * (unsigned_abs place.w * unsigned_abs q.x)) (sym o) n, subst (λ (q : Pt). both ∣ scale * (unsigned_abs place.w * unsigned_abs q.y)) (sym o) n))

    whole : unsigned_abs d ∣ unsigned_abs z
    whole = subst (λ k. k ∣ scale) (sym sizes)
        (factor_grows (λ u. unsigned_abs (point_at s.points.items u).x) (λ u. unsigned_abs (point_at s.points.items u).y) (unsigned_abs s.scale) (unsigned_abs place.w) (unsigned_abs place.x) (unsigned_abs place.y)
        (let p = h.positive in omega (arith, ints)) (let p = low.positive in omega (arith, ints)) low.lowest h.least scale old
        (to_both _ (divides_ratio d z place.x here.0.x ratio_v.0)) (to_both _ (divides_ratio d z place.y here.0.y ratio_v.1)))

    near_v : IsNear (record { x = place.x; y = place.y })
    near_v = let k = here.1 in record { x_below = multiple_near d z place.x here.0.x d_pos z_pos whole ratio_v.0 k.x_below; y_below = multiple_near d z place.y here.0.y d_pos z_pos whole ratio_v.1 k.y_below }

    near_u : (u : ℕ) → IsNear (scaled place.w (point_at s.points.items u))
    near_u u = by_test (has_place s u)
        (λ e. let p = placed u e in let k = p.1 in
        record { x_below = multiple_near d z _ p.0.x d_pos z_pos whole p.2 k.x_below; y_below = multiple_near d z _ p.0.y d_pos z_pos whole p.3 k.y_below })
        (λ e. subst IsNear (sym (ap (scaled place.w) (h.empty u e) ∙ (let w = *ℤ-zero place.w in λ i. record { x = w i; y = w i }))) near_origin)
