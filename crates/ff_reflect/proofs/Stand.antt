-- One placing more: what stands then.
use Rattle.std.proofs.Common.{◌≡◌, ◌≢◌, ◌∙◌, ℕ, ◌*◌, ◌<◌, inl, inr, List, [], ◌∷◌, ◌++◌, length, true, false, arith, refl, sym, ap, subst, slice_index_or, ℤ, pos, ◌*ℤ◌, ◌<ℤ◌, unsigned_abs}
use Prim.Native.Nat.{◌∣◌}
use lib.IntN.{*ℤ_comm, *ℤ-zero}
use Rattle.std.proofs.lemmas.Int.{ints, unsigned_abs-mul}
use Rattle.std.proofs.lemmas.Bool.{false≢true}
use Rattle.std.proofs.lemmas.List.{length-set, get_or-set_same, get_or-set_other}
use Rattle.std.proofs.lemmas.List.Elements.{Contains-append_left, Contains-push, Contains-push_cases}
use Rattle.std.proofs.Math.Nat.{dvd-mul_right}
use Rattle.std.specs.List.{Contains}
use Rattle.ff_whole.specs.declared.points.Pt.{Pt}
use Rattle.ff_whole.specs.declared.places.Place.{Place}
use Rattle.ff_whole.specs.declared.sizes.TheConstants.{SLOPE_SIZE}
use Rattle.ff_whole.specs.Sizes.{IsBelow}
use Rattle.ff_whole.specs.Points.{origin, IsNear}
use Rattle.ff_whole.specs.Places.{IsPlace}
use Rattle.ff_whole.specs.Convex.{point_at}
use Rattle.ff_whole.specs.Meeting.{IsReduced}
use Rattle.ff_whole.proofs.Signs.{pos-mul, cancel_left}
use Rattle.ff_whole.proofs.Ring.{var, ◌⊗◌, solve}
use Rattle.ff_types.specs.Foldings.{scaled}
use Rattle.ff_reflect.specs.declared.image.Image.{Image}
use Rattle.ff_reflect.specs.declared.placed.Placed.{Placed}
use Rattle.ff_reflect.specs.Images.{IsAt}
use Rattle.ff_reflect.specs.Puts.{IsHere, IsAdded, IsSame, has_place}
use Rattle.ff_reflect.specs.Standing.{IsLeast, Stands}
use Rattle.ff_reflect.proofs.Cases.{by_same}
use Rattle.ff_reflect.proofs.Shapes.{scaled-at}
use Rattle.ff_reflect.proofs.Growth.{factor_grows}

-- ---- numbers

-- the image is the place, times the scale
pub record IsImageHere (scale : ℤ) (w : Place) (image : Image) : Type 0 where
  pub x : image.n *ℤ (scale *ℤ w.x) ≡ w.w *ℤ image.x
  pub y : image.n *ℤ (scale *ℤ w.y) ≡ w.w *ℤ image.y

-- a whole point that is the image is the place's
pub here_at : (scale : ℤ) (w : Place) (image : Image) (p : Pt) → pos 0 <ℤ image.n → IsImageHere scale w image → IsHere image p → IsAt scale w p
here_at scale w image p h i e = record { x = go w.x p.x image.x i.x e.x; y = go w.y p.y image.y i.y e.y } where
  go : (x c z : ℤ) → image.n *ℤ (scale *ℤ x) ≡ w.w *ℤ z → image.n *ℤ c ≡ z → scale *ℤ x ≡ w.w *ℤ c
  go x c z f g = cancel_left image.n (scale *ℤ x) (w.w *ℤ c) h (f ∙ ap (λ k. w.w *ℤ k) (sym g) ∙ solve (w.w ∷ image.n ∷ c ∷ []) (var 0 ⊗ (var 1 ⊗ var 2)) (var 1 ⊗ (var 0 ⊗ var 2)) refl)

pub at_here : (scale : ℤ) (w : Place) (image : Image) (p : Pt) → IsPlace w → IsImageHere scale w image → IsAt scale w p → IsHere image p
at_here scale w image p h i e = record { x = go w.x p.x image.x i.x e.x; y = go w.y p.y image.y i.y e.y } where
  go : (x c z : ℤ) → image.n *ℤ (scale *ℤ x) ≡ w.w *ℤ z → scale *ℤ x ≡ w.w *ℤ c → image.n *ℤ c ≡ z
  go x c z f g = cancel_left w.w (image.n *ℤ c) z h (solve (w.w ∷ image.n ∷ c ∷ []) (var 0 ⊗ (var 1 ⊗ var 2)) (var 1 ⊗ (var 0 ⊗ var 2)) refl ∙ ap (λ k. image.n *ℤ k) (sym g) ∙ f)

-- in lowest terms the image is the place at the grown scale
pub lowest_at : (scale : ℤ) (w : Place) (image : Image) (place : Place) → IsImageHere scale w image → IsReduced image.x image.y image.n place
    → IsAt (place.w *ℤ scale) w (record { x = place.x; y = place.y })
lowest_at scale w image place i r = record { x = go w.x place.x image.x i.x r.x_is; y = go w.y place.y image.y i.y r.y_is } where
  go : (x c z : ℤ) → image.n *ℤ (scale *ℤ x) ≡ w.w *ℤ z → z ≡ r.by *ℤ c → (place.w *ℤ scale) *ℤ x ≡ w.w *ℤ c
  go x c z f g = cancel_left r.by _ _ r.by_positive
      (solve (r.by ∷ place.w ∷ scale ∷ x ∷ []) (var 0 ⊗ ((var 1 ⊗ var 2) ⊗ var 3)) ((var 0 ⊗ var 1) ⊗ (var 2 ⊗ var 3)) refl
      ∙ ap (λ k. k *ℤ (scale *ℤ x)) (sym r.w_is) ∙ f ∙ ap (λ k. w.w *ℤ k) g ∙ solve (w.w ∷ r.by ∷ c ∷ []) (var 0 ⊗ (var 1 ⊗ var 2)) (var 1 ⊗ (var 0 ⊗ var 2)) refl)

-- points that grow are at the grown scale
pub grown_at : (scale k : ℤ) (s : Place) (p : Pt) → IsAt scale s p → IsAt (k *ℤ scale) s (scaled k p)
grown_at scale k s p e = subst (λ d. IsAt d s (scaled k p)) (*ℤ_comm scale k) (scaled-at scale k s p e)

-- ---- the least scale

-- points without the one at v, which is at the origin, times k, and one more there
pub least_grows : (scale : ℤ) (points new : List Pt) (v : ℕ) (place : Place) (x y n : ℤ) → pos 0 <ℤ scale → IsLeast scale points → IsReduced x y n place
    → point_at points v ≡ origin → point_at new v ≡ record { x = place.x; y = place.y } → ((u : ℕ) → u ≢ v → point_at new u ≡ scaled place.w (point_at points u))
    → IsLeast (place.w *ℤ scale) new
least_grows scale points new v place x y n h least r empty here others t all =
    subst (λ d. d ∣ t) (sym (unsigned_abs-mul place.w scale))
    (factor_grows (λ u. unsigned_abs (point_at points u).x) (λ u. unsigned_abs (point_at points u).y) (unsigned_abs scale) (unsigned_abs place.w) (unsigned_abs place.x) (unsigned_abs place.y)
    (omega (arith, ints)) (let w = r.positive in omega (arith, ints)) r.lowest least t (λ u. (old_x u, old_y u))
    (subst (λ (p : Pt). d ∣ t * unsigned_abs p.x) here (turn _ (all v).0)) (subst (λ (p : Pt). d ∣ t * unsigned_abs p.y) here (turn _ (all v).1)))
  where
    d : ℕ
    d = unsigned_abs place.w * unsigned_abs scale

    turn : (z : ℕ) → unsigned_abs (place.w *ℤ scale) ∣ z → d ∣ z
    turn z e = subst (λ k. k ∣ z) (unsigned_abs-mul place.w scale) e

    none : d ∣ t * (unsigned_abs place.w * 0)
    none = subst (λ k. d ∣ k) (let e : d * 0 ≡ t * (unsigned_abs place.w * 0) = zeros d t (unsigned_abs place.w) in e) (dvd-mul_right d 0) where
      zeros : (a b c : ℕ) → a * 0 ≡ b * (c * 0)
      zeros a b c = omega arith

    old_x : (u : ℕ) → d ∣ t * (unsigned_abs place.w * unsigned_abs (point_at points u).x)
    old_x u = by_same u v
        (λ e. subst (λ (p : Pt). d ∣ t * (unsigned_abs place.w * unsigned_abs p.x)) (sym (ap (point_at points) e ∙ empty)) none)
        (λ f. subst (λ k. d ∣ t * k) (ap (λ (p : Pt). unsigned_abs p.x) (others u f) ∙ unsigned_abs-mul place.w (point_at points u).x) (turn _ (all u).0))

    old_y : (u : ℕ) → d ∣ t * (unsigned_abs place.w * unsigned_abs (point_at points u).y)
    old_y u = by_same u v
        (λ e. subst (λ (p : Pt). d ∣ t * (unsigned_abs place.w * unsigned_abs p.y)) (sym (ap (point_at points) e ∙ empty)) none)
        (λ f. subst (λ k. d ∣ t * k) (ap (λ (p : Pt). unsigned_abs p.y) (others u f) ∙ unsigned_abs-mul place.w (point_at points u).y) (turn _ (all u).1))

-- ---- one placing more

-- the vertex had a place
pub stands_same : (n : ℕ) (carried : ℕ → ℕ → Place) (done : List (ℕ × ℕ)) (old new : Placed) (f v : ℕ) → Stands n carried done old → IsSame old new
    → has_place old v ≡ true → IsAt old.scale (carried f v) (point_at old.points.items v) → Stands n carried (done ++ (f, v) ∷ []) new
stands_same n carried done old new f v s same flag at = record {
  positive = subst (λ d. pos 0 <ℤ d) (sym same.scale) s.positive;
  small = subst (IsBelow SLOPE_SIZE) (sym same.scale) s.small;
  as_many = ap length same.points ∙ s.as_many;
  as_many_flags = ap length same.placed ∙ s.as_many_flags;
  near = λ u. subst (λ ps. IsNear (point_at ps u)) (sym same.points) (s.near u);
  at = λ p c. subst (λ d. IsAt d (carried p.0 p.1) (point_at new.points.items p.1)) (sym same.scale) (subst (λ ps. IsAt old.scale (carried p.0 p.1) (point_at ps p.1)) (sym same.points)
      (elim (Contains-push_cases done (f, v) p c) [ inl k ↦ s.at p k | inr e ↦ subst (λ (q : ℕ × ℕ). IsAt old.scale (carried q.0 q.1) (point_at old.points.items q.1)) e at ]));
  placed = λ u e. let r = s.placed u (sym (flag_same u) ∙ e) in (r.0, Contains-append_left done ((f, v) ∷ []) (r.0, u) r.1);
  there = λ p c. flag_same p.1 ∙ elim (Contains-push_cases done (f, v) p c) [ inl k ↦ s.there p k | inr e ↦ ap (λ (q : ℕ × ℕ). has_place old q.1) (sym e) ∙ flag ];
  empty = λ u e. ap (λ ps. point_at ps u) same.points ∙ s.empty u (sym (flag_same u) ∙ e);
  least = subst (λ d. IsLeast d new.points.items) (sym same.scale) (subst (IsLeast old.scale) (sym same.points) s.least);
}
  where
    flag_same : (u : ℕ) → has_place new u ≡ has_place old u
    flag_same u = ap (λ fs. slice_index_or fs u false) same.placed

-- the vertex had none
pub stands_added : (n : ℕ) (carried : ℕ → ℕ → Place) (done : List (ℕ × ℕ)) (old new : Placed) (f v : ℕ) (image : Image) → Stands n carried done old → IsAdded v image old new
    → has_place old v ≡ false → v < n → IsImageHere old.scale (carried f v) image → IsBelow SLOPE_SIZE new.scale → Stands n carried (done ++ (f, v) ∷ []) new
stands_added n carried done old new f v image s a flag l i small = record {
  positive = subst (λ d. pos 0 <ℤ d) (sym a.scale) (pos-mul place.w old.scale low.positive s.positive);
  small = small;
  as_many = a.as_many ∙ s.as_many;
  as_many_flags = ap length a.placed ∙ length-set old.placed.items v true ∙ s.as_many_flags;
  near = a.near;
  at = λ p c. subst (λ d. IsAt d (carried p.0 p.1) (point_at new.points.items p.1)) (sym a.scale) (elim (Contains-push_cases done (f, v) p c) [
    | inl k ↦ subst (IsAt (place.w *ℤ old.scale) (carried p.0 p.1)) (sym (a.others p.1 (differs p k))) (grown_at old.scale place.w (carried p.0 p.1) (point_at old.points.items p.1) (s.at p k))
    | inr e ↦ subst (λ (q : ℕ × ℕ). IsAt (place.w *ℤ old.scale) (carried q.0 q.1) (point_at new.points.items q.1)) e
        (subst (IsAt (place.w *ℤ old.scale) (carried f v)) (sym a.here) (lowest_at old.scale (carried f v) image place i low))
  ]);
  placed = λ u e. by_same u v (λ q. (f, subst (λ k. Contains (done ++ (f, v) ∷ []) (f, k)) (sym q) (Contains-push done (f, v))))
      (λ d. let r = s.placed u (sym (other u d) ∙ e) in (r.0, Contains-append_left done ((f, v) ∷ []) (r.0, u) r.1));
  there = λ p c. elim (Contains-push_cases done (f, v) p c) [ inl k ↦ other p.1 (differs p k) ∙ s.there p k | inr e ↦ ap (λ (q : ℕ × ℕ). has_place new q.1) (sym e) ∙ here ];
  empty = λ u e. by_same u v (λ q. absurd (false≢true (sym e ∙ ap (has_place new) q ∙ here)))
      (λ d. a.others u d ∙ ap (scaled place.w) (s.empty u (sym (other u d) ∙ e)) ∙ (let z = *ℤ-zero place.w in λ i. record { x = z i; y = z i }));
  least = subst (λ d. IsLeast d new.points.items) (sym a.scale) (least_grows old.scale old.points.items new.points.items v place _ _ _ s.positive s.least low (s.empty v flag) a.here a.others);
}
  where
    place : Place
    place = a.place

    low : IsReduced image.x image.y image.n a.place
    low = a.lowest

    other : (u : ℕ) → u ≢ v → has_place new u ≡ has_place old u
    other u d = ap (λ fs. slice_index_or fs u false) a.placed ∙ get_or-set_other old.placed.items v u true false d

    here : has_place new v ≡ true
    here = ap (λ fs. slice_index_or fs v false) a.placed ∙ get_or-set_same old.placed.items v true false (subst (λ k. v < k) (sym s.as_many_flags) l)

    differs : (p : ℕ × ℕ) → Contains done p → p.1 ≢ v
    differs p k e = false≢true (sym flag ∙ ap (has_place old) (sym e) ∙ s.there p k)
