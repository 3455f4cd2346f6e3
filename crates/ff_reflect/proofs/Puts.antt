-- Points that grow one after the other, and one point more.
use Rattle.std.proofs.Common.{◌≡◌, ◌∙◌, ℕ, ◌+◌, ◌<◌, ◌≤◌, List, length, true, arith, sym, ap, subst, slice_set, ℤ, pos, ◌*ℤ◌, to_z, of_z}
use Rattle.std.proofs.Common.{Vec, Global, vec_len}
use lib.IntN.{*ℤ-zero, *ℤ_comm}
use native.Mathlib.Nat.{eq-one_of_dvd-one}
use mir.Syntax.{w128}
use Rattle.std.proofs.lemmas.Int.{ints}
use Rattle.std.proofs.lemmas.List.{length-set, get_or-set_same, get_or-set_other}
use Rattle.ff_whole.specs.declared.points.Pt.{Pt}
use Rattle.ff_whole.specs.Points.{origin, IsNear}
use Rattle.ff_whole.specs.Convex.{point_at}
use Rattle.ff_types.specs.Foldings.{scaled}
use Rattle.ff_whole.specs.declared.places.Place.{Place}
use Rattle.ff_whole.specs.Sizes.{IsBelow}
use Rattle.ff_whole.specs.Meeting.{IsReduced}
use Rattle.ff_whole.proofs.Bounds.{read, below_factor}
use Rattle.ff_whole.proofs.Laws.{one-*ℤ}
use Rattle.ff_reflect.specs.declared.image.Image.{Image}
use Rattle.ff_reflect.specs.declared.placed.Placed.{Placed}
use Rattle.ff_reflect.specs.declared.sizes.TheConstants.{LENGTH_SIZE, IMAGE_SIZE}
use Rattle.ff_reflect.specs.Puts.{IsFit, IsNearPoint, AreNearPoints, IsGrown, IsAdded}
use Rattle.ff_reflect.proofs.Cases.{by_same}

-- the points before n have grown
pub record IsGrownTo (factor : ℤ) (old new : List Pt) (n : ℕ) : Type 0 where
  pub as_many : length new ≡ length old
  pub grown : (u : ℕ) → u < n → point_at new u ≡ scaled factor (point_at old u)
  pub rest : (u : ℕ) → n ≤ u → point_at new u ≡ point_at old u
  pub near : AreNearPoints new

pub grown_more : (factor : ℤ) (old new : List Pt) (n : ℕ) (p : Pt) → IsGrownTo factor old new n → n < length new → IsNearPoint (factor *ℤ (point_at new n).x) (factor *ℤ (point_at new n).y) p
    → IsGrownTo factor old (slice_set new n p) (n + 1)
grown_more factor old new n p h l q = record {
  as_many = length-set new n p ∙ h.as_many;
  grown = λ u k. by_same u n
      (λ e. subst (λ i. point_at (slice_set new n p) i ≡ scaled factor (point_at old i)) (sym e) (here ∙ q.is ∙ ap (scaled factor) (h.rest n (omega arith))))
      (λ d. get_or-set_other new n u p origin d ∙ h.grown u (omega (arith, k, d)));
  rest = λ u k. get_or-set_other new n u p origin (λ e. omega (arith, e, k)) ∙ h.rest u (omega (arith, k));
  near = λ u. by_same u n (λ e. subst (λ i. IsNear (point_at (slice_set new n p) i)) (sym e) (subst IsNear (sym here) q.near))
      (λ d. subst IsNear (sym (get_or-set_other new n u p origin d)) (h.near u));
}
  where
    here : point_at (slice_set new n p) n ≡ p
    here = get_or-set_same new n p origin l

-- ---- an image in lowest terms

-- with numbers that fit
pub record IsLow (image : Image) (place : Place) : Type 0 where
  pub lowest : IsReduced image.x image.y image.n place
  pub x_below : IsBelow IMAGE_SIZE place.x
  pub y_below : IsBelow IMAGE_SIZE place.y
  pub w_below : IsBelow LENGTH_SIZE place.w

pub low_of : (image : Image) (place : Place) → IsFit image → IsReduced image.x image.y image.n place → IsLow image place
low_of image place fit l = record {
  lowest = l;
  x_below = below_factor IMAGE_SIZE l.by place.x l.by_positive (subst (IsBelow IMAGE_SIZE) l.x_is fit.x_below);
  y_below = below_factor IMAGE_SIZE l.by place.y l.by_positive (subst (IsBelow IMAGE_SIZE) l.y_is fit.y_below);
  w_below = below_factor LENGTH_SIZE l.by place.w l.by_positive (subst (IsBelow LENGTH_SIZE) l.w_is fit.n_below);
}

-- the numbers as the code reads them
pub low_read : (image : Image) (x y n : ℤ) (place : Place) → x ≡ image.x → y ≡ image.y → n ≡ image.n → IsReduced x y n place → IsReduced image.x image.y image.n place
low_read image x y n place ex ey en r = subst (λ z. IsReduced image.x image.y z place) en (subst (λ z. IsReduced image.x z n place) ey (subst (λ z. IsReduced z y n place) ex r))

-- an image that is whole is in lowest terms already
pub low_whole : (image : Image) (x y n p q : ℤ) → IsFit image → x ≡ image.x → y ≡ image.y → n ≡ image.n → x ≡ n *ℤ p → y ≡ n *ℤ q
    → IsReduced image.x image.y image.n (record { x = to_z w128 (of_z w128 p); y = to_z w128 (of_z w128 q); w = pos 1 })
low_whole image x y n p q fit ex ey en ep eq = record {
  by = image.n;
  by_positive = fit.positive;
  x_is = is x image.x p fit.x_below ex ep;
  y_is = is y image.y q fit.y_below ey eq;
  w_is = sym (*ℤ_comm image.n (pos 1) ∙ one-*ℤ image.n);
  positive = omega (arith, ints);
  lowest = λ d a b e. eq-one_of_dvd-one e;
}
  where
    is : (x z p : ℤ) → IsBelow IMAGE_SIZE z → x ≡ z → x ≡ n *ℤ p → z ≡ image.n *ℤ to_z w128 (of_z w128 p)
    is x z p below e f =
        let times : z ≡ image.n *ℤ p = sym e ∙ f ∙ ap (λ k. k *ℤ p) en in
        times ∙ ap (λ k. image.n *ℤ k) (sym (read w128 (below_factor IMAGE_SIZE image.n p fit.positive (subst (IsBelow IMAGE_SIZE) times below)) tt).is)

-- ---- one point more

pub added : (v : ℕ) (image : Image) (place : Place) (old new : Placed) (points : List Pt) (p : Pt) → IsReduced image.x image.y image.n place
    → IsGrown place.w old.points.items points → v < length points → IsNearPoint place.x place.y p → new.scale ≡ place.w *ℤ old.scale → new.points.items ≡ slice_set points v p
    → new.placed.items ≡ slice_set old.placed.items v true → IsAdded v image old new
added v image place old new points p l g h q scale is placed = record {
  place = place;
  lowest = l;
  scale = scale;
  as_many = ap length is ∙ length-set points v p ∙ g.as_many;
  here = ap (λ ps. point_at ps v) is ∙ here ∙ q.is;
  others = λ u d. ap (λ ps. point_at ps u) is ∙ get_or-set_other points v u p origin d ∙ g.all u;
  near = λ u. subst (λ ps. IsNear (point_at ps u)) (sym is) (by_same u v
      (λ e. subst (λ i. IsNear (point_at (slice_set points v p) i)) (sym e) (subst IsNear (sym here) q.near))
      (λ d. subst IsNear (sym (get_or-set_other points v u p origin d)) (g.near u)));
  placed = placed;
}
  where
    here : point_at (slice_set points v p) v ≡ p
    here = get_or-set_same points v p origin h

pub still_there : (factor : ℤ) (old new : Vec Pt Global) (i n : ℕ) → IsGrownTo factor old.items new.items i → n ≡ vec_len old → i < n → i < length new.items
still_there factor old new i n h e l = let k = old.ok.0 in let m = h.as_many in omega (arith, k, m, e, l)
