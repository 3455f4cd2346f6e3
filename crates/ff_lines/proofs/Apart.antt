-- Lines that lie apart or square, and two lines the other way round.
use Rattle.std.proofs.Common.{◌≡◌, inl, inr, subst, arith, refl, sym, ap, ◌∙◌, false, [], ◌∷◌, Bool, ◌&&◌, IsTrue, ℤ, pos, ◌+ℤ◌, ◌-ℤ◌, ◌*ℤ◌, ◌<ℤ◌, ◌≤ℤ◌}
use lib.IntN.{*ℤ_comm}
use lib.Signed.{lt_z}
use Rattle.std.proofs.lemmas.Int.{ints}
use Rattle.std.specs.Ordering.{int_eq}
use Rattle.std.proofs.lemmas.Bool.{and_parts, false≢true}
use Rattle.std.proofs.lemmas.Bool.Decides.{Decides-int_eq}
use Rattle.ff_whole.proofs.Signs.{linear, le-mul_left, le_from_mul, pos-mul}
use Rattle.ff_whole.proofs.Ring.{var, ◌⊕◌, ◌⊖◌, ◌⊗◌, solve}
use Rattle.ff_whole.proofs.Offsets.{past-sum}
use Rattle.ff_whole.proofs.OnEdges.{on-x, on-y}
use Rattle.ff_whole.proofs.Images.{distance_positive}
use Rattle.ff_whole.proofs.SharedPlaces.{SamePlace}
use Rattle.ff_whole.proofs.Turns.{height-through}
use Rattle.ff_whole.specs.declared.points.Pt.{Pt}
use Rattle.ff_whole.specs.declared.places.Place.{Place}
use Rattle.ff_whole.specs.Points.{dot, minus, turn}
use Rattle.ff_whole.specs.Places.{past, place_of, same_place, slant, through}
use Rattle.ff_lines.specs.declared.items.LineItem.{LineItem}
use Rattle.ff_lines.specs.Lines.{AreOverlapping, IsCommon, IsEndAt, IsOnLine, IsOnlyCommon, IsProper}
use Rattle.ff_lines.specs.Meetings.{ArePlain, HaveCommonEnd, IsEnd, MeetInWhole}
use Rattle.ff_lines.proofs.Astride.{slant-fall}
use Rattle.ff_lines.proofs.Letters.{first_on, last_on}
use Rattle.ff_lines.proofs.Nearness.{to_on}
use Rattle.ff_lines.proofs.Sharing.{back_same, same_from, through_same, to_same, whole_place}
use Rattle.ff_lines.proofs.TwoLines.{slant-flip}

-- ---- lines that lie apart

-- a place on the way between two points isn't beyond a bound of both
most : (d w a b x p q m : ℤ) → pos 0 <ℤ d → pos 0 ≤ℤ a → pos 0 ≤ℤ b → a +ℤ b ≡ d *ℤ w → d *ℤ x ≡ a *ℤ q +ℤ b *ℤ p → p ≤ℤ m → q ≤ℤ m → x ≤ℤ (w *ℤ m)
most d w a b x p q m long f g sum e h k =
    let u = le-mul_left a q m f k in
    let v = le-mul_left b p m g h in
    let c : (a +ℤ b) *ℤ m ≡ a *ℤ m +ℤ b *ℤ m = solve (a ∷ b ∷ m ∷ []) ((var 0 ⊕ var 1) ⊗ var 2) (var 0 ⊗ var 2 ⊕ var 1 ⊗ var 2) refl in
    let t : (a +ℤ b) *ℤ m ≡ (d *ℤ w) *ℤ m = ap (λ z. z *ℤ m) sum in
    let r : (d *ℤ w) *ℤ m ≡ d *ℤ (w *ℤ m) = solve (d ∷ w ∷ m ∷ []) ((var 0 ⊗ var 1) ⊗ var 2) (var 0 ⊗ (var 1 ⊗ var 2)) refl in
    le_from_mul d x (w *ℤ m) long (omega (arith, linear))

least : (d w a b x p q m : ℤ) → pos 0 <ℤ d → pos 0 ≤ℤ a → pos 0 ≤ℤ b → a +ℤ b ≡ d *ℤ w → d *ℤ x ≡ a *ℤ q +ℤ b *ℤ p → m ≤ℤ p → m ≤ℤ q → (w *ℤ m) ≤ℤ x
least d w a b x p q m long f g sum e h k =
    let u = le-mul_left a m q f k in
    let v = le-mul_left b m p g h in
    let c : (a +ℤ b) *ℤ m ≡ a *ℤ m +ℤ b *ℤ m = solve (a ∷ b ∷ m ∷ []) ((var 0 ⊕ var 1) ⊗ var 2) (var 0 ⊗ var 2 ⊕ var 1 ⊗ var 2) refl in
    let t : (a +ℤ b) *ℤ m ≡ (d *ℤ w) *ℤ m = ap (λ z. z *ℤ m) sum in
    let r : (d *ℤ w) *ℤ m ≡ d *ℤ (w *ℤ m) = solve (d ∷ w ∷ m ∷ []) ((var 0 ⊗ var 1) ⊗ var 2) (var 0 ⊗ (var 1 ⊗ var 2)) refl in
    le_from_mul d (w *ℤ m) x long (omega (arith, linear))

-- no number is up to one bound and from a greater one on
between : (w x e v : ℤ) → pos 0 <ℤ w → x ≤ℤ (w *ℤ e) → (w *ℤ v) ≤ℤ x → e <ℤ v → ⊥
between w x e v long f g less =
    let m = pos-mul w (v -ℤ e) long (omega (arith, linear)) in
    let c : w *ℤ (v -ℤ e) ≡ w *ℤ v -ℤ w *ℤ e = solve (w ∷ v ∷ e ∷ []) (var 0 ⊗ (var 1 ⊖ var 2)) (var 0 ⊗ var 1 ⊖ var 0 ⊗ var 2) refl in
    omega (arith, linear)

module _ (k l : LineItem) (k_proper : IsProper k) (l_proper : IsProper l) (e v : ℤ) (less : e <ℤ v) where
  long : (m : LineItem) → IsProper m → pos 0 <ℤ dot (minus m.q m.p) (minus m.q m.p)
  long m h = distance_positive m.p m.q h.apart

  pub apart_in_x : k.p.x ≤ℤ e → k.q.x ≤ℤ e → v ≤ℤ l.p.x → v ≤ℤ l.q.x → (s : Place) → IsCommon k l s → ⊥
  apart_in_x a b c d s h = between s.w s.x e v h.place
      (most (dot (minus k.q k.p) (minus k.q k.p)) s.w (past k.p k.q s) (past k.q k.p s) s.x k.p.x k.q.x e (long k k_proper) h.first.after h.first.before (past-sum k.p k.q s) (on-x k.p k.q s (to_on k.p k.q s h.first)) a b)
      (least (dot (minus l.q l.p) (minus l.q l.p)) s.w (past l.p l.q s) (past l.q l.p s) s.x l.p.x l.q.x v (long l l_proper) h.second.after h.second.before (past-sum l.p l.q s) (on-x l.p l.q s (to_on l.p l.q s h.second)) c d)
      less

  pub apart_in_y : k.p.y ≤ℤ e → k.q.y ≤ℤ e → v ≤ℤ l.p.y → v ≤ℤ l.q.y → (s : Place) → IsCommon k l s → ⊥
  apart_in_y a b c d s h = between s.w s.y e v h.place
      (most (dot (minus k.q k.p) (minus k.q k.p)) s.w (past k.p k.q s) (past k.q k.p s) s.y k.p.y k.q.y e (long k k_proper) h.first.after h.first.before (past-sum k.p k.q s) (on-y k.p k.q s (to_on k.p k.q s h.first)) a b)
      (least (dot (minus l.q l.p) (minus l.q l.p)) s.w (past l.p l.q s) (past l.q l.p s) s.y l.p.y l.q.y v (long l l_proper) h.second.after h.second.before (past-sum l.p l.q s) (on-y l.p l.q s (to_on l.p l.q s h.second)) c d)
      less

-- what a comparison of two numbers tells
pub less_of : (a b w x : ℤ) → w ≡ a → x ≡ b → IsTrue (lt_z w x) → a <ℤ b
less_of a b w x e f t = omega (arith, ints)

-- ---- the other way round

pub swap_common : (k l : LineItem) (s : Place) → IsCommon k l s → IsCommon l k s
swap_common k l s h = record { place = h.place; first = h.second; second = h.first }

pub swap_only : (k l : LineItem) (s : Place) → IsOnlyCommon k l s → IsOnlyCommon l k s
swap_only k l s h = record { is = swap_common k l s h.is; only = λ t c. h.only t (swap_common l k t c) }

pub swap_overlap : (k l : LineItem) → AreOverlapping k l → AreOverlapping l k
swap_overlap k l h = (
  record { s = h.0.s; t = h.0.t; differ = h.0.differ; first = swap_common k l h.0.s h.0.first; second = swap_common k l h.0.t h.0.second },
  λ e. h.1 (sym e),
)

pub swap_whole : (k l : LineItem) → MeetInWhole l k → MeetInWhole k l
swap_whole k l h = record { whole = λ s o. h.whole s (swap_only k l s o); letters = λ o. h.letters (swap_overlap k l o) }

-- ---- lines at right angles, one upright

same_number : (x w m : ℤ) → x ≤ℤ (w *ℤ m) → (w *ℤ m) ≤ℤ x → m *ℤ w ≡ x *ℤ pos 1
same_number x w m f g =
    let c = *ℤ_comm m w in
    let e : m *ℤ w ≡ x = omega (arith, linear) in
    let o : x *ℤ pos 1 ≡ x = omega (arith, ints) in e ∙ sym o

module _ (k l : LineItem) (k_proper : IsProper k) (l_proper : IsProper l) (upright : k.p.x ≡ k.q.x) (across : l.p.y ≡ l.q.y) where
  spot : (s : Place) → IsCommon k l s → IsTrue (same_place (place_of (record { x = k.p.x; y = l.p.y })) s)
  spot s h =
      let e = upright in let f = across in
      same_from (place_of (record { x = k.p.x; y = l.p.y })) s (
        same_number s.x s.w k.p.x
            (most (dot (minus k.q k.p) (minus k.q k.p)) s.w (past k.p k.q s) (past k.q k.p s) s.x k.p.x k.q.x k.p.x (distance_positive k.p k.q k_proper.apart) h.first.after h.first.before (past-sum k.p k.q s) (on-x k.p k.q s (to_on k.p k.q s h.first)) (omega (arith, linear)) (omega (arith, linear)))
            (least (dot (minus k.q k.p) (minus k.q k.p)) s.w (past k.p k.q s) (past k.q k.p s) s.x k.p.x k.q.x k.p.x (distance_positive k.p k.q k_proper.apart) h.first.after h.first.before (past-sum k.p k.q s) (on-x k.p k.q s (to_on k.p k.q s h.first)) (omega (arith, linear)) (omega (arith, linear))),
        same_number s.y s.w l.p.y
            (most (dot (minus l.q l.p) (minus l.q l.p)) s.w (past l.p l.q s) (past l.q l.p s) s.y l.p.y l.q.y l.p.y (distance_positive l.p l.q l_proper.apart) h.second.after h.second.before (past-sum l.p l.q s) (on-y l.p l.q s (to_on l.p l.q s h.second)) (omega (arith, linear)) (omega (arith, linear)))
            (least (dot (minus l.q l.p) (minus l.q l.p)) s.w (past l.p l.q s) (past l.q l.p s) s.y l.p.y l.q.y l.p.y (distance_positive l.p l.q l_proper.apart) h.second.after h.second.before (past-sum l.p l.q s) (on-y l.p l.q s (to_on l.p l.q s h.second)) (omega (arith, linear)) (omega (arith, linear))),
      )

  pub square : MeetInWhole k l
  square = record {
    whole = λ s o. (record { x = k.p.x; y = l.p.y }, spot s o.is);
    letters = λ o. not_both (same_place o.0.s o.0.t) o.0.differ
        (same_from o.0.s o.0.t (through_same o.0.s (place_of (record { x = k.p.x; y = l.p.y })) o.0.t (whole_place (record { x = k.p.x; y = l.p.y })) (turned o.0.s o.0.first) (turned o.0.t o.0.second)));
  } where
    not_both : (b : Bool) → b ≡ false → IsTrue b → ⊥
    not_both b e t = false≢true (sym e ∙ t)

    turned : (s : Place) → IsCommon k l s → SamePlace s (place_of (record { x = k.p.x; y = l.p.y }))
    turned s h = back_same (place_of (record { x = k.p.x; y = l.p.y })) s (to_same (place_of (record { x = k.p.x; y = l.p.y })) s (spot s h))

-- ---- lines with a common end

pub same_point : (p q : Pt) → IsTrue (int_eq p.x q.x && int_eq p.y q.y) → p ≡ q
same_point p q t =
    let b = and_parts (int_eq p.x q.x) (int_eq p.y q.y) t in
    let x = (Decides-int_eq p.x q.x).0 b.0 in let y = (Decides-int_eq p.y q.y).0 b.1 in λ i. record { x = x i; y = y i }

on_end : (l : LineItem) (v : Pt) → IsEnd l v → IsOnLine l (place_of v)
on_end l v (inl e) = subst (λ (w : Pt). IsOnLine l (place_of w)) (sym e) (first_on l.p l.q)
on_end l v (inr e) = subst (λ (w : Pt). IsOnLine l (place_of w)) (sym e) (last_on l.p l.q)

at_end : (l : LineItem) (v : Pt) (s : Place) → IsEnd l v → IsTrue (same_place s (place_of v)) → IsEndAt l.p l.q s
at_end l v s (inl e) h = inl (subst (λ (w : Pt). IsTrue (same_place s (place_of w))) e h)
at_end l v s (inr e) h = inr (subst (λ (w : Pt). IsTrue (same_place s (place_of w))) e h)

pub common_end : (k l : LineItem) → HaveCommonEnd k l → (AreOverlapping k l → ⊥) → ArePlain k l
common_end k l (v, first, second) none = record {
  ends = λ s only. inl (at_end k v s first (same_from s (place_of v) (back_same (place_of v) s (to_same (place_of v) s
      (only.only (place_of v) (record { place = whole_place v; first = on_end k v first; second = on_end l v second }))))));
  letters = none;
}

-- ---- lines of one line

pub in_line : (k l : LineItem) → turn k.p k.q l.p ≡ pos 0 → turn k.p k.q l.q ≡ pos 0 → slant (through k.p k.q) (through l.p l.q) ≡ pos 0
in_line k l x y =
    let e = slant-fall (through k.p k.q) l.p l.q in
    let a = height-through k.p k.q l.p in let b = height-through k.p k.q l.q in
    let f = slant-flip (through l.p l.q) (through k.p k.q) in omega (arith, linear)
