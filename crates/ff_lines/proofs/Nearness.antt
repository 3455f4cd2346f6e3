-- A whole point on the way between near points is near.
use Rattle.std.proofs.Common.{◌≡◌, arith, refl, ℕ, ℤ, pos, ◌+ℤ◌, ◌-ℤ◌, ◌*ℤ◌, ◌<ℤ◌, ◌≤ℤ◌, [], ◌∷◌}
use Rattle.std.proofs.lemmas.Int.{ints}
use Rattle.ff_whole.proofs.Signs.{linear, le-mul_left, le_from_mul}
use Rattle.ff_whole.proofs.Ring.{var, ◌⊕◌, ◌⊗◌, solve}
use Rattle.ff_whole.proofs.Offsets.{past-sum}
use Rattle.ff_whole.proofs.OnEdges.{on-x, on-y, IsOn}
use Rattle.ff_whole.specs.Sizes.{IsBelow}
use Rattle.ff_whole.specs.Points.{IsNear, minus, dot}
use Rattle.ff_whole.specs.Places.{past, place_of}
use Rattle.ff_whole.specs.declared.points.Pt.{Pt}
use Rattle.ff_whole.specs.declared.places.Place.{Place}
use Rattle.ff_whole.specs.declared.sizes.TheConstants.{POINT_SIZE}
use Rattle.ff_lines.specs.Lines.{LiesOn}

-- as edges of ff_whole have it
pub to_on : (p q : Pt) (s : Place) → LiesOn p q s → IsOn p q s
to_on p q s h = record { on = h.on; after = h.after; before = h.before }

pub from_on : (p q : Pt) (s : Place) → IsOn p q s → LiesOn p q s
from_on p q s h = record { on = h.on; after = h.after; before = h.before }

-- the number is no greater than a bound of both
most : (d a b x p q m : ℤ) → pos 0 <ℤ d → pos 0 ≤ℤ a → pos 0 ≤ℤ b → a +ℤ b ≡ d → d *ℤ x ≡ a *ℤ q +ℤ b *ℤ p → p ≤ℤ m → q ≤ℤ m → x ≤ℤ m
most d a b x p q m long f g sum e h k =
    let u = le-mul_left a q m f k in
    let v = le-mul_left b p m g h in
    let c : (a +ℤ b) *ℤ m ≡ a *ℤ m +ℤ b *ℤ m = solve (a ∷ b ∷ m ∷ []) ((var 0 ⊕ var 1) ⊗ var 2) (var 0 ⊗ var 2 ⊕ var 1 ⊗ var 2) refl in
    let t : d *ℤ m ≡ (a +ℤ b) *ℤ m = rw sum refl in
    le_from_mul d x m long (omega (arith, linear))

least : (d a b x p q m : ℤ) → pos 0 <ℤ d → pos 0 ≤ℤ a → pos 0 ≤ℤ b → a +ℤ b ≡ d → d *ℤ x ≡ a *ℤ q +ℤ b *ℤ p → m ≤ℤ p → m ≤ℤ q → m ≤ℤ x
least d a b x p q m long f g sum e h k =
    let u = le-mul_left a m q f k in
    let v = le-mul_left b m p g h in
    let c : (a +ℤ b) *ℤ m ≡ a *ℤ m +ℤ b *ℤ m = solve (a ∷ b ∷ m ∷ []) ((var 0 ⊕ var 1) ⊗ var 2) (var 0 ⊗ var 2 ⊕ var 1 ⊗ var 2) refl in
    let t : d *ℤ m ≡ (a +ℤ b) *ℤ m = rw sum refl in
    le_from_mul d m x long (omega (arith, linear))

below : (n : ℕ) (d a b x p q : ℤ) → pos 0 <ℤ d → pos 0 ≤ℤ a → pos 0 ≤ℤ b → a +ℤ b ≡ d → d *ℤ x ≡ a *ℤ q +ℤ b *ℤ p
    → IsBelow n p → IsBelow n q → IsBelow n x
below n d a b x p q long f g sum e h k =
    let hp = h.below in let kq = k.below in
    let hi = most d a b x p q (pos n -ℤ pos 1) long f g sum e (omega (arith, ints)) (omega (arith, ints)) in
    let lo = least d a b x p q (pos 1 -ℤ pos n) long f g sum e (omega (arith, ints)) (omega (arith, ints)) in
    record { below = omega (arith, ints) }

one : (d w : ℤ) → w ≡ pos 1 → d *ℤ w ≡ d
one d w e = rw e (omega (arith, ints))

-- a place of the way with denominator 1
pub near_on : (p q : Pt) (s : Place) → pos 0 <ℤ dot (minus q p) (minus q p) → s.w ≡ pos 1 → LiesOn p q s → IsNear p → IsNear q
    → IsBelow POINT_SIZE s.x × IsBelow POINT_SIZE s.y
near_on p q s long w h np nq =
    let sum = past-sum p q s in let t = one (dot (minus q p) (minus q p)) s.w w in
    let all : past p q s +ℤ past q p s ≡ dot (minus q p) (minus q p) = omega (arith, linear) in (
      below POINT_SIZE (dot (minus q p) (minus q p)) (past p q s) (past q p s) s.x p.x q.x long h.after h.before all (on-x p q s (to_on p q s h)) np.x_below nq.x_below,
      below POINT_SIZE (dot (minus q p) (minus q p)) (past p q s) (past q p s) s.y p.y q.y long h.after h.before all (on-y p q s (to_on p q s h)) np.y_below nq.y_below,
    )

pub near_point : (p q v : Pt) → pos 0 <ℤ dot (minus q p) (minus q p) → LiesOn p q (place_of v) → IsNear p → IsNear q → IsNear v
near_point p q v long h np nq = let r = near_on p q (place_of v) long refl h np nq in record { x_below = r.0; y_below = r.1 }
