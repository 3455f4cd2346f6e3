-- A closed row of points that keeps turning left, and falls on once it falls, has each point on or left of each side.
use Rattle.std.proofs.Common.{◌≡◌, ◌≢◌, ◌<◌, ◌≤◌, zero, suc, arith, ap, subst, ℕ, ℤ, pos, ◌+ℤ◌, ◌*ℤ◌, ◌<ℤ◌, ◌≤ℤ◌, inl, inr}
use lib.Signed.{≤ℤ_refl}
use Rattle.std.proofs.Math.Nat.{eq-or-lt_of_le}
use Rattle.std.proofs.lemmas.Int.{by_lt_z}
use Rattle.std.proofs.lemmas.Bool.{cases_lt}
use Rattle.ff_whole.proofs.Signs.{linear, by_sign, pos-mul, neg-mul_neg, pos-mul_neg, neg-mul_pos}
use Rattle.ff_whole.proofs.Directions.{cross-self, cross-swap, turn-step, turn-first, left_of_left, right_of_right}
use Rattle.ff_whole.specs.declared.points.Pt.{Pt}
use Rattle.ff_whole.specs.Points.{minus, cross, turn}
use Rattle.ff_whole.specs.Turning.{rank}

abbrev pub side : (ℕ → Pt) → ℕ → Pt
side q k = minus (q (suc k)) (q k)

-- the row from q 0 to q n, which is q 0 again
pub record IsTurning (q : ℕ → Pt) (n : ℕ) : Type 0 where
  pub closed : q n ≡ q 0
  pub apart : (k : ℕ) → k < n → rank (side q k) ≢ pos 0
  pub falls : (k : ℕ) → suc k < n → rank (side q k) <ℤ pos 0 → rank (side q (suc k)) <ℤ pos 0
  pub left : (k : ℕ) → suc k < n → pos 0 ≤ℤ cross (side q k) (side q (suc k))

-- ---- rows of facts, and of numbers

climb : (P : ℕ → Type 0) (k l : ℕ) → k ≤ l → P k → ((m : ℕ) → k ≤ m → m < l → P m → P (suc m)) → P l
climb P k zero h b s = let e : k ≡ 0 = omega arith in subst P e b
climb P k (suc l) h b s = elim (eq-or-lt_of_le h) [
  | inl e ↦ subst P e b
  | inr lt ↦ s l (omega arith) (omega arith) (climb P k l (omega arith) b (λ m c d. s m c (omega arith)))
]

-- a row that falls on once it falls is nowhere below 0 if its ends are not
arch : (f : ℕ → ℤ) (a b j : ℕ) → a ≤ j → j ≤ b → pos 0 ≤ℤ f a → pos 0 ≤ℤ f b → ((k l : ℕ) → a ≤ k → k < l → l < b → f (suc k) <ℤ f k → f (suc l) ≤ℤ f l) → pos 0 ≤ℤ f j
arch f a b j h k fa fb u = climb (λ m. pos 0 ≤ℤ f m) a j h fa (λ m c d ih. by_lt_z (f (suc m)) (f m)
    (λ drop.
    let low = climb (λ l. f l ≤ℤ f (suc m)) (suc m) b (omega arith) (≤ℤ_refl _) (λ l x y z. let w = u m l c (omega arith) y drop in omega (arith, linear)) in
    omega (arith, linear))
    (λ keep. omega (arith, linear)))

-- how far left of the i-th side a point is
abbrev over : (ℕ → Pt) → ℕ → ℕ → ℤ
over q i j = turn (q i) (q (suc i)) (q j)

over-suc : (q : ℕ → Pt) (i j : ℕ) → over q i (suc j) ≡ over q i j +ℤ cross (side q i) (side q j)
over-suc q i j = turn-step (q i) (q (suc i)) (q j) (q (suc j))

module _ (q : ℕ → Pt) (n : ℕ) (t : IsTurning q n) where
  -- ---- the order of the sides

  falls_on : (k l : ℕ) → k ≤ l → l < n → rank (side q k) <ℤ pos 0 → rank (side q l) <ℤ pos 0
  falls_on k l h lt f = climb (λ m. rank (side q m) <ℤ pos 0) k l h f (λ m a b. t.falls m (omega arith))

  rises_before : (k l : ℕ) → k ≤ l → l < n → pos 0 <ℤ rank (side q l) → pos 0 <ℤ rank (side q k)
  rises_before k l h lt f = by_sign (rank (side q k))
      (λ g. let d = falls_on k l h lt g in absurd (omega (arith, linear)))
      (λ z. absurd (t.apart k (omega arith) z))
      (λ g. g)

  sorted : (k l : ℕ) → k ≤ l → l < n → ((i j : ℕ) → k ≤ i → i ≤ l → k ≤ j → j ≤ l → pos 0 <ℤ (rank (side q i) *ℤ rank (side q j))) → pos 0 ≤ℤ cross (side q k) (side q l)
  sorted k l h lt same =
      let e = cross-self (side q k) in
      climb (λ m. pos 0 ≤ℤ cross (side q k) (side q m)) k l h (omega (arith, linear))
      (λ m a b ih. left_of_left (side q k) (side q m) (side q (suc m)) (t.apart m (omega arith)) (same m k a (omega arith) (omega arith) h) (same m (suc m) a (omega arith) (omega arith) b) ih (t.left m (omega arith)))

  sorted_rising : (k l : ℕ) → k ≤ l → l < n → pos 0 <ℤ rank (side q l) → pos 0 ≤ℤ cross (side q k) (side q l)
  sorted_rising k l h lt f = sorted k l h lt (λ i j a b c d. pos-mul _ _ (rises_before i l b lt f) (rises_before j l d lt f))

  sorted_falling : (k l : ℕ) → k ≤ l → l < n → rank (side q k) <ℤ pos 0 → pos 0 ≤ℤ cross (side q k) (side q l)
  sorted_falling k l h lt f = sorted k l h lt (λ i j a b c d. neg-mul_neg _ _ (falls_on k i a (omega arith) f) (falls_on k j c (omega arith) f))

  -- ---- the points over a side that rises, or falls

  before_rising : (i j : ℕ) → j ≤ i → i < n → pos 0 <ℤ rank (side q i) → pos 0 ≤ℤ over q i j
  before_rising i j h lt f =
      let low = climb (λ m. over q i m ≤ℤ over q i j) j i h (≤ℤ_refl _)
      (λ m a b ih. let e = over-suc q i m in let s = sorted_rising m i (omega arith) lt f in let c = cross-swap (side q m) (side q i) in omega (arith, linear)) in
      let z = turn-first (q i) (q (suc i)) in
      omega (arith, linear)

  after_falling : (i j : ℕ) → i ≤ j → j ≤ n → i < n → rank (side q i) <ℤ pos 0 → pos 0 ≤ℤ over q i j
  after_falling i j h k lt f =
      let z = turn-first (q i) (q (suc i)) in
      climb (λ m. pos 0 ≤ℤ over q i m) i j h (omega (arith, linear))
      (λ m a b ih. let e = over-suc q i m in let s = sorted_falling i m a (omega arith) f in omega (arith, linear))

  after_rising : (i j : ℕ) → i ≤ j → j ≤ n → i < n → pos 0 <ℤ rank (side q i) → pos 0 ≤ℤ over q i j
  after_rising i j h k lt f =
      let z = turn-first (q i) (q (suc i)) in
      let e : over q i n ≡ over q i 0 = ap (turn (q i) (q (suc i))) t.closed in
      let l = before_rising i 0 (omega arith) lt f in
      arch (over q i) i n j h k (omega (arith, linear)) (omega (arith, linear))
      (λ k m a b c drop.
      let ek = over-suc q i k in
      let em = over-suc q i m in
      by_sign (rank (side q k))
      (λ g.
      let s = sorted_falling k m (omega arith) c g in
      let r = right_of_right (side q i) (side q k) (side q m) (t.apart k (omega arith)) (neg-mul_pos _ _ g f) (neg-mul_neg _ _ g (falls_on k m (omega arith) c g)) (omega (arith, linear)) s in
      omega (arith, linear))
      (λ z. absurd (t.apart k (omega arith) z))
      (λ g. let s = sorted_rising i k a (omega arith) g in absurd (omega (arith, linear))))

  before_falling : (i j : ℕ) → j ≤ i → i < n → rank (side q i) <ℤ pos 0 → pos 0 ≤ℤ over q i j
  before_falling i j h lt f =
      let z = turn-first (q i) (q (suc i)) in
      let e : over q i n ≡ over q i 0 = ap (turn (q i) (q (suc i))) t.closed in
      let l = after_falling i n (omega arith) (omega arith) lt f in
      arch (over q i) 0 i j (omega arith) h (omega (arith, linear)) (omega (arith, linear))
      (λ k m a b c drop.
      let ek = over-suc q i k in
      let em = over-suc q i m in
      by_sign (rank (side q m))
      (λ g. let s = sorted_falling m i (omega arith) lt g in let w = cross-swap (side q m) (side q i) in omega (arith, linear))
      (λ z. absurd (t.apart m (omega arith) z))
      (λ g.
      let s = sorted_rising k m (omega arith) (omega arith) g in
      let r = rises_before k m (omega arith) (omega arith) g in
      let o = right_of_right (side q i) (side q k) (side q m) (t.apart k (omega arith)) (pos-mul_neg _ _ r f) (pos-mul _ _ r g) (omega (arith, linear)) s in
      omega (arith, linear)))

  pub turning_left : (i j : ℕ) → i < n → j < n → pos 0 ≤ℤ turn (q i) (q (suc i)) (q j)
  turning_left i j h k = by_sign (rank (side q i))
      (λ f. elim (cases_lt i j) [ inl l ↦ after_falling i j (omega arith) (omega arith) h f | inr l ↦ before_falling i j l h f ])
      (λ z. absurd (t.apart i h z))
      (λ f. elim (cases_lt i j) [ inl l ↦ after_rising i j (omega arith) (omega arith) h f | inr l ↦ before_rising i j l h f ])
