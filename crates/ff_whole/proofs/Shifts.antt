-- A place moved a little keeps every strict sign over finitely many lines, and the way decides the others: n times the
-- place and once the way, for every n that is large enough. Where the height of the place is 0, that of the way counts.
use Rattle.std.proofs.Common.{◌≡◌, ◌≢◌, ◌⊎◌, inl, inr, ℕ, suc, ◌+◌, ◌<◌, ◌≤◌, sym, ap, ◌∙◌, arith, ℤ, pos, negsuc, ◌+ℤ◌, ◌*ℤ◌, ◌<ℤ◌, List, [], ◌∷◌}
use borrow.Author.Differences.{abs_is}
use lib.IntN.{neg_ℤ, nat_abs, *ℤ-zero}
use Rattle.std.specs.List.{All}
use Rattle.std.proofs.lemmas.Int.{ints}
use Rattle.std.proofs.lemmas.List.Elements.{All-nil, All-cons, All-head, All-tail}
use Rattle.ff_whole.proofs.Laws.{one-*ℤ}
use Rattle.ff_whole.proofs.Signs.{linear, by_sign, le-mul_left}
use Rattle.ff_whole.proofs.Combinations.{combine, height-combine}
use Rattle.ff_whole.specs.Places.{height}
use Rattle.ff_whole.specs.declared.lines.Line.{Line}
use Rattle.ff_whole.specs.declared.places.Place.{Place}

-- p moved by the n-th part of the way to d
abbrev pub moved : ℕ → Place → Place → Place
moved n p d = combine (pos n) p (pos 1) d

height-moved : (l : Line) (p d : Place) (n : ℕ) → height l (moved n p d) ≡ pos n *ℤ height l p +ℤ height l d
height-moved l p d n = height-combine l (pos n) p (pos 1) d ∙ ap (λ z. pos n *ℤ height l p +ℤ z) (one-*ℤ (height l d))

-- what n times the place and once the way tell of a line
pub record IsDecided (p d : Place) (n : ℕ) (l : Line) : Type 0 where
  pub keeps_left : pos 0 <ℤ height l p → pos 0 <ℤ height l (moved n p d)
  pub keeps_right : height l p <ℤ pos 0 → height l (moved n p d) <ℤ pos 0
  pub decides : height l p ≡ pos 0 → height l (moved n p d) ≡ height l d

keep_left : (l : Line) (p d : Place) (n : ℕ) → nat_abs (height l d) < n → pos 0 <ℤ height l p
    → pos 0 <ℤ height l (moved n p d)
keep_left l p d n k h =
    let e = height-moved l p d n in
    let m = le-mul_left (pos n) (pos 1) (height l p) (omega (arith, ints)) (omega (arith, linear)) in
    let r : pos n *ℤ pos 1 ≡ pos n = omega (arith, ints) in
    let b = abs_is (height l d) in
    omega (arith, linear)

keep_right : (l : Line) (p d : Place) (n : ℕ) → nat_abs (height l d) < n → height l p <ℤ pos 0
    → height l (moved n p d) <ℤ pos 0
keep_right l p d n k h =
    let e = height-moved l p d n in
    let m = le-mul_left (pos n) (height l p) (negsuc 0) (omega (arith, ints)) (omega (arith, linear)) in
    let r : pos n *ℤ negsuc 0 ≡ neg_ℤ (pos n) = omega (arith, ints) in
    let b = abs_is (height l d) in
    omega (arith, linear)

decide : (l : Line) (p d : Place) (n : ℕ) → height l p ≡ pos 0 → height l (moved n p d) ≡ height l d
decide l p d n h =
    let e = height-moved l p d n in
    let z : pos n *ℤ height l p ≡ pos 0 = ap (λ y. pos n *ℤ y) h ∙ *ℤ-zero (pos n) in
    omega (arith, linear)

decided : (l : Line) (p d : Place) (n : ℕ) → nat_abs (height l d) < n → IsDecided p d n l
decided l p d n k =
    record { keeps_left = keep_left l p d n k; keeps_right = keep_right l p d n k; decides = decide l p d n }

-- a short enough way keeps every strict sign and decides the others
pub shift : (ls : List Line) (p d : Place) → (m : ℕ) × ((n : ℕ) → m ≤ n → All (IsDecided p d n) ls)
shift [] p d = (0, λ n k. All-nil _)
shift (l ∷ ls) p d =
    let rest = shift ls p d in
    (suc (nat_abs (height l d)) + rest.0, λ n k. All-cons (IsDecided p d n) l ls (decided l p d n (omega arith)) (rest.1 n (omega arith)))

-- ---- off lines

off_number : (u v : ℤ) (n : ℕ) → nat_abs v < n → pos n *ℤ u +ℤ pos 1 *ℤ v ≡ pos 0 → (u ≡ pos 0) × (v ≡ pos 0)
off_number u v n h e =
    let one = one-*ℤ v in
    let size = abs_is v in
    by_sign u
    (λ l. let m = le-mul_left (pos n) u (negsuc 0) (omega (arith, ints)) (omega (arith, linear)) in
    let k : pos n *ℤ negsuc 0 ≡ neg_ℤ (pos n) = omega (arith, ints) in absurd (omega (arith, linear)))
    (λ z. let k : pos n *ℤ u ≡ pos 0 = ap (λ y. pos n *ℤ y) z ∙ omega (arith, ints) in (z, omega (arith, linear)))
    (λ l. let m = le-mul_left (pos n) (pos 1) u (omega (arith, ints)) (omega (arith, linear)) in
    let k : pos n *ℤ pos 1 ≡ pos n = omega (arith, ints) in absurd (omega (arith, linear)))

-- on a segment whose ends aren't both on the line, few places are on it
off_one : (l : Line) (s t : Place) → (height l s ≢ pos 0) ⊎ (height l t ≢ pos 0) → (n : ℕ)
    → nat_abs (height l t) < n → height l (moved n s t) ≢ pos 0
off_one l s t h n k z =
    let r = off_number (height l s) (height l t) n k (sym (height-combine l (pos n) s (pos 1) t) ∙ z) in
    elim h [ inl f ↦ f r.0 | inr f ↦ f r.1 ]

-- the segment from s to t is not on the line
abbrev pub NotAlong : Place → Place → Line → Type 0
NotAlong s t l = (height l s ≢ pos 0) ⊎ (height l t ≢ pos 0)

-- all but few of its places are off all the lines along none of which it is
pub off_lines : (ls : List Line) (s t : Place) → All (NotAlong s t) ls
    → (m : ℕ) × ((n : ℕ) → m ≤ n → All (λ l. height l (moved n s t) ≢ pos 0) ls)
off_lines [] s t h = (0, λ n k. All-nil _)
off_lines (l ∷ ls) s t h =
    let rest = off_lines ls s t (All-tail (NotAlong s t) l ls h) in
    (suc (nat_abs (height l t)) + rest.0, λ n k. All-cons (λ l. height l (moved n s t) ≢ pos 0) l ls (off_one l s t (All-head (NotAlong s t) l ls h) n (omega arith)) (rest.1 n (omega arith)))
