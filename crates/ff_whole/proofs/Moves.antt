-- A place can be moved a little, off any lines and across none.
use Rattle.std.proofs.Common.{◌≡◌, ◌≢◌, ◌⊎◌, inl, inr, ℕ, suc, ◌+◌, ◌<◌, refl, sym, ◌∙◌, subst, arith, pos, ◌<ℤ◌, ◌*ℤ◌, List, [], ◌∷◌}
use Rattle.std.specs.List.{All}
use Rattle.std.proofs.lemmas.Int.{ints}
use Rattle.std.proofs.lemmas.List.Elements.{All-weaker}
use Rattle.ff_whole.proofs.Ring.{var, num, ◌⊕◌, ◌⊖◌, ◌⊗◌, solve}
use Rattle.ff_whole.proofs.Signs.{pos-mul}
use Rattle.ff_whole.proofs.Shifts.{moved, IsDecided, shift, NotAlong, off_lines}
use Rattle.ff_whole.specs.Places.{height}
use Rattle.ff_whole.specs.declared.lines.Line.{Line}
use Rattle.ff_whole.specs.declared.places.Place.{Place}

-- the direction of x, as a place with no denominator
abbrev pub right : Place
right = record { x = pos 1; y = pos 0; w = pos 0 }

-- the direction of y
abbrev pub upwards : Place
upwards = record { x = pos 0; y = pos 1; w = pos 0 }

-- a line is one where its a and b are not both 0
abbrev pub HasDirection : Line → Type 0
HasDirection l = (l.a ≢ pos 0) ⊎ (l.b ≢ pos 0)

height-right : (l : Line) → height l right ≡ l.a
height-right l =
    solve (l.a ∷ l.b ∷ l.c ∷ []) (var 0 ⊗ num (pos 1) ⊕ var 1 ⊗ num (pos 0) ⊖ var 2 ⊗ num (pos 0)) (var 0) refl

height-upwards : (l : Line) → height l upwards ≡ l.b
height-upwards l =
    solve (l.a ∷ l.b ∷ l.c ∷ []) (var 0 ⊗ num (pos 0) ⊕ var 1 ⊗ num (pos 1) ⊖ var 2 ⊗ num (pos 0)) (var 1) refl

not_along : (l : Line) → HasDirection l → NotAlong right upwards l
not_along l (inl f) = inl (λ z. f (sym (height-right l) ∙ z))
not_along l (inr f) = inr (λ z. f (sym (height-upwards l) ∙ z))

all_not_along : (ls : List Line) → All HasDirection ls → All (NotAlong right upwards) ls
all_not_along ls h = All-weaker HasDirection (NotAlong right upwards) not_along ls h

-- a way, as a place with w = 0, along which each line is left
pub way_off : (ls : List Line) → All HasDirection ls
    → (n : ℕ) × All (λ l. height l (moved n right upwards) ≢ pos 0) ls
way_off ls h = let r = off_lines ls right upwards (all_not_along ls h) in (r.0, r.1 r.0 (omega arith))

-- ---- both sides kept, and off the lines

-- what is moved so is a place
moved-positive : (i n : ℕ) (p : Place) → pos 0 <ℤ p.w → 0 < n → pos 0 <ℤ (moved n p (moved i right upwards)).w
moved-positive i n p f some =
    let e : (moved n p (moved i right upwards)).w ≡ pos n *ℤ p.w = solve (pos n ∷ pos i ∷ p.w ∷ []) (var 0 ⊗ var 2 ⊕ num (pos 1) ⊗ (var 1 ⊗ num (pos 0) ⊕ num (pos 1) ⊗ num (pos 0))) (var 0 ⊗ var 2) refl in
    let m = pos-mul (pos n) p.w (omega (arith, ints)) f in
    subst (λ z. pos 0 <ℤ z) (sym e) m

-- the place q is strictly on the side of the line on which p is
pub record KeepsSide (p q : Place) (l : Line) : Type 0 where
  pub left : pos 0 <ℤ height l p → pos 0 <ℤ height l q
  pub right : height l p <ℤ pos 0 → height l q <ℤ pos 0

-- p moved a little: it changes sides over none of the lines ls, and is off the lines ms
pub moved_aside : (ls ms : List Line) (p : Place) → pos 0 <ℤ p.w → All HasDirection ms
    → (q : Place) × (pos 0 <ℤ q.w) × All (KeepsSide p q) ls × All (λ l. height l q ≢ pos 0) ms
moved_aside ls ms p f k =
    let d = way_off ms k in
    let v = moved d.0 right upwards in
    let near = shift ls p v in
    let off = off_lines ms p v (All-weaker (λ l. height l v ≢ pos 0) (NotAlong p v) (λ l g. inr g) ms d.1) in
    let n = suc (near.0 + off.0) in
    (moved n p v, moved-positive d.0 n p f (omega arith), All-weaker (IsDecided p v n) (KeepsSide p (moved n p v)) (λ l g. record { left = g.keeps_left; right = g.keeps_right }) ls (near.1 n (omega arith)), off.1 n (omega arith))
