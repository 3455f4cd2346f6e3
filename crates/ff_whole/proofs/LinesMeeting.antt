-- Why the place of `meet` is on both lines, and how large its numbers are.
use Rattle.std.proofs.Common.{◌≡◌, ◌≢◌, refl, sym, ap, ◌∙◌, subst, arith, ℤ, pos, ◌-ℤ◌, ◌*ℤ◌, [], ◌∷◌}
use lib.IntN.{neg_ℤ}
use Rattle.ff_whole.specs.Sizes.{IsBelow}
use Rattle.ff_whole.proofs.Bounds.{below_factor}
use Rattle.ff_whole.proofs.Ring.{var, num, ◌⊖◌, ◌⊗◌, opp, solve, solve_from}
use Rattle.ff_whole.proofs.Signs.{linear, zero_from_mul}
use Rattle.ff_whole.proofs.Formulas.{PlaceE, LineE, place_e, line_e, place_env, line_env, height_e, slant_e}
use Rattle.ff_whole.specs.declared.sizes.TheConstants.{MEET_SIZE, MEET_WEIGHT, CORNER_SIZE, CORNER_X_SIZE, CORNER_WEIGHT}
use Rattle.ff_whole.specs.Places.{height, slant}
use Rattle.ff_whole.specs.Meeting.{IsReduced, IsMeet, IsCorner, rise}
use Rattle.ff_whole.specs.declared.lines.Line.{Line}
use Rattle.ff_whole.specs.declared.places.Place.{Place}

-- a place of three numbers
abbrev pub place : ℤ → ℤ → ℤ → Place
place x y w = record { x = x; y = y; w = w }

reduced_height : (k : Line) (x y w : ℤ) (p : Place) → IsReduced x y w p → height k (place x y w) ≡ pos 0
    → height k p ≡ pos 0
reduced_height k x y w p r h =
    let whole : r.by *ℤ height k p ≡ height k (place (r.by *ℤ p.x) (r.by *ℤ p.y) (r.by *ℤ p.w)) =
    solve (line_env k (place_env p (r.by ∷ []))) (var 6 ⊗ height_e (line_e 0) (place_e 3))
    (height_e (line_e 0) (record { x = var 6 ⊗ var 3; y = var 6 ⊗ var 4; w = var 6 ⊗ var 5 })) refl in
    let same : height k (place x y w) ≡ height k (place (r.by *ℤ p.x) (r.by *ℤ p.y) (r.by *ℤ p.w)) = λ i. height k (place (r.x_is i) (r.y_is i) (r.w_is i)) in
    zero_from_mul r.by (height k p) r.by_positive (whole ∙ sym same ∙ h)

-- a place on both lines, in lowest terms and with these bounds, is what `meet` promises
pub meet_is : (k l : Line) (x y w : ℤ) (p : Place) → slant k l ≢ pos 0 → IsBelow MEET_SIZE x → IsBelow MEET_SIZE y
    → IsBelow MEET_WEIGHT w
    → height k (place x y w) ≡ pos 0 → height l (place x y w) ≡ pos 0 → IsReduced x y w p → IsMeet k l p
meet_is k l x y w p apart bx by bw hk hl r = record {
  apart = apart;
  on_first = reduced_height k x y w p r hk;
  on_second = reduced_height l x y w p r hl;
  size = record {
    x_below = below_factor _ r.by p.x r.by_positive (subst (IsBelow MEET_SIZE) r.x_is bx);
    y_below = below_factor _ r.by p.y r.by_positive (subst (IsBelow MEET_SIZE) r.y_is by);
    w_below = below_factor _ r.by p.w r.by_positive (subst (IsBelow MEET_WEIGHT) r.w_is bw);
    positive = r.positive;
  };
  lowest = r.lowest;
}

-- the place where the lines meet, before it is divided
abbrev pub meet_x : Line → Line → ℤ
meet_x k l = k.c *ℤ l.b -ℤ l.c *ℤ k.b

-- the same in y
abbrev pub meet_y : Line → Line → ℤ
meet_y k l = k.a *ℤ l.c -ℤ l.a *ℤ k.c

abbrev meet_e : LineE → LineE → PlaceE
meet_e k l = record { x = k.c ⊗ l.b ⊖ l.c ⊗ k.b; y = k.a ⊗ l.c ⊖ l.a ⊗ k.c; w = slant_e k l }

-- it is on the first line
pub on_first : (k l : Line) → height k (place (meet_x k l) (meet_y k l) (slant k l)) ≡ pos 0
on_first k l =
    solve (line_env k (line_env l [])) (height_e (line_e 0) (meet_e (line_e 0) (line_e 3))) (num (pos 0)) refl

-- and on the second
pub on_second : (k l : Line) → height l (place (meet_x k l) (meet_y k l) (slant k l)) ≡ pos 0
on_second k l =
    solve (line_env k (line_env l [])) (height_e (line_e 3) (meet_e (line_e 0) (line_e 3))) (num (pos 0)) refl

-- the place with the opposite numbers is on the line, too
pub height-opposite : (k : Line) (x y w : ℤ) → height k (place x y w) ≡ pos 0
    → height k (place (neg_ℤ x) (neg_ℤ y) (neg_ℤ w)) ≡ pos 0
height-opposite k x y w h =
    let e : height k (place (neg_ℤ x) (neg_ℤ y) (neg_ℤ w)) ≡ neg_ℤ (height k (place x y w)) =
    solve (line_env k (x ∷ y ∷ w ∷ [])) (height_e (line_e 0) (record { x = opp (var 3); y = opp (var 4); w = opp (var 5) })) (opp (height_e (line_e 0) (place_e 3))) refl in
    e ∙ ap neg_ℤ h

-- ---- the place of a line at the x of another place

-- a place on the line at that x, in lowest terms and with these bounds, is what `corner` promises
pub corner_is : (l : Line) (at : Place) (x y w : ℤ) (p : Place) → IsBelow CORNER_X_SIZE x → IsBelow CORNER_SIZE y
    → IsBelow CORNER_WEIGHT w
    → height l (place x y w) ≡ pos 0 → x *ℤ at.w ≡ at.x *ℤ w → IsReduced x y w p → IsCorner l at p
corner_is l at x y w p bx by bw on same r = record {
  on_line = reduced_height l x y w p r on;
  same_x =
      solve_from (at.x ∷ at.w ∷ p.x ∷ p.w ∷ []) (record { by = num (pos 1); zero = var 2 ⊗ var 1 ⊖ var 0 ⊗ var 3 } ∷ []) (var 2 ⊗ var 1) (var 0 ⊗ var 3) refl (through_zero, tt);
  x_below = below_factor _ r.by p.x r.by_positive (subst (IsBelow CORNER_X_SIZE) r.x_is bx);
  y_below = below_factor _ r.by p.y r.by_positive (subst (IsBelow CORNER_SIZE) r.y_is by);
  w_below = below_factor _ r.by p.w r.by_positive (subst (IsBelow CORNER_WEIGHT) r.w_is bw);
  positive = r.positive;
  lowest = r.lowest;
}
  where
    through_zero : p.x *ℤ at.w -ℤ at.x *ℤ p.w ≡ pos 0
    through_zero =
        let e : r.by *ℤ (p.x *ℤ at.w -ℤ at.x *ℤ p.w) ≡ (r.by *ℤ p.x) *ℤ at.w -ℤ at.x *ℤ (r.by *ℤ p.w) =
        solve (r.by ∷ p.x ∷ p.w ∷ at.x ∷ at.w ∷ []) (var 0 ⊗ (var 1 ⊗ var 4 ⊖ var 3 ⊗ var 2)) ((var 0 ⊗ var 1) ⊗ var 4 ⊖ var 3 ⊗ (var 0 ⊗ var 2)) refl in
        let f : x *ℤ at.w -ℤ at.x *ℤ w ≡ (r.by *ℤ p.x) *ℤ at.w -ℤ at.x *ℤ (r.by *ℤ p.w) = λ i. r.x_is i *ℤ at.w -ℤ at.x *ℤ r.w_is i in
        let g : x *ℤ at.w -ℤ at.x *ℤ w ≡ pos 0 = omega (arith, linear) in
        zero_from_mul r.by (p.x *ℤ at.w -ℤ at.x *ℤ p.w) r.by_positive (e ∙ sym f ∙ g)

-- before it is divided
pub on_corner : (l : Line) (at : Place) → height l (place (at.x *ℤ l.b) (rise l at) (at.w *ℤ l.b)) ≡ pos 0
on_corner l at =
    solve (line_env l (place_env at [])) (height_e (line_e 0) (record { x = var 3 ⊗ var 1; y = var 2 ⊗ var 5 ⊖ var 0 ⊗ var 3; w = var 5 ⊗ var 1 })) (num (pos 0)) refl

-- it has that x
pub at_corner : (l : Line) (at : Place) → (at.x *ℤ l.b) *ℤ at.w ≡ at.x *ℤ (at.w *ℤ l.b)
at_corner l at = solve (line_env l (place_env at [])) ((var 3 ⊗ var 1) ⊗ var 5) (var 3 ⊗ (var 5 ⊗ var 1)) refl

-- so has the place with the opposite numbers
pub at_corner_opposite : (l : Line) (at : Place) → neg_ℤ (at.x *ℤ l.b) *ℤ at.w ≡ at.x *ℤ neg_ℤ (at.w *ℤ l.b)
at_corner_opposite l at =
    solve (line_env l (place_env at [])) (opp (var 3 ⊗ var 1) ⊗ var 5) (var 3 ⊗ opp (var 5 ⊗ var 1)) refl

-- the numbers may be replaced by equal ones
pub same_reduced : (p : Place) {x y w x' y' w' : ℤ} → x ≡ x' → y ≡ y' → w ≡ w' → IsReduced x y w p
    → IsReduced x' y' w' p
same_reduced p e f g r = let P : Place → Type 0 = λ q. IsReduced q.x q.y q.w p in
    subst P (λ i. place (e i) (f i) (g i)) r
