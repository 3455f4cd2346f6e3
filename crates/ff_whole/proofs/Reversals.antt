-- A ring that goes round clockwise, as the image of a face that is down does, read backward: what holds of convex rings
-- holds of it, with the other side of each edge.
use Rattle.std.proofs.Common.{◌≡◌, ℕ, suc, ◌-◌, ◌<◌, arith, sym, subst, ap, ◌∙◌, pos, ◌<ℤ◌, ◌≤ℤ◌}
use Rattle.std.proofs.lemmas.Bool.Decides.{nat_tests}
use lib.IntN.{neg_ℤ}
use Rattle.ff_whole.proofs.Signs.{linear}
use Rattle.ff_whole.proofs.ClosedLists.{next-below}
use Rattle.ff_whole.proofs.Turns.{turn-swap}
use Rattle.ff_whole.proofs.ConvexBorders.{IsConvexRing}
use Rattle.ff_whole.specs.Points.{turn}
use Rattle.ff_whole.specs.Convex.{next}
use Rattle.ff_whole.specs.declared.points.Pt.{Pt}

-- the place of i in the list read backward
abbrev pub back : ℕ → ℕ → ℕ
back n i = n - suc i

-- it is a place of the list
pub back-below : (n i : ℕ) → i < n → back n i < n
back-below n i h = omega arith

-- twice backward is forward
pub back-back : (n i : ℕ) → i < n → back n (back n i) ≡ i
back-back n i h = omega arith

-- the vertices read backward
abbrev pub backward : ℕ → (ℕ → Pt) → ℕ → Pt
backward n v i = v (back n i)

-- the edge after i, read backward, is the edge k read forward
pub next-back : (n i : ℕ) → i < n → next n (back n (next n i)) ≡ back n i
next-back n i h = grind (arith, nat_tests)

-- the vertices go round clockwise: each is on or right of each edge, and not all on one's line
pub record IsClockwise (n : ℕ) (v : ℕ → Pt) : Type 0 where
  pub right : (i j : ℕ) → i < n → j < n → turn (v i) (v (next n i)) (v j) ≤ℤ pos 0
  pub wide : (i : ℕ) → i < n → (j : ℕ) × (j < n) × (turn (v i) (v (next n i)) (v j) <ℤ pos 0)

-- a clockwise ring read backward is a convex ring
pub convex_from_clockwise : (n : ℕ) (v : ℕ → Pt) → IsClockwise n v → IsConvexRing n (backward n v)
convex_from_clockwise n v r = record { left = left; wide = wide }
  where
    -- how far left of the edge after i, read backward, is how far right of the same edge, read forward
    other_side : (i : ℕ) → i < n → (p : Pt)
        → turn (v (back n i)) (v (back n (next n i))) p ≡ neg_ℤ (turn (v (back n (next n i))) (v (next n (back n (next n i)))) p)
    other_side i h p =
        turn-swap (v (back n (next n i))) (v (back n i)) p
        ∙ ap (λ k. neg_ℤ (turn (v (back n (next n i))) (v k) p)) (sym (next-back n i h))

    edge : (i : ℕ) → i < n → back n (next n i) < n
    edge i h = back-below n (next n i) (next-below n i h)

    left : (i j : ℕ) → i < n → j < n → pos 0 ≤ℤ turn (v (back n i)) (v (back n (next n i))) (v (back n j))
    left i j h k = let e = other_side i h (v (back n j)) in
        let f = r.right (back n (next n i)) (back n j) (edge i h) (back-below n j k) in omega (arith, linear)

    wide : (i : ℕ) → i < n
        → (j : ℕ) × (j < n) × (pos 0 <ℤ turn (v (back n i)) (v (back n (next n i))) (v (back n j)))
    wide i h =
        let o = r.wide (back n (next n i)) (edge i h) in
        let e = other_side i h (v o.0) in
        let f = o.2 in
        (back n o.0, back-below n o.0 o.1, subst (λ k. pos 0 <ℤ turn (v (back n i)) (v (back n (next n i))) (v k)) (sym (back-back n o.0 o.1)) (omega (arith, linear)))
