-- Edges that leave a common vertex along different lines don't cross.
use Rattle.std.proofs.Common.{◌≡◌, ◌⊎◌, inl, inr, List, [], ◌∷◌, arith, refl, sym, ◌∙◌, subst, ℤ, pos, neg_ℤ, ◌<ℤ◌}
use Rattle.ff_whole.proofs.Ring.{var, num, ◌⊗◌, ◌⊕◌, ◌⊖◌, solve}
use Rattle.ff_whole.proofs.Signs.{linear}
use Rattle.ff_whole.proofs.Directions.{turn-first}
use Rattle.ff_whole.proofs.Turns.{turn-rotate, turn-swap}
use Rattle.ff_whole.proofs.SegmentPoints.{IsWithin, AreOpposite, AreCrossing}
use Rattle.ff_whole.specs.declared.points.Pt.{Pt}
use Rattle.ff_whole.specs.Points.{minus, dot, turn}
use Rattle.ff_whole.specs.Convex.{point_at}
use Rattle.ff_types.proofs.ConvexEdges.{turn-last}
use Rattle.ff_types.specs.declared.patterns.EdgeEnds.{EdgeEnds}
use Rattle.ff_types.specs.Drawings.{first_point, last_point}

-- p is off the line from a to b
abbrev IsOff : Pt → Pt → Pt → Type 0
IsOff a b p = (pos 0 <ℤ turn a b p) ⊎ (turn a b p <ℤ pos 0)

not_on : (a b p : Pt) → IsOff a b p → turn a b p ≡ pos 0 → ⊥
not_on a b p (inl l) e = omega (arith, linear, l, e)
not_on a b p (inr l) e = omega (arith, linear, l, e)

not_back : (a b p : Pt) (z : ℤ) → IsOff a b p → z ≡ neg_ℤ (turn a b p) → z ≡ pos 0 → ⊥
not_back a b p z (inl l) e f = omega (arith, linear, l, e, f)
not_back a b p z (inr l) e f = omega (arith, linear, l, e, f)

-- no end is within
not_first : (a b : Pt) → IsWithin a b a → ⊥
not_first a b w =
    let l = w.apart in
    let z : dot (minus a a) (minus b a) ≡ pos 0 = solve (a.x ∷ a.y ∷ b.x ∷ b.y ∷ []) ((var 0 ⊖ var 0) ⊗ (var 2 ⊖ var 0) ⊕ (var 1 ⊖ var 1) ⊗ (var 3 ⊖ var 1)) (num (pos 0)) refl in
    omega (arith, linear, l, z)

not_last : (a b : Pt) → IsWithin a b b → ⊥
not_last a b w =
    let l = w.apart in
    let z : dot (minus a b) (minus b b) ≡ pos 0 = solve (a.x ∷ a.y ∷ b.x ∷ b.y ∷ []) ((var 0 ⊖ var 2) ⊗ (var 2 ⊖ var 2) ⊕ (var 1 ⊖ var 3) ⊗ (var 3 ⊖ var 3)) (num (pos 0)) refl in
    omega (arith, linear, l, z)

-- nothing is opposite to nothing
not_opposite_first : (x y : ℤ) → x ≡ pos 0 → AreOpposite x y → ⊥
not_opposite_first x y e (inl o) = let l = o.0 in omega (arith, linear, l, e)
not_opposite_first x y e (inr o) = let l = o.0 in omega (arith, linear, l, e)

not_opposite_last : (x y : ℤ) → y ≡ pos 0 → AreOpposite x y → ⊥
not_opposite_last x y e (inl o) = let l = o.1 in omega (arith, linear, l, e)
not_opposite_last x y e (inr o) = let l = o.1 in omega (arith, linear, l, e)

turned_back : (a b d : Pt) → turn a d b ≡ neg_ℤ (turn a b d)
turned_back a b d = turn-rotate b a d ∙ turn-swap a b d

first_first : (a b d : Pt) → IsOff a b d → AreCrossing a b a d → ⊥
first_first a b d o (inl x) = not_opposite_first _ _ (turn-first a b) x.0
first_first a b d o (inr (inl w)) = not_first a b w
first_first a b d o (inr (inr (inl w))) = not_on a b d o w.on
first_first a b d o (inr (inr (inr (inl w)))) = not_first a d w
first_first a b d o (inr (inr (inr (inr w)))) = not_back a b d (turn a d b) o (turned_back a b d) w.on

last_first : (a b d : Pt) → IsOff a b d → AreCrossing a b b d → ⊥
last_first a b d o (inl x) = not_opposite_first _ _ (turn-last a b) x.0
last_first a b d o (inr (inl w)) = not_last a b w
last_first a b d o (inr (inr (inl w))) = not_on a b d o w.on
last_first a b d o (inr (inr (inr (inl w)))) = not_on a b d o (sym (turn-rotate a b d) ∙ w.on)
last_first a b d o (inr (inr (inr (inr w)))) = not_first b d w

first_last : (a b c : Pt) → IsOff a b c → AreCrossing a b c a → ⊥
first_last a b c o (inl x) = not_opposite_last _ _ (turn-first a b) x.0
first_last a b c o (inr (inl w)) = not_on a b c o w.on
first_last a b c o (inr (inr (inl w))) = not_first a b w
first_last a b c o (inr (inr (inr (inl w)))) = not_last c a w
first_last a b c o (inr (inr (inr (inr w)))) = not_on a b c o (sym (turn-rotate b c a ∙ turn-rotate a b c) ∙ w.on)

last_last : (a b c : Pt) → IsOff a b c → AreCrossing a b c b → ⊥
last_last a b c o (inl x) = not_opposite_last _ _ (turn-last a b) x.0
last_last a b c o (inr (inl w)) = not_on a b c o w.on
last_last a b c o (inr (inr (inl w))) = not_last a b w
last_last a b c o (inr (inr (inr (inl w)))) = not_back a b c (turn c b a) o (turn-rotate a c b ∙ turned_back a b c) w.on
last_last a b c o (inr (inr (inr (inr w)))) = not_last c b w

module _ (points : List Pt) (e k : EdgeEnds) where
  pub forked_first : (k.a ≡ e.a) ⊎ (k.a ≡ e.b) → IsOff (point_at points e.a) (point_at points e.b) (point_at points k.b) → AreCrossing (first_point points e) (last_point points e) (first_point points k) (last_point points k) → ⊥
  forked_first (inl s) o h = first_first (point_at points e.a) (point_at points e.b) (point_at points k.b) o (subst (λ v. AreCrossing (point_at points e.a) (point_at points e.b) (point_at points v) (point_at points k.b)) s h)
  forked_first (inr s) o h = last_first (point_at points e.a) (point_at points e.b) (point_at points k.b) o (subst (λ v. AreCrossing (point_at points e.a) (point_at points e.b) (point_at points v) (point_at points k.b)) s h)

  pub forked_last : (k.b ≡ e.a) ⊎ (k.b ≡ e.b) → IsOff (point_at points e.a) (point_at points e.b) (point_at points k.a) → AreCrossing (first_point points e) (last_point points e) (first_point points k) (last_point points k) → ⊥
  forked_last (inl s) o h = first_last (point_at points e.a) (point_at points e.b) (point_at points k.a) o (subst (λ v. AreCrossing (point_at points e.a) (point_at points e.b) (point_at points k.a) (point_at points v)) s h)
  forked_last (inr s) o h = last_last (point_at points e.a) (point_at points e.b) (point_at points k.a) o (subst (λ v. AreCrossing (point_at points e.a) (point_at points e.b) (point_at points k.a) (point_at points v)) s h)
