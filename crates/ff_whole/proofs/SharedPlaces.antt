-- Two lines that aren't parallel have one place in common at most.
use Rattle.std.proofs.Common.{◌≡◌, ◌≢◌, inl, inr, refl, arith, ℤ, pos, ◌-ℤ◌, ◌*ℤ◌, [], ◌∷◌}
use Rattle.ff_whole.proofs.Formulas.{PlaceE, LineE, place_e, line_e, place_env, line_env, height_e, slant_e}
use Rattle.ff_whole.proofs.Ring.{num, ◌⊖◌, ◌⊗◌, opp, solve_from}
use Rattle.ff_whole.proofs.Signs.{linear, zero_product}
use Rattle.ff_whole.specs.Places.{height, slant}
use Rattle.ff_whole.specs.declared.lines.Line.{Line}
use Rattle.ff_whole.specs.declared.places.Place.{Place}

-- two places are one point
abbrev pub SamePlace : Place → Place → Type 0
SamePlace p q = (p.x *ℤ q.w ≡ q.x *ℤ p.w) × (p.y *ℤ q.w ≡ q.y *ℤ p.w)

-- two places on both lines are one point
pub one_place : (k l : Line) (p q : Place) → slant k l ≢ pos 0 → height k p ≡ pos 0 → height l p ≡ pos 0
    → height k q ≡ pos 0 → height l q ≡ pos 0 → SamePlace p q
one_place k l p q d kp lp kq lq = (same (p.x *ℤ q.w) (q.x *ℤ p.w) in_x, same (p.y *ℤ q.w) (q.y *ℤ p.w) in_y)
  where
    k' : LineE
    k' = line_e 0

    l' : LineE
    l' = line_e 3

    p' : PlaceE
    p' = place_e 6

    q' : PlaceE
    q' = place_e 9

    same : (u v : ℤ) → slant k l *ℤ (u -ℤ v) ≡ pos 0 → u ≡ v
    same u v h = elim (zero_product (slant k l) (u -ℤ v) h) [ inl z ↦ absurd (d z) | inr z ↦ omega (arith, linear) ]

    in_x : slant k l *ℤ (p.x *ℤ q.w -ℤ q.x *ℤ p.w) ≡ pos 0
    in_x = solve_from (line_env k (line_env l (place_env p (place_env q []))))
        (record { by = q'.w ⊗ l'.b; zero = height_e k' p' } ∷ record { by = opp (q'.w ⊗ k'.b); zero = height_e l' p' }
        ∷ record { by = opp (p'.w ⊗ l'.b); zero = height_e k' q' }
        ∷ record { by = p'.w ⊗ k'.b; zero = height_e l' q' } ∷ [])
        (slant_e k' l' ⊗ (p'.x ⊗ q'.w ⊖ q'.x ⊗ p'.w)) (num (pos 0)) refl (kp, (lp, (kq, (lq, tt))))

    in_y : slant k l *ℤ (p.y *ℤ q.w -ℤ q.y *ℤ p.w) ≡ pos 0
    in_y = solve_from (line_env k (line_env l (place_env p (place_env q []))))
        (record { by = opp (q'.w ⊗ l'.a); zero = height_e k' p' } ∷ record { by = q'.w ⊗ k'.a; zero = height_e l' p' }
        ∷ record { by = p'.w ⊗ l'.a; zero = height_e k' q' }
        ∷ record { by = opp (p'.w ⊗ k'.a); zero = height_e l' q' } ∷ [])
        (slant_e k' l' ⊗ (p'.y ⊗ q'.w ⊖ q'.y ⊗ p'.w)) (num (pos 0)) refl (kp, (lp, (kq, (lq, tt))))
