-- What fixes a folded point: its distances and its side.
use Rattle.std.proofs.Common.{◌≡◌, ◌≢◌, arith, ℤ, pos, ◌-ℤ◌, ◌<ℤ◌}
use Rattle.ff_whole.proofs.Signs.{linear, square_nonneg, square_pos, by_sign}
use Rattle.ff_whole.specs.Points.{minus, dot}
use Rattle.ff_whole.specs.declared.points.Pt.{Pt}

-- different points have a positive distance
pub distance_positive : (u v : Pt) → u ≢ v → pos 0 <ℤ dot (minus v u) (minus v u)
distance_positive u v h =
    let a = square_nonneg (v.x -ℤ u.x) in
    let b = square_nonneg (v.y -ℤ u.y) in
    by_zero (v.x -ℤ u.x)
    (λ x. by_zero (v.y -ℤ u.y)
    (λ y. absurd (h (let e : u.x ≡ v.x = omega (arith, linear) in let f : u.y ≡ v.y = omega (arith, linear) in λ i. record { x = e i; y = f i })))
    (λ n. let k = square_pos (v.y -ℤ u.y) n in omega (arith, linear)))
    (λ n. let k = square_pos (v.x -ℤ u.x) n in omega (arith, linear))
  where
    by_zero : {P : Type 0} (z : ℤ) → (z ≡ pos 0 → P) → (z ≢ pos 0 → P) → P
    by_zero z f g =
        by_sign z (λ l. g (λ e. absurd (omega (arith, linear)))) f (λ l. g (λ e. absurd (omega (arith, linear))))
