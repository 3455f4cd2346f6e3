use Rattle.std.proofs.Common.{◌≡◌, ◌≢◌, ◌⊎◌, inl, inr, ℤ, pos, ◌-ℤ◌, arith}
use Rattle.ff_whole.proofs.Bounds.{read, trip, sum, difference, multiple, fits_exactly, below_exactly}
use Rattle.ff_whole.proofs.Signs.{by_sign, linear}
use Rattle.ff_whole.specs.declared.points.Pt.{Pt}
use mir.Syntax.{w64}
use Rattle.ff_witness.proofs.edges.across.Goals as goal

pub overflow_mul-result : goal.overflow_mul-result
overflow_mul-result c =
    let p = c.requires.p_near in
    let q = c.requires.q_near in
    fits_exactly w64 (multiple (trip w64 (difference (read w64 q.x_below tt) (read w64 p.x_below tt)) tt) (read w64 p.x_below tt)) tt

pub overflow_mul-result-2 : goal.overflow_mul-result-2
overflow_mul-result-2 c =
    let p = c.requires.p_near in
    let q = c.requires.q_near in
    fits_exactly w64 (multiple (trip w64 (difference (read w64 q.y_below tt) (read w64 p.y_below tt)) tt) (read w64 p.y_below tt)) tt

pub overflow_add-result : goal.overflow_add-result
overflow_add-result c =
    let p = c.requires.p_near in
    let q = c.requires.q_near in
    let a = trip w64 (difference (read w64 q.x_below tt) (read w64 p.x_below tt)) tt in
    let b = trip w64 (difference (read w64 q.y_below tt) (read w64 p.y_below tt)) tt in
    fits_exactly w64 (sum (trip w64 (multiple a (read w64 p.x_below tt)) tt) (trip w64 (multiple b (read w64 p.y_below tt)) tt)) tt

pub returns-clause-value : goal.returns-clause-value
returns-clause-value c =
    let p = c.requires.p_near in
    let q = c.requires.q_near in
    let a = trip w64 (difference (read w64 q.x_below tt) (read w64 p.x_below tt)) tt in
    let b = trip w64 (difference (read w64 q.y_below tt) (read w64 p.y_below tt)) tt in
    let k = trip w64 (sum (trip w64 (multiple a (read w64 p.x_below tt)) tt) (trip w64 (multiple b (read w64 p.y_below tt)) tt)) tt in
    λ i. record { a = a.is i; b = b.is i; c = k.is i }

-- different points differ in a coordinate
differ : (p q : Pt) (a b : ℤ) → p ≢ q → a ≡ q.x -ℤ p.x → b ≡ q.y -ℤ p.y → (a ≢ pos 0) ⊎ (b ≢ pos 0)
differ p q a b h e f = by_sign a
    (λ l. inl (λ z. absurd (omega (arith, linear))))
    (λ z. inr (λ y. h (let s : p.x ≡ q.x = omega (arith, linear) in let t : p.y ≡ q.y = omega (arith, linear) in λ i. record { x = s i; y = t i })))
    (λ l. inl (λ z. absurd (omega (arith, linear))))

pub returns-clause-size : goal.returns-clause-size
returns-clause-size c =
    let p = c.requires.p_near in
    let q = c.requires.q_near in
    let a = trip w64 (difference (read w64 q.x_below tt) (read w64 p.x_below tt)) tt in
    let b = trip w64 (difference (read w64 q.y_below tt) (read w64 p.y_below tt)) tt in
    let k = trip w64 (sum (trip w64 (multiple a (read w64 p.x_below tt)) tt) (trip w64 (multiple b (read w64 p.y_below tt)) tt)) tt in
    record { a_below = below_exactly a; b_below = below_exactly b; c_below = below_exactly k; direction = differ _ _ _ _ c.requires.apart a.is b.is }
