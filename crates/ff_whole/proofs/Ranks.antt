-- The rank of near points is the order of x, and then of y.
use Rattle.std.proofs.Common.{◌≡◌, refl, arith, ◌<ℤ◌, IsTrue, Some, Ordering, Less, Equal, Greater}
use Rattle.std.specs.Ordering.{MatchOrdering, is_lt, is_some_and, partial_ordering_then}
use Rattle.std.proofs.lemmas.Bool.{false≢true}
use Rattle.std.proofs.lemmas.Int.{by_lt_z, ints}
use Rattle.ff_whole.proofs.Signs.{linear}
use Rattle.ff_whole.specs.declared.points.Pt.{Pt}
use Rattle.ff_whole.specs.Points.{IsNear}
use Rattle.ff_whole.specs.Turning.{rank}

rank-below : (p q : Pt) → IsNear p → IsNear q → p.x <ℤ q.x → rank p <ℤ rank q
rank-below p q h k l =
    let a = h.y_below.below in
    let b = k.y_below.below in
    omega (arith, ints)

-- near points of one rank are one
pub rank-same : (p q : Pt) → IsNear p → IsNear q → rank p ≡ rank q → p ≡ q
rank-same p q h k e = by_lt_z p.x q.x
    (λ l. let m = rank-below p q h k l in absurd (omega (arith, linear)))
    (λ l. by_lt_z q.x p.x
    (λ m. let o = rank-below q p k h m in absurd (omega (arith, linear)))
    (λ m. let x : p.x ≡ q.x = omega (arith, linear) in let y : p.y ≡ q.y = omega (arith, ints) in λ i. record { x = x i; y = y i }))

-- what the comparison of two points answers
pub rank-order : (p q : Pt) → IsNear p → IsNear q → (a b : Ordering) → MatchOrdering a (p.x <ℤ q.x) (p.x ≡ q.x) (q.x <ℤ p.x) → MatchOrdering b (p.y <ℤ q.y) (p.y ≡ q.y) (q.y <ℤ p.y)
    → (IsTrue (is_some_and is_lt (partial_ordering_then (Some a) (Some b))) → rank p <ℤ rank q) × (rank p <ℤ rank q → IsTrue (is_some_and is_lt (partial_ordering_then (Some a) (Some b))))
rank-order p q h k Less b f g = (λ e. rank-below p q h k f, λ l. refl)
rank-order p q h k Greater b f g = (λ e. absurd (false≢true e), λ l. let m = rank-below q p k h f in absurd (omega (arith, linear)))
rank-order p q h k Equal Less f g = (λ e. omega (arith, ints), λ l. refl)
rank-order p q h k Equal Equal f g = (λ e. absurd (false≢true e), λ l. absurd (omega (arith, ints)))
rank-order p q h k Equal Greater f g = (λ e. absurd (false≢true e), λ l. absurd (omega (arith, ints)))
