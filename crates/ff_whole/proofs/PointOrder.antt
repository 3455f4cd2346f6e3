-- The order of points by x and then by y, in which only a point itself is equal to it. For sets and maps of points.
use Rattle.std.proofs.Common.{◌≡◌, refl, sym}
use Rattle.std.specs.Ordering.{int_cmp, ordering_then}
use Rattle.std.specs.Cmp.{int_cmp_is}
use Rattle.std.specs.declared.cmp.Ordering.{Ordering}
use Rattle.std.specs.declared.cmp.Ordering.TheVariants.{Less, Equal, Greater}
use Rattle.std.proofs.lemmas.Map.Lookups.{exact_signed}
use Rattle.ff_whole.specs.contracts.points.PtOrd.TheImpl as order
use Rattle.ff_whole.specs.declared.points.Pt.{Pt}

-- what `cmp` answers
abbrev pub point_cmp : Pt → Pt → Ordering
point_cmp = order.cmp-value.it

first_equal : (a b : Ordering) → ordering_then a b ≡ Equal → a ≡ Equal
first_equal Less b h = h
first_equal Equal b h = refl
first_equal Greater b h = h

second_equal : (a b : Ordering) → ordering_then a b ≡ Equal → b ≡ Equal
second_equal Less b h = absurd (cc)
second_equal Equal b h = h
second_equal Greater b h = absurd (cc)

pub point_cmp-equal : (p q : Pt) → point_cmp p q ≡ Equal → p ≡ q
point_cmp-equal p q h =
    let x = exact_signed p.x q.x (first_equal (int_cmp p.x q.x) (int_cmp p.y q.y) h) in
    let y = exact_signed p.y q.y (second_equal (int_cmp p.x q.x) (int_cmp p.y q.y) h) in
    λ i. record { x = x i; y = y i }

pub point_cmp-same : (p : Pt) → point_cmp p p ≡ Equal
point_cmp-same p = rw (← int_cmp_is p.x p.x Equal refl) (sym (int_cmp_is p.y p.y Equal refl))
