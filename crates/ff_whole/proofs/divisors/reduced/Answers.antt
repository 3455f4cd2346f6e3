use Rattle.std.proofs.Common.{refl, sym, ap, ◌∙◌, subst, pos, ◌*ℤ◌, unsigned_abs}
use Rattle.std.proofs.lemmas.Int.{to_z-of_z}
use Rattle.ff_whole.proofs.Reducing.{reduced_is, whole_fits, whole_is, code_fits, code_quot, divisor_positive, divisor_below, abs_of, gcd_at}
use Rattle.ff_whole.specs.Meeting.{IsReduced}
use Rattle.ff_whole.specs.declared.places.Place.{Place}
use mir.Syntax.{w128}
use Rattle.ff_whole.proofs.divisors.reduced.Goals as goal

pub overflow_cast-d : goal.overflow_cast-d
overflow_cast-d c =
    let k = gcd_at c.gcd.result (unsigned_abs c.args.w) refl (abs_of _ _ c.ranges.w c.unsigned_abs-3.ensures.value) c.gcd-d.ensures in
    record { sfits = divisor_below c.args.w _ _ c.requires c.ranges.w k }

pub nonzero_div-result : goal.nonzero_div-result
nonzero_div-result c =
    let k = gcd_at c.gcd.result (unsigned_abs c.args.w) refl (abs_of _ _ c.ranges.w c.unsigned_abs-3.ensures.value) c.gcd-d.ensures in
    let some = divisor_positive c.args.w _ _ c.requires k in
    (some, code_fits w128 c.args.x _ c.ranges.x some (divisor_below c.args.w _ _ c.requires c.ranges.w k))

pub nonzero_div-result-2 : goal.nonzero_div-result-2
nonzero_div-result-2 c =
    let k = gcd_at c.gcd.result (unsigned_abs c.args.w) refl (abs_of _ _ c.ranges.w c.unsigned_abs-3.ensures.value) c.gcd-d.ensures in
    let some = divisor_positive c.args.w _ _ c.requires k in
    (some, code_fits w128 c.args.y _ c.ranges.y some (divisor_below c.args.w _ _ c.requires c.ranges.w k))

pub nonzero_div-result-3 : goal.nonzero_div-result-3
nonzero_div-result-3 c =
    let k = gcd_at c.gcd.result (unsigned_abs c.args.w) refl (abs_of _ _ c.ranges.w c.unsigned_abs-3.ensures.value) c.gcd-d.ensures in
    let some = divisor_positive c.args.w _ _ c.requires k in
    (some, code_fits w128 c.args.w _ c.ranges.w some (divisor_below c.args.w _ _ c.requires c.ranges.w k))

pub returns : goal.returns
returns c =
    let w = to_z-of_z w128 c.args.w c.ranges.w in
    let ex = sym (to_z-of_z w128 c.args.x c.ranges.x) ∙ c.in-Some.ensures ∙ ap (λ z. z *ℤ c.in-Some.x) w in
    let ey = sym (to_z-of_z w128 c.args.y c.ranges.y) ∙ c.in-Some-whole.ensures ∙ ap (λ z. z *ℤ c.in-Some-whole.y) w in
    let fx = to_z-of_z w128 c.in-Some.x (whole_fits w128 c.args.x c.args.w c.in-Some.x c.ranges.x c.requires ex) in
    let fy = to_z-of_z w128 c.in-Some-whole.y (whole_fits w128 c.args.y c.args.w c.in-Some-whole.y c.ranges.y c.requires ey) in
    let P : Place → Type 0 = IsReduced c.args.x c.args.y c.args.w in
    subst P (λ i. record { x = sym fx i; y = sym fy i; w = pos 1 }) (whole_is c.args.x c.args.y c.args.w c.in-Some.x c.in-Some-whole.y c.requires ex ey)

pub returns-2 : goal.returns-2
returns-2 c =
    let j = gcd_at (unsigned_abs c.args.x) (unsigned_abs c.args.y) (abs_of _ _ c.ranges.x c.unsigned_abs.ensures.value) (abs_of _ _ c.ranges.y c.unsigned_abs-2.ensures.value) c.gcd.ensures in
    let k = gcd_at c.gcd.result (unsigned_abs c.args.w) refl (abs_of _ _ c.ranges.w c.unsigned_abs-3.ensures.value) c.gcd-d.ensures in
    let some = divisor_positive c.args.w _ _ c.requires k in
    let low = divisor_below c.args.w _ _ c.requires c.ranges.w k in
    let x = code_quot w128 c.args.x _ c.ranges.x some low in
    let y = code_quot w128 c.args.y _ c.ranges.y some low in
    let w = code_quot w128 c.args.w _ c.ranges.w some low in
    let P : Place → Type 0 = IsReduced c.args.x c.args.y c.args.w in
    subst P (sym (λ i. record { x = x i; y = y i; w = w i })) (reduced_is c.args.x c.args.y c.args.w _ _ c.requires j k)
