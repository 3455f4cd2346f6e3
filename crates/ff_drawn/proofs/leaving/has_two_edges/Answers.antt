use Rattle.std.proofs.Common.{◌==◌, ◌∙◌, ap, arith}
use Rattle.std.proofs.lemmas.Bool.{false≢true, eqb-true}
use Rattle.ff_basics.proofs.Numbers.{same_number}
use Rattle.ff_drawn.proofs.TwoDarts.{two_from_darts, darts_from_two}
use Rattle.ff_drawn.proofs.leaving.has_two_edges.Goals as goal

pub returns-then-start-darts : goal.returns-then-start-darts
returns-then-start-darts c =
    let r = c.requires in
    let l = r.within in
    let s = r.starts.each c.args.v (omega (arith, l)) in
    (λ h. absurd (false≢true h), λ h. let l = (darts_from_two _ _ _ r.graph r.darts _ _ s h).0 in absurd (omega (arith, l, c.if-start-darts.true)))

pub returns : goal.returns
returns c =
    let r = c.requires in
    let l = r.within in
    let s = r.starts.each c.args.v (omega (arith, l)) in (
      λ h. two_from_darts _ _ _ r.graph r.darts _ _ s c.if-start-darts.false (eqb-true _ _ h),
      λ h. ap (λ t. t == c.args.v) (darts_from_two _ _ _ r.graph r.darts _ _ s h).1 ∙ same_number c.args.v,
    )
