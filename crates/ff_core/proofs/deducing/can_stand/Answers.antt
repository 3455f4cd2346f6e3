use Rattle.std.proofs.Common.{List, subst, rules, refl, arith, length, ◌<◌, ◌≡◌, slice_get, Some}
use Rattle.std.proofs.lemmas.Option.{slice_get_read}
use Rattle.ff_tables.specs.declared.terms.Constraint.{Constraint}
use Rattle.ff_core.proofs.Standing.{can_by}
use Rattle.ff_core.proofs.deducing.can_stand.Goals as goal

pub returns : goal.returns
returns c =
    let l : c.in-Forced.c < length c.as_slice-constraints.result.now = omega arith in
    let there : slice_get c.args.system.now.constraints c.in-Forced.c ≡ Some c.index-constraints-c.result =
    subst (λ (xs : List Constraint). slice_get xs c.in-Forced.c ≡ Some c.index-constraints-c.result) c.as_slice-constraints.ensures
    (slice_get_read c.as_slice-constraints.result.now _ _ _ refl l c.index-constraints-c.is) in
    let by = can_by c.args.system.now.constraints c.args.facts.now c.args.var c.args.fact c.in-Forced.c c.index-constraints-c.result
    (search rules) there (omega arith) in
    (λ t. by.0 (c.forces.ensures.0 t), λ s. c.forces.ensures.1 (by.1 s))
