use Rattle.std.proofs.Common.{◌+◌, ◌<◌, arith, subst, refl, length, slice_index, List}
use Rattle.ff_basics.proofs.Options.{same_value}
use Rattle.ff_tables.specs.declared.terms.Constraint.{Constraint}
use Rattle.ff_propagate.specs.Trails.{Rests}
use Rattle.ff_propagate.proofs.TrailSteps.{grows_trans}
use Rattle.ff_propagate.proofs.TrailVisits.{visits, con_read}
use Rattle.ff_propagate.proofs.trail.Trail.follow.Goals as goal

pub examine-requires-clause-con : goal.examine-requires-clause-con
examine-requires-clause-con c = con_read c.args.system.now.constraints _
    (slice_index c.of-list.result.now c.loop-k.k) c.index-constraints-number.result
    c.as_slice-constraints.ensures
    (subst (λ (cs : List Constraint). slice_index c.of-list.result.now c.loop-k.k < length cs)
    c.as_slice-constraints.ensures (c.of-list.ensures.below c.loop-k.k c.loop-k-test.true))
    c.index-constraints-number.is

pub returns-then-examine-clause-grows : goal.returns-then-examine-clause-grows
returns-then-examine-clause-grows c = grows_trans c.args.system.now.constraints c.args.self.now c.loop-k.self
    c.examine.new.self c.loop-k.invariant.1 c.examine.ensures.grows

pub loop-k-preserved : goal.loop-k-preserved
loop-k-preserved c =
    let cons = c.args.system.now.constraints in
    let n = slice_index c.of-list.result.now c.loop-k.k in
    let here = con_read cons _ n c.index-constraints-number.result c.as_slice-constraints.ensures
    (subst (λ (cs : List Constraint). n < length cs) c.as_slice-constraints.ensures
    (c.of-list.ensures.below c.loop-k.k c.loop-k-test.true)) c.index-constraints-number.is in (
      c.examine.ensures.trail,
      grows_trans cons c.args.self.now c.loop-k.self c.examine.new.self c.loop-k.invariant.1
          c.examine.ensures.grows,
      visits cons c.loop-k.self c.examine.new.self (c.args.head + 1) c.loop-k.k n c.of-list.result.now
          c.examine.ensures.grows (omega (arith, c.requires.head, c.loop-k.invariant.1.count)) refl
          c.loop-k.invariant.2
          (λ con is.
          subst (λ (d : Constraint). Rests c.examine.new.self (length c.loop-k.self.steps.items) d)
          (same_value here is) (c.examine.ensures.rests c.if-examine.false)),
    )
