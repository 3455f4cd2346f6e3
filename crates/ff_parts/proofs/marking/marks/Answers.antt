use Rattle.std.proofs.Common.{rules, ◌≡◌, ◌<◌, List, length, subst, arith}
use Rattle.ff_tables.specs.declared.terms.Constraint.{Constraint}
use Rattle.ff_propagate.specs.Facts.{value_at}
use Rattle.std.proofs.lemmas.Option.{slice_get_within}
use Rattle.ff_parts.proofs.Following.{con_read}
use Rattle.ff_parts.proofs.Touching.{marks_on}
use Rattle.ff_parts.proofs.marking.marks.Goals as goal

pub loop-c-preserved : goal.loop-c-preserved
loop-c-preserved c =
    let cons = c.args.system.now.constraints in
    let at = con_read cons _ c.loop-c.c c.index-constraints-c.result c.as_slice-constraints.ensures
    (subst (λ (cs : List Constraint). c.loop-c.c < length cs) c.as_slice-constraints.ensures
    c.loop-c-test.true) c.index-constraints-c.is in (
      (search rules),
      (search rules),
      marks_on (value_at c.args.facts.now) c.args.part_of.now cons c.loop-c.c c.mark.result
          c.index-constraints-c.result c.loop-c.marks.items c.push_reserved.new.self.items c.loop-c.invariant.0
          at c.mark.ensures c.push_reserved.ensures.items c.loop-c.invariant.2,
    )

pub returns : goal.returns
returns c =
    let long : length c.loop-c.marks.items ≡ length c.args.system.now.constraints = search rules in
    record {
      as_many = long;
      each = λ d con at. c.loop-c.invariant.2 d con
          (omega (arith, slice_get_within c.args.system.now.constraints d con at, long, c.loop-c.invariant.0)) at;
    }
