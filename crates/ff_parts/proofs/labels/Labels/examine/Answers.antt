use Rattle.std.proofs.Common.{◌<◌, List, subst, sym, arith, length}
use Rattle.ff_tables.specs.declared.terms.Term.{Term}
use Rattle.ff_tables.specs.Orders.{term_at}
use Rattle.ff_propagate.specs.Facts.{value_at}
use Rattle.ff_parts.specs.Labels.{Reaches}
use Rattle.ff_parts.proofs.Reaching.{queue_room, examined_on}
use Rattle.ff_parts.proofs.labels.Labels.examine.Goals as goal

pub reach-requires-clause-room : goal.reach-requires-clause-room
reach-requires-clause-room c none =
    let l : c.loop-j.j < length c.args.con.now.terms = subst (λ (ts : List Term). c.loop-j.j < length ts)
    c.as_slice-terms.ensures.value c.loop-j-test.true in
    let within = subst (λ (ts : List Term). (term_at ts c.loop-j.j).var < c.args.system.now.vars)
    (sym c.as_slice-terms.ensures.value)
    ((c.args.system.now.fit c.requires.among.0 c.args.con.now c.requires.among.1).within c.loop-j.j l) in
    let r = queue_room c.args.system.now.vars c.args.system.now.constraints (value_at c.args.facts.now)
    c.loop-j.self c.loop-j.invariant.spreading.labelling _ within none in
    omega (arith, r, c.loop-j.invariant.spreading.labelling.room)

pub loop-j-preserved : goal.loop-j-preserved
loop-j-preserved c =
    let l : c.loop-j.j < length c.args.con.now.terms = subst (λ (ts : List Term). c.loop-j.j < length ts)
    c.as_slice-terms.ensures.value c.loop-j-test.true in
    examined_on c.args.system.now.vars c.args.system.now.constraints c.args.system.now.fit
    (value_at c.args.facts.now) c.args.part c.requires.among.0 c.args.con.now c.requires.among.1
    c.loop-j.j l
    c.args.self.now c.loop-j.self c.reach.new.self c.loop-j.invariant
    (subst (λ (ts : List Term). Reaches (value_at c.args.facts.now) c.args.part (term_at ts c.loop-j.j).var
    c.loop-j.self c.reach.new.self) c.as_slice-terms.ensures.value c.reach.ensures)
