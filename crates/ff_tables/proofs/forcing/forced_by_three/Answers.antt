use Rattle.std.proofs.Common.{◌∙◌, sym}
use Rattle.ff_tables.specs.Rows.{has_no_cycle}
use Rattle.ff_tables.proofs.Threes.{rests, dead}
use Rattle.ff_tables.proofs.forcing.forced_by_three.Goals as goal

pub returns-then-may_stand : goal.returns-then-may_stand
returns-then-may_stand g c = rests c.args.terms.now (g.K.Known.known c.args.known.now) c.in-Some.a c.in-Some-value.b
    c.in-Some-value-2.c c.requires.terms (sym c.value.ensures ∙ c.in-Some.is)
    (sym c.value-2.ensures ∙ c.in-Some-value.is) (sym c.value-3.ensures ∙ c.in-Some-value-2.is)
    ((λ i. has_no_cycle (sym c.turned.ensures i) (sym c.turned-2.ensures i) (sym c.turned-3.ensures i))
    ∙ sym c.may_stand.ensures ∙ c.if-may_stand.true)

pub returns-else-may_stand : goal.returns-else-may_stand
returns-else-may_stand g c = dead c.args.terms.now (g.K.Known.known c.args.known.now) c.in-Some.a c.in-Some-value.b
    c.in-Some-value-2.c c.requires.terms (sym c.value.ensures ∙ c.in-Some.is)
    (sym c.value-2.ensures ∙ c.in-Some-value.is) (sym c.value-3.ensures ∙ c.in-Some-value-2.is)
    ((λ i. has_no_cycle (sym c.turned.ensures i) (sym c.turned-2.ensures i) (sym c.turned-3.ensures i))
    ∙ sym c.may_stand.ensures ∙ c.if-may_stand.false)
